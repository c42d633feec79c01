use Rattle.std.proofs.Common.{◌∙◌, ap}
use Rattle.seatmelon_many.proofs.auditing.audit_of.Goals as goal

pub returns-in_ok-write_to-in-Ok : goal.returns-in_ok-write_to-in-Ok
returns-in_ok-write_to-in-Ok g c = rw (ap (λ (w : _). w.device) c.new-source.ensures.device ∙ c.new.ensures) at c.in-Ok.ensures
