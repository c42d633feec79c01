use Rattle.std.proofs.Common.{◌≡◌, length}
use Rattle.seatmelon_pcapng.specs.Interfaces.{option_of}
use Rattle.seatmelon_pcapng.proofs.interface.option_of.Given as goal

-- what is found in the rest is found in the whole list
abbrev pub invariant-loop-rest : goal.invariant-loop-rest
invariant-loop-rest l = option_of l.order l.code l.options ≡ option_of l.order l.code l.rest

abbrev pub decreases-loop-rest : goal.decreases-loop-rest
decreases-loop-rest l = length l.rest
