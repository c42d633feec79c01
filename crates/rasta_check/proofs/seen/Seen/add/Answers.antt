use Rattle.std.proofs.Common.{arith, ap, ◌∙◌}
use Rattle.rasta_check.specs.Capture.Lists.{copy_of}
use Rattle.rasta_check.specs.Internals.Sighting.{first_ts_of}
use Rattle.rasta_check.proofs.Middle.KeptForms.{kept_of_parts}
use Rattle.rasta_check.proofs.seen.Seen.add.Goals as goal

pub returns-clause-ok : goal.returns-clause-ok
returns-clause-ok c =
    kept_of_parts (copy_of (c.args.place, c.args.pdu.now)) _ c.args.self.now c.sn.result c.base_for-base.result _ c.message_count.result c.offset_of-self-inside.result c.first_ts_for-first_ts.result
    c.kind.result c.in_ok-add_sight.field-0 c.add_sight.new.sights.items _ c.confirm.new.confirmations.items
    (let e = c.is_followed_by.ensures in let n = c.if-not-is_followed_by.false in cc) c.offset_of-self-inside.ensures
    (c.first_ts_for-first_ts.ensures ∙ ap (first_ts_of c.args.self.now.sights c.args.self.now.first_ts) c.ts.ensures)
    c.self.view_is c.sn.ensures c.base_for-base.ensures (omega (arith, c.sn-2.ensures, c.sn-2.type_inv, c.base_for-base.type_inv)) c.kind.ensures c.message_count.ensures c.try_reserve.ensures.items
    c.in_ok-add_sight.ensures.ok c.if-not-branch.false c.confirm.ensures
