use Rattle.std.proofs.Common.{◌≡◌, false, sym, ◌∙◌, arith}
use Rattle.rasta_check.proofs.Prelude.{is_kind, end_of, other_side, ConnectionRequest}
use Rattle.rasta_check.proofs.Model.MakeRows.{passed, cs_is, made_by}
use Rattle.rasta_check.proofs.Model.NamedPositions.{numbered_once}
use Rattle.rasta_check.proofs.Model.InvariantOfRuns.{all_held, few_made}
use Rattle.rasta_check.proofs.Model.HandedUnits.{judged_after}
use Rattle.rasta_check.proofs.laws.confirmed.Goals as goal

pub returns : goal.returns
returns c p ws w side r within x clock why after i mk a =
    let e = end_of w side in
    let peer = end_of w (other_side side) in
    let g = all_held p ws w side r within in
    let h = g.mine.held in
    let pass = passed p e x clock why mk.0 in
    let opens : is_kind ConnectionRequest x.kind ≡ false = grind (arith, made_by p e x clock why pass, h.opening) in
    let cs = (cs_is e x.kind x.cs (judged_after e x.kind i a opens) pass.cs).1 in
    let last = h.accepts.last i a in
    let once = numbered_once peer.made (few_made p w within (other_side side)) g.theirs.held.list.numbered in
    ((last.m, last.there, last.same ∙ sym cs), λ j n there same. once j i n last.m there last.there (same ∙ (cs ∙ sym last.same)))
