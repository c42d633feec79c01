use Rattle.std.proofs.Common.{◌∙◌, ◌+◌, ◌-◌, ◌≤◌, ◌++◌, rules, arith, length, take, ap, subst, le_refl, sym}
use Rattle.std.proofs.lemmas.Slice.{take-put_mid_below}
use Rattle.std.specs.Io.KnownBytes.{Consumes}
use Rattle.std.proofs.KnownBytes.{Consumes-trans}
use borrow.Rule.Slice.PartMut.{put_mid}
use Rattle.rasta_pcap.proofs.Filled.{slice_range-put_mid, take_split}
use Rattle.seatmelon_cooked.proofs.filling.fill.Goals as goal

pub loop-filled-preserved : goal.loop-filled-preserved
loop-filled-preserved g c =
    let from = c.loop-filled.filled in
    let room = c.args.len - from in
    let within : from ≤ length c.loop-filled.buf = omega arith in
    let part = slice_range-put_mid from room c.in-Ok.n c.loop-filled.buf c.read.new.buf within c.in-Ok.ensures.bound.0 in
    let joined = take_split from (from + c.in-Ok.n) c.loop-filled.buf (put_mid from room c.loop-filled.buf c.read.new.buf) (omega arith)
    (take-put_mid_below _ _ _ _ _ (le_refl _) within) in
    let front = ap (λ l. take from c.loop-filled.buf ++ l) (sym part) ∙ joined in record {
      within = search rules;
      consumed = subst (Consumes _ _) front (Consumes-trans _ _ _ _ _ c.loop-filled.invariant.consumed c.in-Ok.ensures.bytes.0);
      size = search rules;
    }
