use Rattle.std.proofs.Common.{[], ◌∙◌, ◌+◌, ◌-◌, ◌≤◌, ◌++◌, rules, append-nil, arith, length, take, ap, subst, le_refl, sym}
use Rattle.std.proofs.lemmas.Slice.{take-put_mid_below}
use Rattle.std.specs.Io.KnownBytes.{Consumes}
use Rattle.std.proofs.KnownBytes.{Consumes-kept, Consumes-trans}
use borrow.Rule.Slice.PartMut.{put_mid}
use Rattle.rasta_pcap.proofs.Filled.{slice_range-put_mid, take_split}
use Rattle.rasta_pcap.proofs.Noting.{NotesOn-then}
use Rattle.rasta_pcap.specs.Noting.{NotesOn}
use Rattle.rasta_pcap.proofs.filling.fill.Goals as goal

pub loop-filled-preserved : goal.loop-filled-preserved
loop-filled-preserved g c =
    let from = c.loop-filled.filled in
    let room = c.args.len - from in
    let within : from ≤ length c.loop-filled.buf = omega arith in
    let part = slice_range-put_mid from room c.in-Ok.n c.loop-filled.buf c.read.new.buf within c.in-Ok.ensures.bound.0 in
    let joined = take_split from (from + c.in-Ok.n) c.loop-filled.buf (put_mid from room c.loop-filled.buf c.read.new.buf) (omega arith)
    (take-put_mid_below _ _ _ _ _ (le_refl _) within) in
    let front = ap (λ l. take from c.loop-filled.buf ++ l) (sym part) ∙ joined in (
      search rules,
      subst (Consumes _ _) front (Consumes-trans _ _ _ _ _ c.loop-filled.invariant.1 c.in-Ok.ensures.bytes.0),
      search rules,
      search rules,
      subst (NotesOn g.S.Source.notes c.args.reader.now c.read.new.self) front
          (NotesOn-then g.S.Source.notes c.args.reader.now c.loop-filled.reader c.read.new.self (take from c.loop-filled.buf) (take c.in-Ok.n c.read.new.buf)
          c.loop-filled.invariant.4 c.in-Ok.ensures.noted),
    )

pub returns-in-Err-clause-filled : goal.returns-in-Err-clause-filled
returns-in-Err-clause-filled g c = tt

pub returns-in-Err-clause-steady : goal.returns-in-Err-clause-steady
returns-in-Err-clause-steady g c = tt

pub returns-in-Err-clause-passed : goal.returns-in-Err-clause-passed
returns-in-Err-clause-passed g c = (
  take c.loop-filled.filled c.loop-filled.buf,
  Consumes-kept _ _ _ _ c.loop-filled.invariant.1 c.in-Err.ensures.bytes,
  subst (NotesOn g.S.Source.notes c.args.reader.now c.read.new.self) (append-nil (take c.loop-filled.filled c.loop-filled.buf))
      (NotesOn-then g.S.Source.notes c.args.reader.now c.loop-filled.reader c.read.new.self (take c.loop-filled.filled c.loop-filled.buf) [] c.loop-filled.invariant.4 c.in-Err.ensures.noted),
)

pub returns-after-loop-filled-clause-passed : goal.returns-after-loop-filled-clause-passed
returns-after-loop-filled-clause-passed g c = (_, c.loop-filled.invariant.1, c.loop-filled.invariant.4)

pub returns-in-Ok-eq0-clause-passed : goal.returns-in-Ok-eq0-clause-passed
returns-in-Ok-eq0-clause-passed g c = (
  _,
  Consumes-trans _ _ _ _ _ c.loop-filled.invariant.1 c.in-Ok-eq0.ensures.bytes.0,
  NotesOn-then g.S.Source.notes c.args.reader.now c.loop-filled.reader c.read.new.self (take c.loop-filled.filled c.loop-filled.buf) (take c.in-Ok-eq0.field-0 c.read.new.buf)
      c.loop-filled.invariant.4 c.in-Ok-eq0.ensures.noted,
)
