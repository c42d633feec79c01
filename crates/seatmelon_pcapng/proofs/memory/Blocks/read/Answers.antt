use Rattle.std.proofs.Common.{◌∙◌, ◌+◌, ◌-◌, ◌<◌, ◌++◌, append-nil, ap, length-drop, length-take, sym, slice_range, take, drop, arith, subst}
use Rattle.std.specs.Io.KnownBytes.{Keeps, prepend_known}
use Rattle.seatmelon_pcapng.specs.Memory.{bytes_of}
use Rattle.seatmelon_pcapng.proofs.Filled.{filled_none, filled_part, Keeps-more}
use Rattle.seatmelon_pcapng.proofs.Ways.{Keeps-map}
use Rattle.seatmelon_pcapng.proofs.memory.Blocks.read.Goals as goal

pub returns-in_err-n-clause-bytes : goal.returns-in_err-n-clause-bytes
returns-in_err-n-clause-bytes g c =
    let old = g.S.Source.remaining c.args.source.now in
    let new = g.S.Source.remaining c.read.new.self in
    let b = c.args.self.now in
    let memory = c.deref_mut.result.now in
    let same = filled_none b.start b.end ((b.start + c.args.most) - b.end) b.memory.len memory c.read.new.buf _ (omega arith) (omega arith) (omega arith) in
    subst (λ l. Keeps (prepend_known (bytes_of b) old) (prepend_known l new)) (ap (λ l. slice_range l b.start b.end) (sym c.deref_mut.ensures.value) ∙ sym same)
    (Keeps-map (λ l. bytes_of b ++ l) old new c.in_err-n.ensures.bytes)

pub returns-clause-bytes : goal.returns-clause-bytes
returns-clause-bytes g c =
    let old = g.S.Source.remaining c.args.source.now in
    let new = g.S.Source.remaining c.read.new.self in
    let b = c.args.self.now in
    let n = c.in_ok-n.n in
    let memory = c.deref_mut.result.now in
    let more = filled_part b.start b.end ((b.start + c.args.most) - b.end) n b.memory.len memory c.read.new.buf _ (omega arith) (omega arith) c.in_ok-n.ensures.bound.0 (omega arith) in
    subst (λ l. Keeps (prepend_known (bytes_of b) old) (prepend_known l new))
    (ap (λ l. slice_range l b.start b.end ++ take n c.read.new.buf) (sym c.deref_mut.ensures.value) ∙ sym more)
    (Keeps-more old new (bytes_of b) (take n c.read.new.buf) c.in_ok-n.ensures.bytes.0)

pub returns-clause-end : goal.returns-clause-end
returns-clause-end g c none =
    let b = c.args.self.now in
    let n = c.in_ok-n.n in
    let memory = c.deref_mut.result.now in
    let held = length-take (b.end - b.start) (drop b.start b.memory.items) in
    let behind = length-drop b.start b.memory.items in
    let room : 0 < (b.start + c.args.most) - b.end = omega (arith, held, behind, c.requires.some) in (
      filled_part b.start b.end ((b.start + c.args.most) - b.end) n b.memory.len memory c.read.new.buf _ (omega arith) (omega arith) c.in_ok-n.ensures.bound.0 (omega arith)
          ∙ ap (λ k. slice_range memory b.start b.end ++ take k c.read.new.buf) none ∙ append-nil (slice_range memory b.start b.end)
          ∙ ap (λ l. slice_range l b.start b.end) c.deref_mut.ensures.value,
      c.in_ok-n.ensures.bytes.1 none (omega (arith, room, c.read.auto.buf)),
    )
