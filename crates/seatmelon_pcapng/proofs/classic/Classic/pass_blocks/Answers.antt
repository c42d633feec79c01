use Rattle.std.proofs.Common.{◌≡◌, ◌∙◌, ◌+◌, ap, length, sym, arith}
use Rattle.seatmelon_pcapng.specs.Classics.{state_with}
use Rattle.seatmelon_pcapng.specs.Comings.{Tells}
use Rattle.seatmelon_pcapng.specs.Memory.{bytes_held, bytes_of}
use Rattle.seatmelon_pcapng.specs.Readings.{next_of}
use Rattle.seatmelon_pcapng.specs.Readings.Next.{goes}
use Rattle.seatmelon_pcapng.specs.Sections.{interfaces_in, order_in}
use Rattle.seatmelon_pcapng.specs.declared.coming.Coming.TheVariants.{Block}
use Rattle.seatmelon_pcapng.specs.declared.memory.Blocks.{Blocks}
use Rattle.seatmelon_pcapng.proofs.Comings.{block-there, tells-same, told-known}
use Rattle.seatmelon_pcapng.proofs.Ways.{err_so, not_err_so}
use Rattle.seatmelon_pcapng.proofs.classic.Classic.pass_blocks.Goals as goal
use Rattle.seatmelon_pcapng.proofs.classic.Classic.pass_blocks.Goals.{then-is_err-via-then-is_err, then-is_err-via-else-is_err+then-len-ge-ENOUGH}

pub go-requires-clause-next : goal.go-requires-clause-next
go-requires-clause-next g c =
    let old = c.loop-front.self in
    told-known (λ rest. next_of (state_with old rest) ≡ goes c.in-Block.front c.in-Block.turn) (bytes_of old.blocks) (g.S.Source.remaining old.source) (c.in-Block.ensures.0 old.at)

pub go-requires-clause-whole : goal.go-requires-clause-whole
go-requires-clause-whole g c =
    let old = c.loop-front.self in
    (block-there (order_in old.section) (interfaces_in old.section) (bytes_of old.blocks) c.in-Block.front c.in-Block.turn c.in-Block.ensures).1

pub returns-then-is_err-clause-tells : goal.returns-then-is_err-clause-tells
returns-then-is_err-clause-tells g c none = elim c.then-is_err.branch [
  | then-is_err-via-then-is_err w ↦
      let old = c.loop-front.self in
      let new = c.go.new.self in
      let kept = err_so c.go.result ((order_in new.section ≡ order_in old.section) × (interfaces_in new.section ≡ interfaces_in old.section) × (new.blocks ≡ old.blocks)) c.go.ensures.kept
      (sym c.is_err.ensures.value ∙ w.if-is_err.true) in
      tells-same (order_in old.section) (order_in new.section) (interfaces_in old.section) (interfaces_in new.section) (bytes_of old.blocks) (bytes_of new.blocks)
      (Block c.in-Block.front c.in-Block.turn) kept.0 kept.1 (ap (λ (b : Blocks). bytes_of b) kept.2) c.in-Block.ensures
  | then-is_err-via-else-is_err+then-len-ge-ENOUGH w ↦
      let new = c.go.new.self in
      let size : length (bytes_held new.held) ≡ 0 = ap length none in
      absurd {A = Tells (order_in new.section) (interfaces_in new.section) (bytes_of new.blocks) (Block c.in-Block.front c.in-Block.turn)} (omega (arith, size))
]

pub loop-front-smaller : goal.loop-front-smaller
loop-front-smaller g c =
    let old = c.loop-front.self in
    let there = block-there (order_in old.section) (interfaces_in old.section) (bytes_of old.blocks) c.in-Block.front c.in-Block.turn c.in-Block.ensures in
    let passed = not_err_so c.go.result (length (bytes_of c.go.new.self.blocks) + c.in-Block.front.len ≡ length (bytes_of old.blocks)) c.go.ensures.passed
    (sym c.is_err.ensures.value ∙ c.if-is_err.false) in
    omega (arith, passed, there.0)
