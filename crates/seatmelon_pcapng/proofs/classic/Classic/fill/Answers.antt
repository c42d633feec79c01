use Rattle.std.proofs.Common.{◌≡◌, ◌∙◌, ◌+◌, ◌-◌, rules, arith, length, take, subst, sym}
use Rattle.std.specs.Io.KnownBytes.{Consumes}
use Rattle.std.proofs.KnownBytes.{Consumes-trans}
use borrow.Rule.Slice.PartMut.{put_mid}
use Rattle.rasta_pcap.specs.Noting.{NotesOn}
use Rattle.seatmelon_pcapng.specs.Classics.{left_in, remarks_left}
use Rattle.seatmelon_pcapng.specs.Giving.{noted_by}
use Rattle.seatmelon_pcapng.proofs.Filled.{filled_more}
use Rattle.seatmelon_pcapng.proofs.Gives.{noted-filled}
use Rattle.seatmelon_pcapng.proofs.Staying.{Stays-trans}
use Rattle.seatmelon_pcapng.proofs.classic.Classic.fill.Goals as goal

pub loop-n-preserved : goal.loop-n-preserved
loop-n-preserved g c =
    let remaining = g.S.Source.remaining in
    let old = c.args.self.now in
    let before = c.loop-n.self in
    let new = c.give_packet.new.self in
    let filled = c.loop-n.filled in
    let n = c.give_packet.result in
    let more = filled_more filled (length c.loop-n.buf - filled) n c.loop-n.buf c.give_packet.new.buf c.loop-n.invariant.within c.give_packet.ensures.bound in record {
      ready = c.give_packet.ensures.ready;
      within = search rules;
      size = search rules;
      left = subst (Consumes (left_in remaining old) (left_in remaining new)) (sym more)
          (Consumes-trans (left_in remaining old) (left_in remaining before) (left_in remaining new) (take filled c.loop-n.buf) (take n c.give_packet.new.buf)
          c.loop-n.invariant.left c.give_packet.ensures.left);
      remarks = Stays-trans (remarks_left remaining old) (remarks_left remaining before) (remarks_left remaining new) c.loop-n.invariant.remarks c.give_packet.ensures.remarks;
      source = c.give_packet.ensures.source ∙ c.loop-n.invariant.source;
      failures = c.give_packet.ensures.failures ∙ c.loop-n.invariant.failures;
    }

pub returns-in-0-clause-noted : goal.returns-in-0-clause-noted
returns-in-0-clause-noted g c =
    let remaining = g.S.Source.remaining in
    let notes = g.S.Source.notes in
    let old = c.args.self.now in
    let before = c.loop-n.self in
    let new = c.give_packet.new.self in
    let filled = c.loop-n.filled in
    let n = c.give_packet.result in
    let room = length c.loop-n.buf - filled in
    let buf = put_mid filled room c.loop-n.buf c.give_packet.new.buf in
    let more = filled_more filled room n c.loop-n.buf c.give_packet.new.buf c.loop-n.invariant.within c.give_packet.ensures.bound in
    let bytes = subst (Consumes (left_in remaining old) (left_in remaining new)) (sym more)
    (Consumes-trans (left_in remaining old) (left_in remaining before) (left_in remaining new) (take filled c.loop-n.buf) (take n c.give_packet.new.buf)
    c.loop-n.invariant.left c.give_packet.ensures.left) in
    let stays = Stays-trans (remarks_left remaining old) (remarks_left remaining before) (remarks_left remaining new) c.loop-n.invariant.remarks c.give_packet.ensures.remarks in
    let none : filled + n ≡ filled = omega (arith, c.in-0.is) in
    subst (λ m. NotesOn (noted_by remaining notes) old new (take m buf)) none
    (noted-filled remaining notes old new (take (filled + n) buf) (c.give_packet.ensures.source ∙ c.loop-n.invariant.source) bytes stays)
