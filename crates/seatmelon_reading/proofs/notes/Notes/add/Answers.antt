use Rattle.std.proofs.Common.{◌≡◌, ◌∙◌, suc, ◌<◌, [], ◌∷◌, ◌++◌, length, ap, refl, sym, subst, arith}
use Rattle.rasta_udp.specs.Frame.{Packet, packet_of}
use Rattle.seatmelon_reading.specs.Noted.{last_inside}
use Rattle.seatmelon_reading.specs.Tapes.{numbered_with, taped_in}
use Rattle.seatmelon_reading.specs.Window.{StandsSo}
use Rattle.seatmelon_reading.specs.Times.{AreTimes, time_of}
use Rattle.seatmelon_reading.specs.declared.tape.Tape.{Tape}
use Rattle.seatmelon_reading.specs.declared.times.TimeNotes.{TimeNotes}
use Rattle.seatmelon_reading.specs.declared.window.WindowPlace.{WindowPlace}
use Rattle.seatmelon_reading.proofs.Noted.{inside_bound, noted_before, noted_behind, noted_inside, same_sighting}
use Rattle.seatmelon_reading.proofs.notes.Notes.add.Goals as goal

pub returns-in-Before-clause-noted : goal.returns-in-Before-clause-noted
returns-in-Before-clause-noted c p without records s noted same next timed stands some crossed =
    let number = c.args.number in
    let count : number ≡ suc (length records) = sym same ∙ next in
    let fits : number < 4294967296 = c.ranges.number.fits in
    let times = c.add.ensures c.args.self.now.zero_is_no_time records s.captured noted.times (omega (arith, count, fits)) same timed in
    let last = c.last_with-self.ensures p c.args.self.now.zero_is_no_time records s.captured noted.last same timed stands in
    noted_before p without records s some c.args.self.now _ noted count fits same refl refl times last refl refl refl c.saturating_add-self.ensures refl (subst (λ (s : WindowPlace). StandsSo p number s) c.in-Before.is stands)

pub returns-in-Behind-clause-noted : goal.returns-in-Behind-clause-noted
returns-in-Behind-clause-noted c p without records s noted same next timed stands some crossed =
    let number = c.args.number in
    let count : number ≡ suc (length records) = sym same ∙ next in
    let fits : number < 4294967296 = c.ranges.number.fits in
    let times = c.add.ensures c.args.self.now.zero_is_no_time records s.captured noted.times (omega (arith, count, fits)) same timed in
    let last = c.last_with-self.ensures p c.args.self.now.zero_is_no_time records s.captured noted.last same timed stands in
    let behind = subst (λ (s : WindowPlace). StandsSo p number s) c.in-Behind.is stands in
    noted_behind p without records s some c.args.self.now _ noted count fits same refl refl times last refl refl refl refl c.saturating_add-self-in-Behind.ensures behind.0 behind.1

pub returns-in_ok-add-in-Inside-clause-noted : goal.returns-in_ok-add-in-Inside-clause-noted
returns-in_ok-add-in-Inside-clause-noted c p without records s noted same next timed stands some crossed =
    let number = c.args.number in
    let a = packet_of c.args.found.now in
    let count : number ≡ suc (length records) = sym same ∙ next in
    let fits : number < 4294967296 = c.ranges.number.fits in
    let inside = subst (λ (s : WindowPlace). StandsSo p number s) c.in-Inside.is stands in
    let e = c.in_ok-add_inside-in-Inside.ensures in
    let taped = c.in_ok-add-in-Inside.ensures in
    let added = c.add_inside.new.self in
    let read = e.kept.read in
    let times = c.add.ensures c.args.self.now.zero_is_no_time records s.captured noted.times (omega (arith, count, fits)) same timed in
    let last = c.last_with-self.ensures p c.args.self.now.zero_is_no_time records s.captured noted.last same timed stands in
    let tape = e.kept.tape in
    noted_inside p without records s some c.args.self.now _ noted (read ∙ count) (omega (arith, read, fits)) (same ∙ sym read)
    e.kept.passed e.kept.untimed
    (subst (λ (t : TimeNotes). AreTimes added.zero_is_no_time (records ++ s.captured ∷ []) t) (sym e.kept.times)
    (subst (λ z. AreTimes z (records ++ s.captured ∷ []) c.add.new.self) (sym e.kept.untimed) times))
    (e.kept.last ∙ last ∙ ap (λ z. last_inside p z (records ++ s.captured ∷ [])) (sym e.kept.untimed)) (
      taped.kept ∙ ap (λ (t : Tape). t.is_kept) tape,
      λ kept. taped.added kept ∙ ap (λ (x : Packet). taped_in added.tape ++ numbered_with number x ∷ []) (sym crossed) ∙ ap (λ (t : Tape). taped_in t ++ numbered_with number s.packet ∷ []) tape
          ∙ ap (λ n. taped_in c.args.self.now.tape ++ numbered_with n s.packet ∷ []) (sym same),
    )
    (e.packets ∙ same_sighting added.zero_is_no_time c.args.self.now.packets.items s number c.args.time a same
    (timed ∙ ap (λ z. time_of z s.captured) (sym e.kept.untimed)) crossed)
    (e.channels _ s noted.channels (inside_bound p without records number count fits) (ap (λ (x : Packet). x.channel) (sym crossed)) (ap (λ (x : Packet). x.side) (sym crossed))) e.kept.before e.kept.behind
    (omega (arith, read, inside.0)) (omega (arith, read, inside.1))
