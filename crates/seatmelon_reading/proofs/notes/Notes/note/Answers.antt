use Rattle.std.proofs.Common.{◌∙◌, Ok, Some, ap, refl, subst, sym}
use Rattle.std.proofs.lemmas.Result.{IfOk-weaker}
use Rattle.rasta_pcap.specs.Captured.{numbered}
use Rattle.rasta_udp.specs.Frame.{packet_of}
use Rattle.seatmelon_reading.specs.Sights.{IsSightOf}
use Rattle.seatmelon_reading.specs.Times.{time_told}
use Rattle.seatmelon_reading.specs.declared.sight.Sight.{Sight}
use Rattle.seatmelon_reading.proofs.Sorts.{seen_of}
use Rattle.seatmelon_reading.proofs.notes.Notes.note.Goals as goal

pub returns-in-Ok-clause-noted : goal.returns-in-Ok-clause-noted
returns-in-Ok-clause-noted c = IfOk-weaker c.add.result _ _
    (λ _ noted p without records r before is next timed stands seen.
    let read = subst (λ (s : Sight). IsSightOf p without (numbered r) s) c.in-Ok.ensures seen in
    noted p without records (record { captured = r; packet = packet_of c.in-Ok.found.now }) before is next
    (c.time_told-time.ensures ∙ ap (time_told c.args.self.now.zero_is_no_time) timed) stands (seen_of p without r (Ok (Some (packet_of c.in-Ok.found.now))) read.0 read.1) refl)
    c.add.ensures.noted

pub returns-in-Err-clause-noted : goal.returns-in-Err-clause-noted
returns-in-Err-clause-noted c p without records r before is next timed stands seen =
    let none = c.in-Err.ensures p without r seen in
    c.pass.ensures.noted p without records r before is (sym is ∙ next)
    (c.time_told-time.ensures ∙ ap (time_told c.args.self.now.zero_is_no_time) timed) stands none.0 none.1
