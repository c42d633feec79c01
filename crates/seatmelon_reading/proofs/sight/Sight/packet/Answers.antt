use Rattle.std.proofs.Common.{◌∙◌, None, Some, Ok, Err, ap, subst, sym}
use Rattle.rasta_pcap.specs.Captured.{numbered}
use Rattle.seatmelon_reading.specs.Sights.{IsSightOf}
use Rattle.seatmelon_reading.specs.declared.passed_over.WhyPassed.{WhyPassed}
use Rattle.seatmelon_reading.specs.declared.sight.Sight.{Sight}
use Rattle.seatmelon_reading.proofs.Sorts.{left_out_none, left_out_why, seen_of, why_of}
use Rattle.seatmelon_reading.proofs.sight.Sight.packet.Goals as goal

pub returns-in-LeftOut : goal.returns-in-LeftOut
returns-in-LeftOut c p without r seen =
    let left = subst (λ (s : Sight). IsSightOf p without (numbered r) s) c.in-LeftOut.is seen in
    (left_out_none p without r left, left_out_why p without r left)

pub returns-in-Unreadable : goal.returns-in-Unreadable
returns-in-Unreadable c p without r seen =
    let read = subst (λ (s : Sight). IsSightOf p without (numbered r) s) c.in-Unreadable.is seen in
    (seen_of p without r (Err _) read.0 read.1, why_of p without r (Err _) read.0 read.1)

pub returns-in-Passed : goal.returns-in-Passed
returns-in-Passed c p without r seen =
    let read = subst (λ (s : Sight). IsSightOf p without (numbered r) s) c.in-Passed.is seen in
    (seen_of p without r (Ok None) read.0 read.1, why_of p without r (Ok None) read.0 read.1 ∙ ap (λ (w : WhyPassed). Some w) (sym read.2))
