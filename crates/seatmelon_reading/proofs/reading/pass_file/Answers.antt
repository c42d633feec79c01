use Rattle.std.proofs.Common.{◌≡◌, subst, sym, take}
use Rattle.sha2.specs.Sha256.{sha256}
use Rattle.seatmelon_capture.specs.Header.{header_in}
use Rattle.seatmelon_reading.specs.Opened.{left_behind, noted_behind}
use Rattle.seatmelon_reading.specs.Summing.{summed_by}
use Rattle.seatmelon_reading.proofs.Opened.{IfSome-then}
use Rattle.seatmelon_reading.proofs.reading.pass_file.Goals as goal

pub returns-clause-summed : goal.returns-clause-summed
returns-clause-summed g c start opened =
    IfSome-then (noted_behind c.in_ok-format.keeping) (λ file. c.into_digest.result ≡ sha256 file) (left_behind g.S.Source.remaining start)
    (λ file noted. c.into_digest.ensures file (subst (λ s. summed_by s file) (sym c.into_inner.ensures) noted.1))
    (c.in_ok-format.ensures.noted start opened)

pub returns-clause-header : goal.returns-clause-header
returns-clause-header g c start opened =
    IfSome-then (noted_behind c.in_ok-format.keeping) (λ file. c.header.result ≡ header_in (take 24 file)) (left_behind g.S.Source.remaining start)
    (λ file noted. c.header.ensures file noted.0)
    (c.in_ok-format.ensures.noted start opened)
