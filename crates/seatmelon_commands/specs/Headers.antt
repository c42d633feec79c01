-- What a failure tells of the header of a capture.
use Rattle.std.specs.Prelude.{◌≡◌, ℕ, List, take, Option, Some, ⊤}
use Rattle.std.specs.Option.{ForSome}
use Rattle.seatmelon_capture.specs.declared.header.FileHeader.{FileHeader}
use Rattle.seatmelon_capture.specs.Header.{header_in}
use Rattle.seatmelon_failures.specs.declared.failure.CaptureFailure.{CaptureFailure}
use Rattle.seatmelon_failures.specs.declared.failure.CaptureFailure.TheVariants.{Device, Refused}

-- what is told of a header is so
abbrev pub HeaderFits : (Option FileHeader → Type 0) → CaptureFailure → Type 0
HeaderFits fits (Refused refused) = fits refused.refusal.header
HeaderFits fits (Device failure) = ⊤

-- this header is told
abbrev pub TellsHeader : Option FileHeader → CaptureFailure → Type 0
TellsHeader header failure = HeaderFits (λ told. told ≡ header) failure

-- a header is that of a file
abbrev pub IsHeaderOf : List ℕ → Option FileHeader → Type 0
IsHeaderOf file header = ForSome header (λ h. header_in (take 24 file) ≡ Some h)

-- a header that is told is that of the file
abbrev pub TellsHeaderOf : List ℕ → CaptureFailure → Type 0
TellsHeaderOf file failure = HeaderFits (IsHeaderOf file) failure
