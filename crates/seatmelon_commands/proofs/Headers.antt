-- The header of a capture of which the beginning passed.
use Rattle.std.proofs.Common.{◌≡◌, ◌∙◌, ◌≤◌, ℕ, List, ◌++◌, length, take, Bool, true, false, cond, Option, None, Some, ap, refl, sym, subst, arith, nat_lt}
use Rattle.std.proofs.lemmas.List.{length-take, take-append-le}
use Rattle.std.specs.Io.KnownBytes.{Consumes}
use Rattle.std.specs.Option.{ForSome}
use Rattle.seatmelon_capture.specs.Header.{header_by, header_in}
use Rattle.rasta_pcap.specs.Capture.{order_of}
use Rattle.seatmelon_capture.specs.declared.header.FileHeader.{FileHeader}
use Rattle.seatmelon_pcapng.specs.Through.{IsBegun}
use Rattle.seatmelon_commands.specs.Headers.{IsHeaderOf}

abbrev header_if : Bool → List ℕ → Option FileHeader
header_if short file = cond short None (header_by (order_of file) file)

header_long : (bytes : List ℕ) (h : FileHeader) (short : Bool) → nat_lt (length bytes) 24 ≡ short → Some h ≡ header_if short bytes → 24 ≤ length bytes
header_long bytes h true is e = absurd cc
header_long bytes h false is e = grind (arith, is)

-- a header that stands in the beginning of a file is that of the file
pub header_of_file : (front rest : List ℕ) (header : Option FileHeader) → header ≡ header_in (take 24 front)
    → ForSome header (λ h. header_in (take 24 (front ++ rest)) ≡ Some h)
header_of_file front rest header is h e =
    let told : Some h ≡ header_in (take 24 front) = sym e ∙ is in
    let long : 24 ≤ length (take 24 front) = header_long (take 24 front) h (nat_lt (length (take 24 front)) 24) refl told in
    let within : 24 ≤ length front = omega (arith, long, length-take 24 front) in
    ap header_in (take-append-le 24 front rest within) ∙ sym told

-- a header in what a source has given of a file, and has noted, is that of the file
pub header_begun : {S : Type 0} (remaining : S → Option (List ℕ)) (notes : S → List ℕ → Type 0) (source : S) (file : List ℕ) (header : Option FileHeader)
    → ((front : List ℕ) → notes source front → header ≡ header_in (take 24 front)) → IsBegun remaining notes source file → IsHeaderOf file header
header_begun remaining notes source file header reads h = by (remaining source) h.passed
  where
    by : (left : Option (List ℕ)) → Consumes (Some file) left h.read → IsHeaderOf file header
    by None passed = absurd passed
    by (Some rest) passed = subst (λ (f : List ℕ). IsHeaderOf f header) (sym passed) (header_of_file h.read rest header (reads h.read h.noted))
