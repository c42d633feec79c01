-- A survey of a file in either format, of which the first bytes are kept.
use Rattle.std.proofs.Common.{◌≡◌, ◌∙◌, ℕ, List, [], ◌++◌, take, Option, IfSome, ap, subst, sym}
use Rattle.rasta_pcap.specs.Buffered as buffers
use Rattle.rasta_pcap.specs.Buffered.{held_by}
use Rattle.rasta_pcap.specs.Noting.{PassesOn}
use Rattle.rasta_pcap.specs.declared.buffered.Buffered.{Buffered}
use Rattle.seatmelon_capture.specs.Header.{header_in}
use Rattle.seatmelon_capture.specs.Keeping.{IsKept, source_of}
use Rattle.seatmelon_capture.specs.Keeping as keeping
use Rattle.seatmelon_capture.specs.declared.header.FileHeader.{FileHeader}
use Rattle.seatmelon_capture.specs.declared.keeping.Keeping.{Keeping}
use Rattle.seatmelon_pcapng.specs.Formats.{format_in, left_in, noted_by}
use Rattle.seatmelon_pcapng.specs.Formats as captures
use Rattle.seatmelon_pcapng.specs.Giving.{told_as}
use Rattle.seatmelon_pcapng.specs.declared.capture.Capture.{Capture}
use Rattle.seatmelon_pcapng.proofs.Passing.{IfSome-is}
use Rattle.seatmelon_pcapng.proofs.Through.{file_begun, last_told}
use Rattle.seatmelon_commands.specs.Formats.{FormatFits}
use Rattle.seatmelon_commands.specs.Headers.{IsHeaderOf}
use Rattle.seatmelon_commands.proofs.Formats.{format_fits}
use Rattle.seatmelon_commands.proofs.Headers.{header_begun}

-- what a source of which the first bytes are kept will give, and has noted
module _ {S : Type 0} (remaining : S → Option (List ℕ)) (notes : S → List ℕ → Type 0) where
  abbrev left : Keeping S → Option (List ℕ)
  left k = remaining (source_of k)

  abbrev noted : Keeping S → List ℕ → Type 0
  noted k = keeping.noted_by notes k

  -- a capture of it is opened (`told`), read through a buffer (`passed`), and taken back
  module _ (source : S) (start : Keeping S) (is : source_of start ≡ source) (kept : IsKept start []) (opened : Capture (Keeping S))
      (told : IfSome (left start) (λ file. noted start [] → noted_by left noted opened (told_as file))) (first last : Buffered (Capture (Keeping S)))
      (begins : buffers.source_of first ≡ opened) (empty : held_by first ≡ [])
      (passed : PassesOn (buffers.left_in (left_in left)) (buffers.noted_by (noted_by left noted)) first last)
      (back : Capture (Keeping S)) (taken : back ≡ buffers.source_of last) where
    none_noted : notes source [] → noted start []
    none_noted none = (kept, subst (λ s. notes s []) (sym is) none)

    -- what the header is told as is so
    pub header_read : (taken_source : Keeping S) → taken_source ≡ captures.source_of back → (header : Option FileHeader)
        → ((bytes : List ℕ) → IsKept taken_source bytes → header ≡ header_in (take 24 bytes)) → IfSome (remaining source) (λ file. notes source [] → IsHeaderOf file header)
    header_read taken_source is_back header reads = IfSome-is _ (remaining source) (λ file known none.
        header_begun left noted taken_source file header (λ front h. reads front h.0)
        (file_begun left noted start opened first begins empty file (ap remaining is ∙ known) told (none_noted none) last passed back taken taken_source is_back))

    pub format_read : IfSome (remaining source) (λ file. notes source [] → FormatFits file (format_in back))
    format_read = IfSome-is _ (remaining source) (λ file known none.
        format_fits left noted back file (passed.0 ++ held_by last)
        (last_told left noted start opened first begins empty file (ap remaining is ∙ known) told (none_noted none) last passed back taken))
