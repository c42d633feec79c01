-- A file that is read through a capture in either format and a buffer, by a user who then takes the source back.
use Rattle.std.proofs.Common.{◌≡◌, ◌∙◌, ℕ, List, [], ◌++◌, append-nil, append_assoc, Option, None, Some, IfSome, ap, subst, sym}
use Rattle.std.specs.Io.KnownBytes.{IsAtEnd, prepend_known}
use Rattle.std.proofs.KnownBytes.{Consumes-trans, Consumes-whole}
use Rattle.rasta_pcap.specs.Buffered as buffers
use Rattle.rasta_pcap.specs.Buffered.{held_by}
use Rattle.rasta_pcap.specs.Noting.{PassesOn}
use Rattle.rasta_pcap.specs.declared.buffered.Buffered.{Buffered}
use Rattle.seatmelon_pcapng.specs.Formats.{Gives, capture_of, format_in, format_of, left_in, noted_by, source_of}
use Rattle.seatmelon_pcapng.specs.Giving.{told_as}
use Rattle.seatmelon_pcapng.specs.Through.{IsBegun}
use Rattle.seatmelon_pcapng.specs.declared.capture.Capture.{Capture}
use Rattle.seatmelon_pcapng.proofs.Formats.{capture-ended, capture-told}
use Rattle.seatmelon_pcapng.proofs.Gives.{none_behind}

-- nothing is left behind a buffer where nothing is left in all
end_behind : (held : List ℕ) (left : Option (List ℕ)) → IsAtEnd (prepend_known held left) → IsAtEnd left
end_behind held None end = tt
end_behind held (Some rest) end = none_behind held rest end

-- a user opens a capture over a source of which nothing was read (`told`, `left`), puts a buffer over it (`begins`, `empty`)
module _ {S : Type 0} (remaining : S → Option (List ℕ)) (notes : S → List ℕ → Type 0) (start : S) (opened : Capture S) (first : Buffered (Capture S))
    (begins : buffers.source_of first ≡ opened) (empty : held_by first ≡ []) (file : List ℕ) (is : remaining start ≡ Some file) where
  -- what is read through it is the capture of the file
  pub capture_left : IfSome (remaining start) (λ file. left_in remaining opened ≡ Some (capture_of file)) → buffers.left_in (left_in remaining) first ≡ Some (capture_of file)
  capture_left left =
      ap (λ l. prepend_known l (left_in remaining (buffers.source_of first))) empty
      ∙ ap (λ c. prepend_known [] (left_in remaining c)) begins
      ∙ ap (prepend_known []) (subst (λ input. IfSome input (λ file. left_in remaining opened ≡ Some (capture_of file))) is left)

  -- reads (`passed`), and takes the capture back (`taken`)
  module _ (told : IfSome (remaining start) (λ file. notes start [] → noted_by remaining notes opened (told_as file))) (none : notes start [])
      (last : Buffered (Capture S)) (passed : PassesOn (buffers.left_in (left_in remaining)) (buffers.noted_by (noted_by remaining notes)) first last)
      (back : Capture S) (taken : back ≡ buffers.source_of last) where
    first_told : noted_by remaining notes (buffers.source_of first) (told_as file ++ held_by first)
    first_told =
        let begun : noted_by remaining notes opened (told_as file) =
        subst (λ input. IfSome input (λ file. notes start [] → noted_by remaining notes opened (told_as file))) is told none in
        subst (noted_by remaining notes (buffers.source_of first)) (sym (append-nil (told_as file)) ∙ ap (λ l. told_as file ++ l) (sym empty))
        (subst (λ c. noted_by remaining notes c (told_as file)) (sym begins) begun)

    -- and what it notes of the file
    pub last_told : noted_by remaining notes back (told_as file ++ (passed.0 ++ held_by last))
    last_told =
        subst (λ c. noted_by remaining notes c (told_as file ++ (passed.0 ++ held_by last))) (sym taken)
        (subst (noted_by remaining notes (buffers.source_of last)) (append_assoc (told_as file) passed.0 (held_by last)) (passed.2 (told_as file) first_told))

    gives_last : Gives remaining notes back file (passed.0 ++ held_by last)
    gives_last = capture-told remaining notes back file (passed.0 ++ held_by last) last_told

    -- where all was read, the format that it tells is that of the file
    pub format_told : IsAtEnd (buffers.left_in (left_in remaining) last) → format_in back ≡ format_of file
    format_told end =
        capture-ended remaining notes back file (passed.0 ++ held_by last) last_told
        (subst (λ c. IsAtEnd (left_in remaining c)) (sym taken) (end_behind (held_by last) (left_in remaining (buffers.source_of last)) end))

    -- the source, which the user takes back too, has noted what passed of the file
    pub file_begun : (source : S) → source ≡ source_of back → IsBegun remaining notes source file
    file_begun source is_back =
        subst (λ s. IsBegun remaining notes s file) (sym is_back) (record { read = gives_last.read; noted = gives_last.noted; passed = gives_last.passed })

    -- and read to its end it has noted the whole file
    pub file_noted : (source end : S) → source ≡ source_of back → PassesOn remaining notes source end → IsAtEnd (remaining end) → notes end file
    file_noted source end is_back rest ended =
        let begun = file_begun source is_back in
        Consumes-whole (Some file) (remaining end) (begun.read ++ rest.0) (notes end)
        (Consumes-trans (Some file) (remaining source) (remaining end) begun.read rest.0 begun.passed rest.1) ended (rest.2 begun.read begun.noted)
