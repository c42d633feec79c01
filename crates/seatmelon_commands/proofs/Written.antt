-- The conversion of a known file, piece by piece.
use Rattle.std.proofs.Common.{◌≡◌, ◌∙◌, ℕ, List, [], ◌++◌, append-nil, append_assoc, length, take, Option, Some, ap, subst, sym}
use lib.Seq.{take-append_seam}
use Rattle.std.specs.Io.KnownBytes.{Appends, Consumes, IsAtEnd}
use Rattle.std.proofs.KnownBytes.{Appends-nil, Appends-trans, Consumes-nil, Consumes-trans}
use Rattle.rasta_pcap.specs.Noting.{NotesOn}
use Rattle.seatmelon_pcapng.specs.Formats.{capture_of, format_in, format_of, left_in, noted_by}
use Rattle.seatmelon_pcapng.specs.Giving.{told_as}
use Rattle.seatmelon_pcapng.specs.declared.capture.Capture.{Capture}
use Rattle.seatmelon_pcapng.proofs.Formats.{capture-ended}
use Rattle.seatmelon_commands.specs.Converted.{IsWritten}

-- the piece that was read is the one that is held
pub piece_held : (n len : ℕ) (read rest held : List ℕ) → held ≡ take len (read ++ rest) → length read ≡ len → take n held ≡ take n read
piece_held n len read rest held is size = ap (take n) (is ∙ ap (λ k. take k (read ++ rest)) (sym size) ∙ take-append_seam read rest)

module _ {S : Type 0} (remaining : S → Option (List ℕ)) (notes : S → List ℕ → Type 0) (Noted : Type 0) (file : List ℕ) where
  -- nothing was written yet
  pub written_none : (c : Capture S) (sink : Option (List ℕ)) → left_in remaining c ≡ Some (capture_of file)
      → (Noted → noted_by remaining notes c (told_as file)) → IsWritten remaining notes c Noted file sink sink
  written_none c sink left told = record {
    given = [];
    left = subst (λ (l : Option (List ℕ)). Consumes l (left_in remaining c) []) left (Consumes-nil (left_in remaining c));
    written = Appends-nil sink;
    told = λ noted. subst (noted_by remaining notes c) (sym (append-nil (told_as file))) (told noted);
  }

  module _ (c : Capture S) (start old : Option (List ℕ)) (h : IsWritten remaining notes c Noted file start old) (d : Capture S) (bytes : List ℕ)
      (passed : Consumes (left_in remaining c) (left_in remaining d) bytes) (on : NotesOn (noted_by remaining notes) c d bytes) where
    -- one more piece was written
    pub written_more : (new : Option (List ℕ)) → Appends old new bytes → IsWritten remaining notes d Noted file start new
    written_more new out = record {
      given = h.given ++ bytes;
      left = Consumes-trans (Some (capture_of file)) (left_in remaining c) (left_in remaining d) h.given bytes h.left passed;
      written = Appends-trans start old new h.given bytes h.written out;
      told = λ noted. subst (noted_by remaining notes d) (append_assoc (told_as file) h.given bytes) (on (told_as file ++ h.given) (h.told noted));
    }

    module _ (none : bytes ≡ []) (end : IsAtEnd (left_in remaining d)) where
      ended : IsWritten remaining notes d Noted file start old
      ended = written_more old (subst (Appends old old) (sym none) (Appends-nil old))

      -- all was written, and the format that is told then is that of the file
      pub format_met : Noted → format_in d ≡ format_of file
      format_met noted = capture-ended remaining notes d file ended.given (ended.told noted) end
