-- What a capture in either format has given of its file.
use Rattle.std.proofs.Common.{◌≡◌, ◌∙◌, ℕ, List, [], ◌++◌, append-nil, append_assoc, Bool, true, false, cond, Option, None, Some, Result, Ok, Err, ap, refl, subst, sym}
use Rattle.std.specs.Io.KnownBytes.{Consumes, IsAtEnd, Keeps, ReadConsumes, prepend_known}
use Rattle.std.proofs.KnownBytes.{Consumes-kept, Consumes-nil, Consumes-trans}
use Rattle.rasta_pcap.specs.Noting.{NotesOn, given}
use Rattle.seatmelon_pcapng.specs.Classics as classics
use Rattle.seatmelon_pcapng.specs.Formats.{Gives, HasGiven, capture_of, cooked_told, format_in, format_of, left_in, noted_by, other_told, refusal_told}
use Rattle.seatmelon_pcapng.specs.Giving as giving
use Rattle.seatmelon_pcapng.specs.Giving.{told_as}
use Rattle.seatmelon_pcapng.specs.Peeked as peeked
use Rattle.seatmelon_pcapng.specs.Peeked.{begins_pcapng}
use Rattle.seatmelon_pcapng.specs.declared.capture.Capture.{Capture}
use Rattle.seatmelon_pcapng.specs.declared.capture.Capture.TheVariants.{Plain, Converted}
use Rattle.seatmelon_pcapng.specs.declared.classic.Classic.{Classic}
use Rattle.seatmelon_pcapng.specs.declared.format.Format.TheVariants as kinds
use Rattle.seatmelon_pcapng.specs.declared.format.Format.TheVariants.{Pcapng}
use Rattle.seatmelon_pcapng.specs.declared.peeked.Peeked.{Peeked}
use Rattle.seatmelon_pcapng.specs.Readings.{classic_of, reading_of, remarks_of}
use Rattle.seatmelon_pcapng.specs.declared.refusal.Refusal.{Refusal}
use Rattle.seatmelon_pcapng.specs.declared.remarks.Remarks.{Remarks}
use Rattle.seatmelon_pcapng.proofs.Gives.{gives-cooked, gives-other, gives-refused, gives-remarks, gives-told, told_apart}

-- what a read gave is no longer left
pub read-consumes : {E : Type 0} (old new : Option (List ℕ)) (r : Result ℕ E) (buf : List ℕ) → ReadConsumes old new r buf → Consumes old new (given r buf)
read-consumes old new (Ok n) buf bytes = bytes.0
read-consumes old new (Err e) buf bytes = Consumes-kept old old new [] (Consumes-nil old) bytes

pub known-kept : (file : List ℕ) (left : Option (List ℕ)) → Keeps (Some file) left → left ≡ Some file
known-kept file None h = absurd h
known-kept file (Some rest) h = ap (λ (l : List ℕ). Some l) h

-- nothing was given yet
pub kept-consumes : (file : List ℕ) (left : Option (List ℕ)) → Keeps (Some file) left → Consumes (Some file) left []
kept-consumes file left h = Consumes-kept (Some file) (Some file) left [] (Consumes-nil (Some file)) h

module _ {S : Type 0} (remaining : S → Option (List ℕ)) (notes : S → List ℕ → Type 0) where
  noted-more : (old new : Capture S) (more told : List ℕ) → ((file given : List ℕ) → HasGiven remaining notes old file given → HasGiven remaining notes new file (given ++ more))
      → noted_by remaining notes old told → noted_by remaining notes new (told ++ more)
  noted-more old new more told step h = (h.0, h.1 ++ more, ap (λ l. l ++ more) h.2 ∙ append_assoc (told_as h.0) h.1 more, step h.0 h.1 h.3)

  -- a file was given as it is, and now some more of it
  pub plain-more : (c : Capture S) (old new : Peeked S) (more : List ℕ) → c ≡ Plain old → NotesOn (peeked.noted_by notes) old new more
      → Consumes (peeked.left_in remaining old) (peeked.left_in remaining new) more → (told : List ℕ) → noted_by remaining notes c told
      → noted_by remaining notes (Plain new) (told ++ more)
  plain-more c old new more is on passes told h =
      noted-more (Plain old) (Plain new) more told (λ file given was. (
        on given was.0,
        Consumes-trans (Some file) (peeked.left_in remaining old) (peeked.left_in remaining new) given more was.1 passes,
        was.2,
      )) (subst (λ (c : Capture S). noted_by remaining notes c told) is h)

  converted-given : (old new : Classic (Peeked S)) (more : List ℕ) → NotesOn (giving.noted_by (peeked.left_in remaining) (peeked.noted_by notes)) old new more → (file given : List ℕ)
      → giving.Gives (peeked.left_in remaining) (peeked.noted_by notes) old file given → giving.Gives (peeked.left_in remaining) (peeked.noted_by notes) new file (given ++ more)
  converted-given old new more on file given was =
      gives-told (peeked.left_in remaining) (peeked.noted_by notes) new file (given ++ more)
      (subst (giving.noted_by (peeked.left_in remaining) (peeked.noted_by notes) new) (append_assoc (told_as file) given more)
      (on (told_as file ++ given) (file, given, refl, was)))

  -- a pcapng file was converted, and now some more of it
  pub converted-more : (c : Capture S) (old new : Classic (Peeked S)) (more : List ℕ) → c ≡ Converted old
      → NotesOn (giving.noted_by (peeked.left_in remaining) (peeked.noted_by notes)) old new more → (told : List ℕ) → noted_by remaining notes c told
      → noted_by remaining notes (Converted new) (told ++ more)
  converted-more c old new more is on told h =
      noted-more (Converted old) (Converted new) more told (λ file given was. (converted-given old new more on file given was.0, was.1))
      (subst (λ (c : Capture S). noted_by remaining notes c told) is h)

  -- at the beginning of a file that is given as it is
  pub plain-begins : (p : Peeked S) (file : List ℕ) → peeked.noted_by notes p [] → Keeps (Some file) (peeked.left_in remaining p) → begins_pcapng file ≡ false
      → noted_by remaining notes (Plain p) (told_as file)
  plain-begins p file noted left begins = (file, [], sym (append-nil (told_as file)), (noted, kept-consumes file (peeked.left_in remaining p) left, begins))

  -- at the beginning of a pcapng file
  pub converted-begins : (c : Classic (Peeked S)) (file : List ℕ) → giving.noted_by (peeked.left_in remaining) (peeked.noted_by notes) c (told_as file) → begins_pcapng file ≡ true
      → noted_by remaining notes (Converted c) (told_as file)
  converted-begins c file told begins = (
    file,
    [],
    sym (append-nil (told_as file)),
    (
      gives-told (peeked.left_in remaining) (peeked.noted_by notes) c file []
          (subst (giving.noted_by (peeked.left_in remaining) (peeked.noted_by notes) c) (sym (append-nil (told_as file))) told),
      begins,
    ),
  )

-- ---- what is known of the file

-- what a source still holds of what passed it
consumes-held : (whole held given : List ℕ) (left : Option (List ℕ)) → Consumes (Some whole) (prepend_known held left) given → Consumes (Some whole) left (given ++ held)
consumes-held whole held given None h = absurd h
consumes-held whole held given (Some rest) h = h ∙ sym (append_assoc given held rest)

captured-plain : (file : List ℕ) (b : Bool) → begins_pcapng file ≡ b → cond b (classic_of (reading_of file)) file ≡ capture_of file
captured-plain file b e = ap (λ b. cond b (classic_of (reading_of file)) file) (sym e)

told-so : (file : List ℕ) (b : Bool) → begins_pcapng file ≡ b → cond b (Pcapng (remarks_of (reading_of file))) kinds.Classic ≡ format_of file
told-so file b e = ap (λ (b : Bool). cond b (Pcapng (remarks_of (reading_of file))) kinds.Classic) (sym e)

module _ {S : Type 0} (remaining : S → Option (List ℕ)) (notes : S → List ℕ → Type 0) where
  gives-of : (c : Capture S) (file given : List ℕ) → HasGiven remaining notes c file given → Gives remaining notes c file given
  gives-of (Plain p) file given h = record {
    read = given ++ peeked.held_by p;
    noted = h.0;
    passed = consumes-held file (peeked.held_by p) given (remaining (peeked.source_of p)) h.1;
    left = subst (λ (l : List ℕ). Consumes (Some l) (peeked.left_in remaining p) given) (captured-plain file false h.2) h.1;
  }
  gives-of (Converted c) file given h =
      let g = h.0 in
      let p = classics.source_of c in record {
        read = g.read ++ peeked.held_by p;
        noted = g.noted;
        passed = consumes-held file (peeked.held_by p) g.read (remaining (peeked.source_of p)) g.passed;
        left = subst (λ (l : List ℕ). Consumes (Some l) (classics.left_in (peeked.left_in remaining) c) given) (captured-plain file true h.1) g.left;
      }

  -- the file that was told is the one of which these bytes were given
  has_given-told : (c : Capture S) (file given : List ℕ) → noted_by remaining notes c (told_as file ++ given) → HasGiven remaining notes c file given
  has_given-told c file given h =
      let same = told_apart file h.0 given h.1 h.2 in
      subst (λ f. HasGiven remaining notes c f given) (sym same.0) (subst (HasGiven remaining notes c h.0) (sym same.1) h.3)

  pub capture-told : (c : Capture S) (file given : List ℕ) → noted_by remaining notes c (told_as file ++ given) → Gives remaining notes c file given
  capture-told c file given h = gives-of c file given (has_given-told c file given h)

  format-ended : (c : Capture S) (file given : List ℕ) → HasGiven remaining notes c file given → IsAtEnd (left_in remaining c) → format_in c ≡ format_of file
  format-ended (Plain p) file given h end = told-so file false h.2
  format-ended (Converted c) file given h end =
      ap (λ (r : Remarks). Pcapng r) (gives-remarks (peeked.left_in remaining) (peeked.noted_by notes) c file given h.0 end) ∙ told-so file true h.1

  -- once all was given, the format that is told is that of the file
  pub capture-ended : (c : Capture S) (file given : List ℕ) → noted_by remaining notes c (told_as file ++ given) → IsAtEnd (left_in remaining c) → format_in c ≡ format_of file
  capture-ended c file given h = format-ended c file given (has_given-told c file given h)

  refusal-met : (c : Capture S) (file given : List ℕ) (refusal : Refusal) → HasGiven remaining notes c file given → refusal_told (format_in c) ≡ Some refusal
      → refusal_told (format_of file) ≡ Some refusal
  refusal-met (Plain p) file given refusal h is = absurd cc
  refusal-met (Converted c) file given refusal h is =
      ap refusal_told (sym (told-so file true h.1)) ∙ gives-refused (peeked.left_in remaining) (peeked.noted_by notes) c file given refusal h.0 is

  -- a refusal that was met is that of the file
  pub capture-refused : (c : Capture S) (file given : List ℕ) (refusal : Refusal) → noted_by remaining notes c (told_as file ++ given)
      → refusal_told (format_in c) ≡ Some refusal → refusal_told (format_of file) ≡ Some refusal
  capture-refused c file given refusal h = refusal-met c file given refusal (has_given-told c file given h)

  other-met : (c : Capture S) (file given : List ℕ) (link_type : ℕ) → HasGiven remaining notes c file given → other_told (format_in c) ≡ Some link_type
      → other_told (format_of file) ≡ Some link_type
  other-met (Plain p) file given link_type h is = absurd cc
  other-met (Converted c) file given link_type h is =
      ap other_told (sym (told-so file true h.1)) ∙ gives-other (peeked.left_in remaining) (peeked.noted_by notes) c file given link_type h.0 is

  -- so is a link type
  pub capture-other : (c : Capture S) (file given : List ℕ) (link_type : ℕ) → noted_by remaining notes c (told_as file ++ given)
      → other_told (format_in c) ≡ Some link_type → other_told (format_of file) ≡ Some link_type
  capture-other c file given link_type h = other-met c file given link_type (has_given-told c file given h)

  cooked-met : (c : Capture S) (file given : List ℕ) (link_type : ℕ) → HasGiven remaining notes c file given → cooked_told (format_in c) ≡ Some link_type
      → cooked_told (format_of file) ≡ Some link_type
  cooked-met (Plain p) file given link_type h is = absurd cc
  cooked-met (Converted c) file given link_type h is =
      ap cooked_told (sym (told-so file true h.1)) ∙ gives-cooked (peeked.left_in remaining) (peeked.noted_by notes) c file given link_type h.0 is

  pub capture-cooked : (c : Capture S) (file given : List ℕ) (link_type : ℕ) → noted_by remaining notes c (told_as file ++ given)
      → cooked_told (format_in c) ≡ Some link_type → cooked_told (format_of file) ≡ Some link_type
  capture-cooked c file given link_type h = cooked-met c file given link_type (has_given-told c file given h)
