-- How far a capture was read, from what each step of a reading says: for those who read whole captures.
use Rattle.std.proofs.Common.{◌≡◌, ◌∙◌, ℕ, ◌+◌, ◌<◌, ◌≤◌, inl, inr, List, [], ◌∷◌, ◌++◌, length, take, drop, Option, Some, Ok, refl, sym, ap, arith, append-nil, append_assoc, length-append}
use Rattle.std.proofs.lemmas.List.{take-append-drop, flat_map_more}
use Rattle.std.specs.List.{flat_map, AllByRecursion}
use Rattle.std.proofs.KnownBytes.{Consumes-trans}
use Rattle.rasta_pcap.specs.declared.pcap.Endianness.{Endianness}
use Rattle.rasta_pcap.specs.Capture.{FileCursor, RecordEntry, IsEntry, Numbered, cursor_after, captured_length, cursor_at, entry_bytes}
use Rattle.rasta_pcap.specs.Extent.{HasRead, in_header, in_records, ReadsUpToRecord, ReadsWithinRecord}
use Rattle.rasta_pcap.specs.Filling.{IsFilled, ReadsUpTo}
use Rattle.rasta_pcap.specs.Fronts.{front_of}
use Rattle.rasta_pcap.specs.Stream.{Opens, ReadsRecord}
use Rattle.rasta_pcap.proofs.Captures.{next_entry}
use Rattle.rasta_pcap.proofs.Fronts.{front_of-some, taken_front}
use Rattle.rasta_pcap.proofs.Headers.{opening-is_header}
use Rattle.rasta_pcap.proofs.Steps.{next-is_next_entry}

-- ---- within one record

-- as many bytes as were asked for are at most so many
pub filled-ReadsUpTo : (most : ℕ) (bytes : List ℕ) (old new : Option (List ℕ)) → IsFilled most old new bytes → ReadsUpTo most old new
filled-ReadsUpTo most bytes old new filled = (bytes, filled.consumed, filled.within)

-- no more than the header of a record was read
pub ReadsWithinRecord-header : (order : Endianness) (old new : Option (List ℕ)) → ReadsUpTo 16 old new → ReadsWithinRecord order old new
ReadsWithinRecord-header order old new (part, consumed, within) = (part, consumed, omega arith)

-- the header of a record was read, and no more bytes after it than it says
pub ReadsWithinRecord-bytes : (order : Endianness) (count captured : ℕ) (front : List ℕ) (old mid new : Option (List ℕ)) → IsFilled 16 old mid front
    → front_of order count front ≡ Ok (Some captured) → ReadsUpTo captured mid new → ReadsWithinRecord order old new
ReadsWithinRecord-bytes order count captured front old mid new filled h (bytes, consumed, within) =
    let is_front = front_of-some order count front captured filled.within h in
    let size : length front ≡ 16 = is_front.size in
    let said : captured ≡ captured_length order (take 16 (front ++ bytes)) = is_front.captured_is ∙ ap (captured_length order) (sym (taken_front front bytes size)) in
    let long : length (front ++ bytes) ≡ length front + length bytes = length-append front bytes in
    (front ++ bytes, Consumes-trans old mid new front bytes filled.consumed consumed, omega arith)

-- ---- so many records

-- a header was read, and no record
pub HasRead-opened : (order : Endianness) (old new : Option (List ℕ)) → Opens order old new → HasRead order 0 old new
HasRead-opened order old new h =
    let file = h.bytes ++ [] in
    let opened = opening-is_header file (cursor_at order [] 0) (h.each []) in
    let nothing : [] ≡ drop 24 file = ap (λ (c : FileCursor). c.rest) opened.1 in record {
      bytes = h.bytes;
      header = take 24 file;
      entries = [];
      consumed = h.consumed;
      is_header = opened.0;
      each = tt;
      whole = sym (append-nil h.bytes) ∙ sym (take-append-drop 24 file) ∙ ap (λ l. take 24 file ++ l) (sym nothing);
      counted = refl;
    }

each-more : (order : Endianness) (entries : List RecordEntry) (e : RecordEntry) → AllByRecursion (IsEntry order) entries → IsEntry order e
    → AllByRecursion (IsEntry order) (entries ++ e ∷ [])
each-more order [] e each h = (h, tt)
each-more order (x ∷ xs) e each h = (each.0, each-more order xs e each.1 h)

-- one record more was read
pub HasRead-more : (order : Endianness) (read count : ℕ) (r : Numbered) (old mid new : Option (List ℕ)) → HasRead order read old mid
    → ReadsRecord order count r mid new → HasRead order (read + 1) old new
HasRead-more order read count r old mid new h found =
    let c = cursor_at order (found.bytes ++ []) count in
    let f = next_entry c r (next-is_next_entry c r (found.each []).0) in
    let nothing : (cursor_after c).rest ≡ [] = ap (λ (c : FileCursor). c.rest) (found.each []).1 in
    let bytes : found.bytes ≡ entry_bytes f.entry =
    sym (append-nil found.bytes) ∙ f.front ∙ ap (λ l. entry_bytes f.entry ++ l) nothing ∙ append-nil (entry_bytes f.entry) in record {
      bytes = h.bytes ++ found.bytes;
      header = h.header;
      entries = h.entries ++ f.entry ∷ [];
      consumed = Consumes-trans old mid new h.bytes found.bytes h.consumed found.consumed;
      is_header = h.is_header;
      each = each-more order h.entries f.entry h.each f.is_entry;
      whole = ap (λ l. l ++ found.bytes) h.whole ∙ ap (λ l. (h.header ++ flat_map entry_bytes h.entries) ++ l) bytes
          ∙ flat_map_more entry_bytes h.header h.entries f.entry;
      counted = length-append h.entries (f.entry ∷ []) ∙ ap (λ n. n + 1) h.counted;
    }

-- ---- up to a record

-- no more than the header of a file was read
pub ReadsUpToRecord-header : (limit : ℕ) (old new : Option (List ℕ)) → ReadsUpTo 24 old new → ReadsUpToRecord limit old new
ReadsUpToRecord-header limit old new (bytes, consumed, within) = (bytes, consumed, in_header within)

-- so many records were read and nothing after them
pub ReadsUpToRecord-whole : (limit : ℕ) (order : Endianness) (count : ℕ) (old new : Option (List ℕ)) → HasRead order count old new → count ≤ limit
    → ReadsUpToRecord limit old new
ReadsUpToRecord-whole limit order count old new h fits =
    let records = flat_map entry_bytes h.entries in
    let counted : length h.entries ≡ count = h.counted in (
      h.bytes,
      h.consumed,
      in_records order h.header h.entries [] h.is_header h.each (omega arith)
          (h.whole ∙ ap (λ l. h.header ++ l) (sym (append-nil records))) (omega arith) (inl refl),
    )

-- so many records were read, and then bytes of one more
pub ReadsUpToRecord-part : (limit : ℕ) (order : Endianness) (count : ℕ) (old mid new : Option (List ℕ)) → HasRead order count old mid → count < limit
    → ReadsWithinRecord order mid new → ReadsUpToRecord limit old new
ReadsUpToRecord-part limit order count old mid new h below (part, consumed, within) =
    let records = flat_map entry_bytes h.entries in
    let counted : length h.entries ≡ count = h.counted in (
      h.bytes ++ part,
      Consumes-trans old mid new h.bytes part h.consumed consumed,
      in_records order h.header h.entries part h.is_header h.each within
          (ap (λ l. l ++ part) h.whole ∙ append_assoc h.header records part) (omega arith) (inr (omega arith)),
    )
