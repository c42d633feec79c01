-- The reading of a file, and the relations between a file and its records.
use Rattle.std.proofs.Common.{◌≡◌, ℕ, zero, suc, ◌+◌, ◌-◌, ◌<◌, ◌≤◌, ◌⊎◌, ◌∙◌, inl, inr, List, [], ◌∷◌, ◌++◌, length, take, drop, map, Option, Some, None, Result, Ok, Err, refl, ap, sym, arith, subst, append_assoc, append-nil, length-append, length-take, length-drop}
use Rattle.std.proofs.lemmas.List.{take-append-drop, length-map}
use Rattle.std.proofs.Math.Seq.{take-append_seam, drop-append_seam}
use Rattle.std.specs.List.{flat_map, AllByRecursion, range_with_len}
use Rattle.rasta_pcap.specs.declared.fault.Fault.{Fault}
use Rattle.rasta_pcap.specs.declared.pcap.Endianness.{Endianness}
use Rattle.rasta_pcap.specs.Fault.{fault_at}
use Rattle.rasta_pcap.specs.Capture.{FileCursor, cursor_at, RecordEntry, IsEntry, IsHeader, entry_bytes, captured_length, max_records, max_captured, Numbered, Reading, opening, next, cursor_after, next_bytes, next_length, reading, reading_opened, reading_of, with_record, read_step, bytes_of, IsCapture, IsRefusedFile}
use Rattle.rasta_pcap.proofs.Steps.{reading-record, reading-end, reading-fault, reading-none_left, reading_of-opened, reading_of-refused, IsNextEntry, next-is_next_entry, next-found, next-end, next-nil, next-fault_place}
use Rattle.rasta_pcap.proofs.Headers.{at_start, opening-header, opening-is_header, opening-fault_place}

-- From the bytes to the relation.

-- the next record as it stands in the file
pub record NextEntry (c : FileCursor) (bytes : List ℕ) : Type 0 where
  pub entry : RecordEntry
  pub is_entry : IsEntry c.order entry
  pub front : c.rest ≡ entry_bytes entry ++ (cursor_after c).rest
  pub bytes_are : bytes ≡ entry.bytes

pub next_entry : (c : FileCursor) (r : Numbered) → IsNextEntry c r → NextEntry c r.1
next_entry c r h =
    let captured = next_length c in
    let after = drop 16 c.rest in
    let header_size : length (take 16 c.rest) ≡ 16 = let fits = h.header in simp length-take (omega arith) in
    let size : length (take captured after) ≡ captured = let fits = h.whole in simp (length-take, length-drop) (omega arith) in record {
      entry = record { header = take 16 c.rest; bytes = take captured after };
      is_entry = record { size = header_size; captured = sym size; bounded = let fits = h.bounded in rw size fits };
      front = sym (append_assoc (take 16 c.rest) (take captured after) (drop captured after)
          ∙ ap (λ l. take 16 c.rest ++ l) (take-append-drop captured after) ∙ take-append-drop 16 c.rest);
      bytes_are = ap (λ (n : Numbered). n.1) h.is;
    }

-- bytes that are these records, each as it stands in the file, and what is left after them
pub record IsCut (order : Endianness) (bytes : List ℕ) (records : List (List ℕ)) (count : ℕ) (left : List ℕ) : Type 0 where
  pub entries : List RecordEntry
  pub each : AllByRecursion (IsEntry order) entries
  pub whole : bytes ≡ flat_map entry_bytes entries ++ left
  pub bytes_are : records ≡ map (λ (e : RecordEntry). e.bytes) entries
  pub count_is : length entries ≡ count

nothing_cut : (order : Endianness) (bytes : List ℕ) → IsCut order bytes [] 0 bytes
nothing_cut order bytes = record { entries = []; each = tt; whole = refl; bytes_are = refl; count_is = refl }

one_more_cut : (c : FileCursor) (bytes : List ℕ) (records : List (List ℕ)) (count : ℕ) (left : List ℕ) → NextEntry c bytes
    → IsCut c.order (cursor_after c).rest records count left → IsCut c.order c.rest (bytes ∷ records) (suc count) left
one_more_cut c bytes records count left f h = record {
  entries = f.entry ∷ h.entries;
  each = (f.is_entry, h.each);
  whole = f.front ∙ ap (λ l. entry_bytes f.entry ++ l) h.whole
      ∙ sym (append_assoc (entry_bytes f.entry) (flat_map entry_bytes h.entries) left);
  bytes_are = ap (λ x. x ∷ records) f.bytes_are ∙ ap (λ rs. f.entry.bytes ∷ rs) h.bytes_are;
  count_is = ap suc h.count_is;
}

-- how a reading ended
abbrev Ending : ℕ → FileCursor → Option Fault → ℕ → List ℕ → Type 0
Ending limit c None count left = (count ≤ limit) × ((left ≡ []) ⊎ (count ≡ limit))
Ending limit c (Some f) count left = (count < limit) × (next (cursor_at c.order left (c.count + count)) ≡ Err f)

record IsRead (limit : ℕ) (c : FileCursor) (r : Reading) : Type 0 where
  left : List ℕ
  cut : IsCut c.order c.rest (bytes_of r) (length r.records) left
  ends : Ending limit c r.fault (length r.records) left
  numbers : map (λ (n : Numbered). n.0) r.records ≡ range_with_len (c.count + 1) (length r.records)

ending-after : (limit : ℕ) (c : FileCursor) (o : Option Fault) (count : ℕ) (left : List ℕ) → Ending limit (cursor_after c) o count left
    → Ending (suc limit) c o (suc count) left
ending-after limit c None count left h = (let w = h.0 in omega arith, elim h.1 [ inl x ↦ inl x | inr x ↦ inr (ap suc x) ])
ending-after limit c (Some f) count left h =
    let shape : c.count + suc count ≡ c.count + 1 + count = omega arith in
    (let w = h.0 in omega arith, ap (λ n. next (cursor_at c.order left n)) shape ∙ h.1)

read-by_outcome : (limit : ℕ) (c : FileCursor) (o : Result (Option Numbered) Fault) → next c ≡ o
    → IsRead limit (cursor_after c) (reading limit (cursor_after c)) → IsRead (suc limit) c (read_step o (reading limit (cursor_after c)))
read-by_outcome limit c (Err f) e more =
    let here : c.count + 0 ≡ c.count = omega arith in record {
      left = c.rest;
      cut = nothing_cut c.order c.rest;
      ends = (omega arith, ap (λ n. next (cursor_at c.order c.rest n)) here ∙ e);
      numbers = refl;
    }
read-by_outcome limit c (Ok None) e more =
    record { left = c.rest; cut = nothing_cut c.order c.rest; ends = (omega arith, inl (next-end c e)); numbers = refl }
read-by_outcome limit c (Ok (Some r)) e more =
    let found = next-is_next_entry c r e in
    let after_it = reading limit (cursor_after c) in record {
      left = more.left;
      cut = one_more_cut c r.1 (bytes_of after_it) (length after_it.records) more.left (next_entry c r found) more.cut;
      ends = ending-after limit c after_it.fault (length after_it.records) more.left more.ends;
      numbers = ap (λ n. n ∷ map (λ (n : Numbered). n.0) after_it.records) (ap (λ (n : Numbered). n.0) found.is)
          ∙ ap (λ ns. (c.count + 1) ∷ ns) more.numbers;
    }

read-is : (limit : ℕ) (c : FileCursor) → IsRead limit c (reading limit c)
unfolding reading
read-is zero c =
    record { left = c.rest; cut = nothing_cut c.order c.rest; ends = (omega arith, inr refl); numbers = refl }
read-is (suc limit) c = read-by_outcome limit c (next c) refl (read-is limit (cursor_after c))

-- From the relation to the bytes.

-- records with their numbers, after so many
abbrev numbered : ℕ → List RecordEntry → List Numbered
numbered count [] = []
numbered count (e ∷ es) = (count + 1, e.bytes) ∷ numbered (count + 1) es

bytes-numbered : (count : ℕ) (entries : List RecordEntry) → map (λ (n : Numbered). n.1) (numbered count entries) ≡ map (λ (e : RecordEntry). e.bytes) entries
bytes-numbered count [] = refl
bytes-numbered count (e ∷ es) = ap (λ rs. e.bytes ∷ rs) (bytes-numbered (count + 1) es)

abbrev records_before : List Numbered → Reading → Reading
records_before records more = record { records = records ++ more.records; fault = more.fault }

abbrev before : Numbered → Result (Option Numbered) Fault
before r = Ok (Some r)

pub record IsNext (c : FileCursor) (bytes : List ℕ) (after : FileCursor) : Type 0 where
  pub found : next c ≡ Ok (Some (c.count + 1, bytes))
  pub after_is : cursor_after c ≡ after

-- a record before more bytes is found there
pub next-entry : (order : Endianness) (e : RecordEntry) (more : List ℕ) (count : ℕ) → IsEntry order e → count < max_records
    → IsNext (cursor_at order (entry_bytes e ++ more) count) e.bytes (cursor_at order more (count + 1))
next-entry order e more count h room =
    let all = (e.header ++ e.bytes) ++ more in
    let c = cursor_at order all count in
    let shape : all ≡ e.header ++ (e.bytes ++ more) = append_assoc e.header e.bytes more in
    let size : length e.header ≡ 16 = h.size in
    let bound : length e.bytes ≤ max_captured = h.bounded in
    let header : take 16 all ≡ e.header = ap (λ n. take n all) (sym size) ∙ ap (take (length e.header)) shape ∙ take-append_seam e.header (e.bytes ++ more) in
    let after : drop 16 all ≡ e.bytes ++ more = ap (λ n. drop n all) (sym size) ∙ ap (drop (length e.header)) shape ∙ drop-append_seam e.header (e.bytes ++ more) in
    let captured : next_length c ≡ length e.bytes = ap (captured_length order) header ∙ h.captured in
    let long : length all ≡ 16 + length e.bytes + length more = rw (length-append, length-append, size) refl in
    let bytes : next_bytes c ≡ e.bytes = ap (λ k. take k (drop 16 all)) captured ∙ ap (take (length e.bytes)) after ∙ take-append_seam e.bytes more in
    let left : drop (next_length c) (drop 16 all) ≡ more = ap (λ k. drop k (drop 16 all)) captured ∙ ap (drop (length e.bytes)) after ∙ drop-append_seam e.bytes more in record {
      found = next-found c room (omega arith) (omega arith) ∙ ap (λ (b : List ℕ). before (count + 1, b)) bytes;
      after_is = ap (λ (l : List ℕ). cursor_at order l (count + 1)) left;
    }

-- the first records are read, and then what follows them
reading-entries : (limit left : ℕ) (order : Endianness) (entries : List RecordEntry) (rest : List ℕ) (count : ℕ) → AllByRecursion (IsEntry order) entries
    → limit ≡ length entries + left → count + length entries ≤ max_records
    → reading limit (cursor_at order (flat_map entry_bytes entries ++ rest) count)
    ≡ records_before (numbered count entries) (reading left (cursor_at order rest (count + length entries)))
reading-entries limit left order [] rest count each bound room =
    let here : count ≡ count + 0 = omega arith in
    let same : limit ≡ left = omega arith in
    ap (λ n. reading n (cursor_at order rest count)) same ∙ ap (λ n. reading left (cursor_at order rest n)) here
reading-entries zero left order (e ∷ es) rest count each bound room = absurd (omega arith)
reading-entries (suc limit) left order (e ∷ es) rest count each bound room =
    let more = flat_map entry_bytes es ++ rest in
    let shape : flat_map entry_bytes (e ∷ es) ++ rest ≡ entry_bytes e ++ more = append_assoc (entry_bytes e) (flat_map entry_bytes es) rest in
    let c = cursor_at order (entry_bytes e ++ more) count in
    let h = next-entry order e more count each.0 (omega arith) in
    let further : count + 1 + length es ≡ count + suc (length es) = omega arith in
    ap (λ (l : List ℕ). reading (suc limit) (cursor_at order l count)) shape
    ∙ reading-record limit c (count + 1, e.bytes) h.found
    ∙ ap (λ k. with_record (count + 1, e.bytes) (reading limit k)) h.after_is
    ∙ ap (with_record (count + 1, e.bytes)) (reading-entries limit left order es rest (count + 1) each.1 (omega arith) (omega arith))
    ∙ ap (λ n. records_before (numbered count (e ∷ es)) (reading left (cursor_at order rest n))) further

-- nothing more is read where nothing is left, and where no record may be read
reading-stops : (left : ℕ) (order : Endianness) (rest : List ℕ) (count : ℕ) → (rest ≡ []) ⊎ (left ≡ 0)
    → reading left (cursor_at order rest count) ≡ record { records = []; fault = None }
reading-stops zero order rest count h = reading-none_left (cursor_at order rest count)
reading-stops (suc left) order rest count (inl h) =
    reading-end left (cursor_at order rest count) (next-nil (cursor_at order rest count) h)
reading-stops (suc left) order rest count (inr h) = absurd (omega arith)

-- The file.

abbrev opened : FileCursor → Result FileCursor Fault
opened c = Ok c

abbrev refused_by : Fault → Result FileCursor Fault
refused_by f = Err f

pub open_header : (order : Endianness) (header body : List ℕ) → IsHeader order header → opening (header ++ body) ≡ Ok (cursor_at order body 0)
open_header order header body h =
    let size : length header ≡ 24 = h.size in
    let front : take 24 (header ++ body) ≡ header = ap (λ n. take n (header ++ body)) (sym size) ∙ take-append_seam header body in
    let back : drop 24 (header ++ body) ≡ body = ap (λ n. drop n (header ++ body)) (sym size) ∙ drop-append_seam header body in
    opening-header order (header ++ body) (subst (IsHeader order) (sym front) h) ∙ ap (λ (l : List ℕ). opened (cursor_at order l 0)) back

whole_file : (limit left : ℕ) (order : Endianness) (header : List ℕ) (entries : List RecordEntry) (rest file : List ℕ) → IsHeader order header
    → AllByRecursion (IsEntry order) entries → file ≡ header ++ (flat_map entry_bytes entries ++ rest) → limit ≡ length entries + left
    → length entries ≤ max_records
    → reading_of limit file ≡ records_before (numbered 0 entries) (reading left (cursor_at order rest (length entries)))
whole_file limit left order header entries rest file is_header each whole bound room =
    let body = flat_map entry_bytes entries ++ rest in
    let none_before : 0 + length entries ≡ length entries = omega arith in
    ap (reading_of limit) whole
    ∙ reading_of-opened limit (header ++ body) (cursor_at order body 0) (open_header order header body is_header)
    ∙ reading-entries limit left order entries rest 0 each bound (omega arith)
    ∙ ap (λ n. records_before (numbered 0 entries) (reading left (cursor_at order rest n))) none_before

-- what was read before an end
reads_just : (r : Reading) (entries : List RecordEntry) (records : List (List ℕ)) (fault : Option Fault)
    → r ≡ records_before (numbered 0 entries) (record { records = []; fault = fault }) → records ≡ map (λ (e : RecordEntry). e.bytes) entries
    → (bytes_of r ≡ records) × (r.fault ≡ fault)
reads_just r entries records fault h bytes_are = (
  ap bytes_of h ∙ ap (map (λ (n : Numbered). n.1)) (append-nil (numbered 0 entries)) ∙ bytes-numbered 0 entries ∙ sym bytes_are,
  ap (λ (x : Reading). x.fault) h,
)

-- the records of a file are read
pub reading_of-IsCapture : (limit : ℕ) (file : List ℕ) (records : List (List ℕ)) → limit ≤ max_records → IsCapture limit file records
    → (bytes_of (reading_of limit file) ≡ records) × ((reading_of limit file).fault ≡ None)
reading_of-IsCapture limit file records bound h =
    let within : length h.entries ≤ limit = h.within in
    let left = limit - length h.entries in
    let stops : (h.rest ≡ []) ⊎ (left ≡ 0) = elim h.stops [ inl x ↦ inl x | inr x ↦ inr (omega arith) ] in
    reads_just (reading_of limit file) h.entries records None
    (whole_file limit left h.order h.header h.entries h.rest file h.is_header h.each h.whole (omega arith) (omega arith)
    ∙ ap (records_before (numbered 0 h.entries)) (reading-stops left h.order h.rest (length h.entries) stops))
    h.bytes_are

-- the records before a fault are read, and then the fault
pub reading_of-IsRefused : (limit : ℕ) (file : List ℕ) (records : List (List ℕ)) (fault : Fault) → limit ≤ max_records + 1
    → IsRefusedFile limit file records fault → (bytes_of (reading_of limit file) ≡ records) × ((reading_of limit file).fault ≡ Some fault)
reading_of-IsRefused limit file records fault bound h =
    let below : length h.entries < limit = h.below in
    let left = limit - length h.entries - 1 in
    reads_just (reading_of limit file) h.entries records (Some fault)
    (whole_file limit (suc left) h.order h.header h.entries h.rest file h.is_header h.each h.whole (omega arith) (omega arith)
    ∙ ap (records_before (numbered 0 h.entries)) (reading-fault left (cursor_at h.order h.rest (length h.entries)) fault h.refused))
    h.bytes_are

file_is : (file : List ℕ) (c : FileCursor) (body : List ℕ) → c ≡ at_start c.order file → c.rest ≡ body → file ≡ take 24 file ++ body
file_is file c body start is =
    let rest : drop 24 file ≡ c.rest = ap (λ (k : FileCursor). k.rest) (sym start) in
    sym (take-append-drop 24 file) ∙ ap (λ l. take 24 file ++ l) (rest ∙ is)

capture_opened : (limit : ℕ) (file : List ℕ) (c : FileCursor) (r : Reading) → opening file ≡ Ok c → IsRead limit c r → r.fault ≡ None
    → IsCapture limit file (bytes_of r)
capture_opened limit file c r opens h none =
    let start = opening-is_header file c opens in
    let ends : Ending limit c None (length r.records) h.left = subst (λ (o : Option Fault). Ending limit c o (length r.records) h.left) none h.ends in
    let count : length h.cut.entries ≡ length r.records = h.cut.count_is in record {
      order = c.order;
      header = take 24 file;
      entries = h.cut.entries;
      rest = h.left;
      is_header = start.0;
      each = h.cut.each;
      whole = file_is file c (flat_map entry_bytes h.cut.entries ++ h.left) start.1 h.cut.whole;
      bytes_are = h.cut.bytes_are;
      within = let w = ends.0 in omega arith;
      stops = elim ends.1 [ inl x ↦ inl x | inr x ↦ inr (count ∙ x) ];
    }

refused_opened : (limit : ℕ) (file : List ℕ) (c : FileCursor) (r : Reading) (f : Fault) → opening file ≡ Ok c → IsRead limit c r → r.fault ≡ Some f
    → IsRefusedFile limit file (bytes_of r) f
refused_opened limit file c r f opens h some =
    let start = opening-is_header file c opens in
    let ends : Ending limit c (Some f) (length r.records) h.left = subst (λ (o : Option Fault). Ending limit c o (length r.records) h.left) some h.ends in
    let none_before : c.count ≡ 0 = ap (λ (k : FileCursor). k.count) start.1 in
    let count : c.count + length r.records ≡ length h.cut.entries = let same = h.cut.count_is in omega arith in record {
      order = c.order;
      header = take 24 file;
      entries = h.cut.entries;
      rest = h.left;
      is_header = start.0;
      each = h.cut.each;
      whole = file_is file c (flat_map entry_bytes h.cut.entries ++ h.left) start.1 h.cut.whole;
      bytes_are = h.cut.bytes_are;
      below = let w = ends.0 in omega arith;
      refused = ap (λ n. next (cursor_at c.order h.left n)) (sym count) ∙ ends.1;
    }

-- a file that is opened and read without a fault has these records
by_opening : (limit : ℕ) (file : List ℕ) (o : Result FileCursor Fault) → opening file ≡ o → (reading_opened limit o).fault ≡ None
    → IsCapture limit file (bytes_of (reading_opened limit o))
by_opening limit file (Err f) e h = absurd (cc)
by_opening limit file (Ok c) e h = capture_opened limit file c (reading limit c) e (read-is limit c) h

pub IsCapture-reading_of : (limit : ℕ) (file : List ℕ) → (reading_of limit file).fault ≡ None → IsCapture limit file (bytes_of (reading_of limit file))
unfolding reading_of
IsCapture-reading_of limit file h = by_opening limit file (opening file) refl h

-- a fault of a record, in a file that is opened
refused_by_opening : (limit : ℕ) (file : List ℕ) (f : Fault) (o : Result FileCursor Fault) → opening file ≡ o → 0 < f.place
    → (reading_opened limit o).fault ≡ Some f → IsRefusedFile limit file (bytes_of (reading_opened limit o)) f
refused_by_opening limit file f (Err g) e place h =
    let same : g ≡ f = cc in
    let at : f.place ≡ 0 = ap (λ (x : Fault). x.place) (sym same ∙ opening-fault_place file g e) in absurd (omega arith)
refused_by_opening limit file f (Ok c) e place h = refused_opened limit file c (reading limit c) f e (read-is limit c) h

pub IsRefused-reading_of : (limit : ℕ) (file : List ℕ) (f : Fault) → (reading_of limit file).fault ≡ Some f → 0 < f.place
    → IsRefusedFile limit file (bytes_of (reading_of limit file)) f
unfolding reading_of
IsRefused-reading_of limit file f h place = refused_by_opening limit file f (opening file) refl place h

-- the place of a refusal is the number of the first record that is not there
pub IsRefused-place : (limit : ℕ) (file : List ℕ) (records : List (List ℕ)) (f : Fault) → IsRefusedFile limit file records f
    → f ≡ fault_at f.number (length records + 1)
IsRefused-place limit file records f h =
    let count : length h.entries ≡ length records = sym (length-map h.entries (λ (e : RecordEntry). e.bytes)) ∙ ap length (sym h.bytes_are) in
    next-fault_place (cursor_at h.order h.rest (length h.entries)) f h.refused ∙ ap (λ n. fault_at f.number (n + 1)) count

-- the records before a fault are those of the file up to there
pub IsCapture-IsRefused : (limit : ℕ) (file : List ℕ) (records : List (List ℕ)) (f : Fault) → IsRefusedFile limit file records f
    → IsCapture (f.place - 1) file records
IsCapture-IsRefused limit file records f h =
    let place : f.place ≡ length h.entries + 1 = ap (λ (x : Fault). x.place) (next-fault_place (cursor_at h.order h.rest (length h.entries)) f h.refused) in record {
      order = h.order;
      header = h.header;
      entries = h.entries;
      rest = h.rest;
      is_header = h.is_header;
      each = h.each;
      whole = h.whole;
      bytes_are = h.bytes_are;
      within = omega arith;
      stops = inr (omega arith);
    }

-- a fault at no record is the header's
header_fault : (limit : ℕ) (file : List ℕ) (f : Fault) (o : Result FileCursor Fault) → opening file ≡ o → (reading_opened limit o).fault ≡ Some f
    → f.place ≡ 0 → o ≡ Err f
header_fault limit file f (Err g) e h place = let same : g ≡ f = cc in ap (λ (x : Fault). refused_by x) same
header_fault limit file f (Ok c) e h place =
    let r = refused_opened limit file c (reading limit c) f e (read-is limit c) h in
    let at : f.place ≡ length r.entries + 1 = ap (λ (x : Fault). x.place) (next-fault_place (cursor_at r.order r.rest (length r.entries)) f r.refused) in
    absurd (omega arith)

pub opening-by_reading_of : (limit : ℕ) (file : List ℕ) (f : Fault) → (reading_of limit file).fault ≡ Some f → f.place ≡ 0 → opening file ≡ Err f
unfolding reading_of
opening-by_reading_of limit file f h place = header_fault limit file f (opening file) refl h place

pub reading_of-header_fault : (limit : ℕ) (file : List ℕ) (f : Fault) → opening file ≡ Err f → ((reading_of limit file).fault ≡ Some f) × (f.place ≡ 0)
reading_of-header_fault limit file f h =
    (ap (λ (r : Reading). r.fault) (reading_of-refused limit file f h), ap (λ (x : Fault). x.place) (opening-fault_place file f h))

numbers_by_opening : (limit : ℕ) (file : List ℕ) (o : Result FileCursor Fault) → opening file ≡ o
    → map (λ (n : Numbered). n.0) (reading_opened limit o).records ≡ range_with_len 1 (length (reading_opened limit o).records)
numbers_by_opening limit file (Err f) e = refl
numbers_by_opening limit file (Ok c) e =
    let none_before : c.count ≡ 0 = ap (λ (k : FileCursor). k.count) (opening-is_header file c e).1 in
    let first : c.count + 1 ≡ 1 = omega arith in
    (read-is limit c).numbers ∙ ap (λ n. range_with_len n (length (reading limit c).records)) first

-- records are numbered from 1
pub numbers-reading_of : (limit : ℕ) (file : List ℕ)
    → map (λ (n : Numbered). n.0) (reading_of limit file).records ≡ range_with_len 1 (length (reading_of limit file).records)
unfolding reading_of
numbers-reading_of limit file = numbers_by_opening limit file (opening file) refl

-- bytes after the last record that may be read change nothing
pub IsCapture-append : (limit : ℕ) (file more : List ℕ) (records : List (List ℕ)) → IsCapture limit file records → length records ≡ limit
    → IsCapture limit (file ++ more) records
IsCapture-append limit file more records h full =
    let body = flat_map entry_bytes h.entries in
    let count : length h.entries ≡ length records = sym (length-map h.entries (λ (e : RecordEntry). e.bytes)) ∙ ap length (sym h.bytes_are) in record {
      order = h.order;
      header = h.header;
      entries = h.entries;
      rest = h.rest ++ more;
      is_header = h.is_header;
      each = h.each;
      whole = ap (λ l. l ++ more) h.whole ∙ append_assoc h.header (body ++ h.rest) more
          ∙ ap (λ l. h.header ++ l) (append_assoc body h.rest more);
      bytes_are = h.bytes_are;
      within = h.within;
      stops = inr (count ∙ full);
    }
