-- Datagrams that weren't captured whole, as they are counted.
use Rattle.std.proofs.Common.{◌≡◌, ◌∙◌, ℕ, ◌+◌, ◌==◌, ◌&&◌, Bool, true, false, cond, List, [], ◌∷◌, ◌++◌, length, filter, Option, Some, None, ap, sym, refl, subst, add-zero, append-nil, arith}
use Rattle.std.proofs.lemmas.List.{flat_map_more, length-append, map-append}
use Rattle.std.proofs.KnownBytes.{Consumes-trans}
use Rattle.std.proofs.lemmas.List.Elements.{filter-append, filter_map-append}
use Rattle.std.specs.List.{cons_option, flat_map, AllByRecursion}
use Rattle.std.specs.Map.{lookup}
use Rattle.rasta_pcap.specs.declared.pcap.Endianness.{Endianness}
use Rattle.rasta_pcap.specs.Capture.{FileCursor, RecordEntry, IsEntry, Numbered, cursor_after, cursor_at, entry_bytes}
use Rattle.rasta_pcap.specs.Stream.{Opens, ReadsRecord}
use Rattle.rasta_pcap.proofs.Captures.{next_entry}
use Rattle.rasta_pcap.proofs.Extents.{HasRead-opened}
use Rattle.rasta_pcap.proofs.Steps.{next-is_next_entry}
use Rattle.seatmelon_packets.specs.Cut.{cut_in}
use Rattle.seatmelon_packets.specs.declared.cut.Cut.{Cut}
use Rattle.seatmelon_survey.specs.CutNotes.{CutNotes, no_cuts}
use Rattle.seatmelon_survey.specs.Cuts.{AreCounted, TakesCut, TakesCutIf, capped, count_in, counted_of, cuts_in, direction_of, form_number, goes, is_formed, one_more, or_none, same_direction, same_host}
use Rattle.seatmelon_survey.specs.CutRecords.{HasCounted, frames_of}
use Rattle.seatmelon_survey.specs.declared.cuts.CutCount.{CutCount}
use Rattle.seatmelon_survey.specs.declared.cuts.Direction.{Direction}
use Rattle.seatmelon_survey.specs.declared.cuts.Host.{Host}

-- ---- one datagram more

-- so many pass a test, of one more
filter_more : {X : Type 0} (test : X → Bool) (l : List X) (x : X) (b : Bool) → test x ≡ b
    → length (filter test (l ++ x ∷ [])) ≡ length (filter test l) + cond b 1 0
filter_more test l x true e =
    ap length (filter-append test l (x ∷ []) ∙ ap (λ c. filter test l ++ cond c (x ∷ []) []) e) ∙ length-append (filter test l) (x ∷ [])
filter_more test l x false e =
    ap length (filter-append test l (x ∷ []) ∙ ap (λ c. filter test l ++ cond c (x ∷ []) []) e ∙ append-nil _) ∙ sym (add-zero _)

capped-more : (n k : ℕ) → capped (capped n + k) ≡ capped (n + k)
capped-more n k = omega arith

capped-same : (n : ℕ) → capped (n + 0) ≡ capped n
capped-same n = ap capped (add-zero n)

form_number-is : (b : Bool) → form_number b ≡ cond b 1 0
form_number-is true = refl
form_number-is false = refl

count_more : (cuts : List Cut) (cut : Cut) (d : Direction) (b : Bool) → goes d cut ≡ b
    → cond b (one_more cut (counted_of d cuts)) (counted_of d cuts) ≡ counted_of d (cuts ++ cut ∷ [])
count_more cuts cut d true way =
    let datagrams = capped-more (length (filter (goes d) cuts)) 1 ∙ sym (ap capped (filter_more (goes d) cuts cut true way)) in
    let formed = ap (λ k. capped (capped (length (filter (is_formed d) cuts)) + k)) (form_number-is cut.has_form)
    ∙ capped-more (length (filter (is_formed d) cuts)) (cond cut.has_form 1 0)
    ∙ sym (ap capped (filter_more (is_formed d) cuts cut cut.has_form (ap (λ b. b && cut.has_form) way))) in
    λ i. record { datagrams = datagrams i; formed = formed i }
count_more cuts cut d false way =
    let datagrams = sym (capped-same _) ∙ sym (ap capped (filter_more (goes d) cuts cut false way)) in
    let formed = sym (capped-same _) ∙ sym (ap capped (filter_more (is_formed d) cuts cut false (ap (λ b. b && cut.has_form) way))) in
    λ i. record { datagrams = datagrams i; formed = formed i }

AreCounted-more : (cuts : List Cut) (cut : Cut) (old new : CutNotes) → TakesCut cut old new → AreCounted cuts old → AreCounted (cuts ++ cut ∷ []) new
AreCounted-more cuts cut old new takes are = record {
  all = takes.all ∙ ap (λ n. capped (n + 1)) are.all ∙ capped-more (length cuts) 1 ∙ sym (ap capped (length-append cuts (cut ∷ [])));
  each = λ none d. takes.each none d ∙ ap (λ c. cond (goes d cut) (one_more cut c) c) (are.each (takes.apart none) d) ∙ count_more cuts cut d (goes d cut) refl;
}

-- ---- one frame more

one_frame : (frames : List (List ℕ)) (frame : List ℕ) (o : Option Cut) → cut_in frame ≡ o
    → cuts_in (frames ++ frame ∷ []) ≡ cuts_in frames ++ cons_option o []
one_frame frames frame o is = filter_map-append cut_in frames (frame ∷ []) ∙ ap (λ c. cuts_in frames ++ cons_option c []) is

frame_counted : (frames : List (List ℕ)) (frame : List ℕ) (o : Option Cut) (old new : CutNotes) → cut_in frame ≡ o → TakesCutIf o old new
    → AreCounted (cuts_in frames) old → AreCounted (cuts_in (frames ++ frame ∷ [])) new
frame_counted frames frame None old new is takes are =
    subst (λ l. AreCounted l new) (sym (one_frame frames frame None is ∙ append-nil (cuts_in frames)))
    (subst (λ c. AreCounted (cuts_in frames) c) (sym takes) are)
frame_counted frames frame (Some cut) old new is takes are =
    subst (λ l. AreCounted l new) (sym (one_frame frames frame (Some cut) is)) (AreCounted-more (cuts_in frames) cut old new takes are)

-- ---- records

none_of : (entries : List RecordEntry) → length entries ≡ 0 → [] ≡ entries
none_of [] e = refl
none_of (x ∷ xs) e = absurd cc

none_counted : (cuts : CutNotes) (entries : List RecordEntry) → cuts ≡ no_cuts → length entries ≡ 0 → AreCounted (cuts_in (frames_of entries)) cuts
none_counted cuts entries is none =
    subst (λ (l : List RecordEntry). AreCounted (cuts_in (frames_of l)) cuts) (none_of entries none)
    (subst (λ (c : CutNotes). AreCounted [] c) (sym is) (record { all = refl; each = λ none d. refl }))

pub HasCounted-opened : (order : Endianness) (old new : Option (List ℕ)) (cuts : CutNotes) → Opens order old new → cuts ≡ no_cuts
    → HasCounted order 0 old new cuts
HasCounted-opened order old new cuts opened is =
    let read = HasRead-opened order old new opened in
    record { read = read; counted = none_counted cuts read.entries is read.counted }

entries-more : (order : Endianness) (entries : List RecordEntry) (e : RecordEntry) → AllByRecursion (IsEntry order) entries → IsEntry order e
    → AllByRecursion (IsEntry order) (entries ++ e ∷ [])
entries-more order [] e each h = (h, tt)
entries-more order (x ∷ xs) e each h = (each.0, entries-more order xs e each.1 h)

pub HasCounted-more : (order : Endianness) (read count : ℕ) (r : Numbered) (old mid new : Option (List ℕ)) (cuts more : CutNotes)
    → HasCounted order read old mid cuts → ReadsRecord order count r mid new → TakesCutIf (cut_in r.1) cuts more
    → HasCounted order (read + 1) old new more
HasCounted-more order read count r old mid new cuts more h found takes =
    let c = cursor_at order (found.bytes ++ []) count in
    let f = next_entry c r (next-is_next_entry c r (found.each []).0) in
    let nothing : (cursor_after c).rest ≡ [] = ap (λ (c : FileCursor). c.rest) (found.each []).1 in
    let bytes : found.bytes ≡ entry_bytes f.entry =
    sym (append-nil found.bytes) ∙ f.front ∙ ap (λ l. entry_bytes f.entry ++ l) nothing ∙ append-nil (entry_bytes f.entry) in
    let frames = frames_of h.read.entries in
    let same : frames_of (h.read.entries ++ f.entry ∷ []) ≡ frames ++ r.1 ∷ [] =
    map-append (λ (e : RecordEntry). e.bytes) h.read.entries (f.entry ∷ []) ∙ ap (λ b. frames ++ b ∷ []) (sym f.bytes_are) in record {
      read = record {
        bytes = h.read.bytes ++ found.bytes;
        header = h.read.header;
        entries = h.read.entries ++ f.entry ∷ [];
        consumed = Consumes-trans old mid new h.read.bytes found.bytes h.read.consumed found.consumed;
        is_header = h.read.is_header;
        each = entries-more order h.read.entries f.entry h.read.each f.is_entry;
        whole = ap (λ l. l ++ found.bytes) h.read.whole ∙ ap (λ l. (h.read.header ++ flat_map entry_bytes h.read.entries) ++ l) bytes
            ∙ flat_map_more entry_bytes h.read.header h.read.entries f.entry;
        counted = length-append h.read.entries (f.entry ∷ []) ∙ ap (λ n. n + 1) h.read.counted;
      };
      counted = subst (λ l. AreCounted (cuts_in l) more) (sym same) (frame_counted frames r.1 (cut_in r.1) cuts more refl takes h.counted);
    }

-- ---- what a table has

same_number : (a b : ℕ) → (a == b) ≡ true → a ≡ b
same_number a b e = grind arith

first_of : (a b : Bool) → (a && b) ≡ true → a ≡ true
first_of true b e = refl
first_of false b e = absurd cc

second_of : (a b : Bool) → (a && b) ≡ true → b ≡ true
second_of true b e = e
second_of false b e = absurd cc

same_host-is : (a b : Host) → same_host a b ≡ true → a ≡ b
same_host-is a b e =
    let address = same_number a.address b.address (first_of _ _ e) in
    let port = same_number a.port b.port (second_of _ _ e) in λ i. record { address = address i; port = port i }

same_direction-is : (a b : Direction) → same_direction a b ≡ true → a ≡ b
same_direction-is a b e =
    let source = same_host-is a.source b.source (first_of _ _ e) in
    let destination = same_host-is a.destination b.destination (second_of _ _ e) in λ i. record { source = source i; destination = destination i }

-- the count of a direction was set, and no other one
pub count_set : (cut : Cut) (old new : CutNotes) (d : Direction) (b : Bool) → goes d cut ≡ b
    → count_in new d ≡ cond b (one_more cut (count_in old (direction_of cut.route))) (count_in old d)
    → count_in new d ≡ cond b (one_more cut (count_in old d)) (count_in old d)
count_set cut old new d true way is = is ∙ ap (λ (x : Direction). one_more cut (count_in old x)) (same_direction-is (direction_of cut.route) d way)
count_set cut old new d false way is = is

or_none_cond : (b : Bool) (c : CutCount) (o : Option CutCount) → or_none (cond b (Some c) o) ≡ cond b c (or_none o)
or_none_cond true c o = refl
or_none_cond false c o = refl

-- in a table the count of a direction was set
count_inserted : (cut : Cut) (old new : CutNotes) (key : Direction) (count : CutCount) → key ≡ direction_of cut.route → count ≡ one_more cut (count_in old key)
    → ((d : Direction) → lookup (same_direction d) new.entries ≡ cond (same_direction key d) (Some count) (lookup (same_direction d) old.entries))
    → (d : Direction) → count_in new d ≡ cond (goes d cut) (one_more cut (count_in old d)) (count_in old d)
count_inserted cut old new key count key_is count_is updates d =
    let updated = subst (λ (k : Direction). lookup (same_direction d) new.entries ≡ cond (same_direction k d) (Some count) (lookup (same_direction d) old.entries)) key_is (updates d) in
    let counted = count_is ∙ ap (λ (k : Direction). one_more cut (count_in old k)) key_is in
    count_set cut old new d (goes d cut) refl
    (ap or_none updated ∙ or_none_cond (goes d cut) count (lookup (same_direction d) old.entries) ∙ ap (λ (c : CutCount). cond (goes d cut) c (count_in old d)) counted)

-- a datagram of a direction that is told apart
pub TakesCut-apart : (cut : Cut) (old new : CutNotes) (key : Direction) (count : CutCount) → key ≡ direction_of cut.route → count ≡ one_more cut (count_in old key)
    → ((d : Direction) → lookup (same_direction d) new.entries ≡ cond (same_direction key d) (Some count) (lookup (same_direction d) old.entries))
    → new.further ≡ old.further → new.datagrams ≡ capped (old.datagrams + 1) → TakesCut cut old new
TakesCut-apart cut old new key count key_is count_is updates still all = record {
  all = all;
  apart = λ none. sym still ∙ none;
  each = λ none d. count_inserted cut old new key count key_is count_is updates d;
}

capped_some : (n : ℕ) → capped (n + 1) ≡ 0 → ⊥
capped_some n e = omega (arith, e)

-- a datagram of a further one
pub TakesCut-further : (cut : Cut) (old new : CutNotes) → new.further ≡ capped (old.further + 1) → new.datagrams ≡ capped (old.datagrams + 1) → TakesCut cut old new
TakesCut-further cut old new more all = record {
  all = all;
  apart = λ none. absurd (capped_some old.further (sym more ∙ none));
  each = λ none d. absurd (capped_some old.further (sym more ∙ none));
}
