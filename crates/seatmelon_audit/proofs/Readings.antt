-- The steps of the reading for all connections.
use Rattle.std.proofs.Common.{◌≡◌, ◌∙◌, ◌⊎◌, ℕ, suc, ◌+◌, ◌<◌, ◌≤◌, Bool, true, false, not, cond, List, [], ◌∷◌, ◌++◌, length, Option, None, Some, IfSome, ap, refl, sym, subst, add-one, arith}
use Rattle.std.proofs.lemmas.List.{length_push}
use Rattle.std.specs.Io.KnownBytes.{prepend_known}
use Rattle.rasta_pcap.specs.declared.buffered.Buffered.{Buffered}
use Rattle.rasta_pcap.specs.declared.fault.Fault.{Fault}
use Rattle.rasta_pcap.specs.declared.time.CaptureTime.{CaptureTime}
use Rattle.rasta_pcap.specs.Buffered.{held_by, left_in, source_of}
use Rattle.rasta_pcap.specs.Capture.{Numbered, max_records}
use Rattle.rasta_pcap.specs.Captured.{Captured, numbered, walk_of}
use Rattle.rasta_pcap.specs.Walk.{IsSeen, SeesNext}
use Rattle.rasta_pcap.specs.Capture as captures
use Rattle.rasta_pdu.specs.Params.{Parameters}
use Rattle.seatmelon_reading.proofs.Filters.{length_filter-most, length_filter-push}
use Rattle.seatmelon_audit.specs.All.{IsKnown, lines_in}
use Rattle.seatmelon_audit.specs.Files.{IsWhole}
use Rattle.seatmelon_audit.specs.Lines.{AllTakeIn, TellsAny, params_of}
use Rattle.seatmelon_audit.specs.Records.{is_any_held, others_in}
use Rattle.seatmelon_audit.specs.Reading.{EndsReading, HasEnded, HasRead, IsReading, params_in}
use Rattle.seatmelon_audit.specs.declared.reading.Reading.{Reading}
use Rattle.rasta_pcap.proofs.Walks.{seen_through, walk-is_reading}
use Rattle.seatmelon_audit.proofs.Through.{all_ended_by, all_unended}

-- ---- what was read

-- the next record was taken in
pub record TakesRecord (old new : Reading) (r : Numbered) (time : Option CaptureTime) : Type 0 where
  pub lines : IsKnown old.lines → AllTakeIn (lines_in old.lines) (lines_in new.lines) r time
  pub params : params_of (lines_in new.lines) ≡ params_of (lines_in old.lines)
  pub known : IsKnown old.lines → IsKnown new.lines
  pub count : new.records ≡ r.0
  pub fault : new.fault ≡ old.fault
  pub held : Bool
  pub tells : IsKnown old.lines → TellsAny held (lines_in old.lines) r
  pub others : old.others < max_records → new.others ≡ old.others + cond held 0 1

-- ---- the records of none of the connections

one_other : (held : Bool) → ◌≡◌ {A = ℕ} (cond (not held) 1 0) (cond held 0 1)
one_other true = refl
one_other false = refl

other_more : (recorded : List Parameters) (done : List Captured) (q : Captured) (held : Bool) → held ≡ is_any_held recorded (numbered q)
    → length (others_in recorded (done ++ q ∷ [])) ≡ length (others_in recorded done) + cond held 0 1
other_more recorded done q held e =
    length_filter-push (λ (r : Captured). not (is_any_held recorded (numbered r))) done q (not held) (ap not (sym e))
    ∙ ap (λ n. length (others_in recorded done) + n) (one_other held)

others_few : (recorded : List Parameters) (done : List Captured) → length (others_in recorded done) ≤ length done
others_few recorded done = length_filter-most (λ (r : Captured). not (is_any_held recorded (numbered r))) done

read_more : (recorded : List Parameters) (done : List Captured) (q : Captured) (old new : Reading) (time : Option CaptureTime) → q.number ≡ suc (length done) → length done < max_records → time ≡ Some q.time
    → TakesRecord old new (q.number, q.bytes) time → HasRead recorded done old → HasRead recorded (done ++ q ∷ []) new
read_more recorded done q old new time next room timed takes h = record {
  lines = takes.lines h.known done q refl next timed h.lines;
  params = takes.params ∙ h.params;
  known = takes.known h.known;
  count = takes.count ∙ next ∙ sym (add-one (length done)) ∙ sym (length_push done q);
  others =
      let few = others_few recorded done in
      let before = h.others in
      takes.others (omega (arith, few, before, room)) ∙ ap (λ n. n + cond takes.held 0 1) before
      ∙ sym (other_more recorded done q takes.held
      (takes.tells h.known done next h.lines ∙ ap (λ (ps : List Parameters). is_any_held ps (numbered q)) h.params));
  none = takes.fault ∙ h.none;
}

all_read : (recorded : List Parameters) (file : List ℕ) (done : List Captured) (r : Reading) → IsWhole file done None → HasRead recorded done r → IsReading recorded file r
all_read recorded file done r whole h = record {
  lines = all_unended file done (lines_in r.lines) whole h.lines;
  params = h.params;
  count = h.count ∙ ap length whole.captured;
  others = h.others ∙ ap (λ l. length (others_in recorded l)) whole.captured;
  fault = h.none ∙ whole.fault;
}

ended : (recorded : List Parameters) (file : List ℕ) (done : List Captured) (f : Fault) (old new : Reading) → IsWhole file done (Some f)
    → ((f.place ≡ 0) × (done ≡ [])) ⊎ (f.place ≡ suc (length done)) → EndsReading f old new → HasRead recorded done old → IsReading recorded file new
ended recorded file done f old new whole after ends h = record {
  lines = all_ended_by file done f (lines_in new.lines) whole (ends.lines done after h.lines);
  params = ends.params ∙ h.params;
  count = ends.count ∙ h.count ∙ ap length whole.captured;
  others = ends.others ∙ h.others ∙ ap (λ l. length (others_in recorded l)) whole.captured;
  fault = ends.kept ∙ whole.fault;
}

-- ---- at the end

read_as : (recorded : List Parameters) (done : List Captured) (r : Reading) → params_in r ≡ recorded → HasRead (params_in r) done r → HasRead recorded done r
read_as recorded done r same h = subst (λ (ps : List Parameters). HasRead ps done r) same h

pub next_read : (old new : Reading) (r : Numbered) (time : Option CaptureTime) → TakesRecord old new r time → params_in new ≡ params_in old
    → SeesNext (λ (reading : Reading) done. HasRead (params_in reading) done reading) old new r time
next_read old new r time takes same done q is next short timed h =
    read_as (params_in new) (done ++ q ∷ []) new refl
    (subst (λ (ps : List Parameters). HasRead ps (done ++ q ∷ []) new) (sym same)
    (read_more (params_in old) done q old new time (ap (λ (n : Numbered). n.0) is ∙ next) short timed (subst (λ (n : Numbered). TakesRecord old new n time) (sym is) takes) h))

walk_whole : (file : List ℕ) → IsWhole file (walk_of max_records file).records (walk_of max_records file).fault
walk_whole file = record { captured = refl; fault = ap (λ (g : captures.Reading). g.fault) (walk-is_reading max_records file) }

-- all of a file was read
pub file_seen : (recorded : List Parameters) (file : List ℕ) (r : Reading) → params_in r ≡ recorded
    → IsSeen (λ (reading : Reading) done. HasRead (params_in reading) done reading) HasEnded (walk_of max_records file) r → IsReading recorded file r
file_seen recorded file r same h =
    seen_through (λ (reading : Reading) done. HasRead (params_in reading) done reading) HasEnded (λ records fault. IsWhole file records fault → IsReading recorded file r) r
    (λ done read whole. all_read recorded file done r whole (read_as recorded done r same read))
    (λ done f end whole. ended recorded file done f end.old r whole end.behind end.ends (read_as recorded done end.old (sym end.ends.params ∙ same) end.read))
    (walk_of max_records file).records (walk_of max_records file).fault h (walk_whole file)

-- ---- behind a buffer that holds nothing

pub file_read : (input buffered : Option (List ℕ)) (recorded : List Parameters) (old new : Reading) → buffered ≡ input → HasRead (params_in old) [] old → params_in new ≡ recorded
    → IfSome buffered (λ file. HasRead (params_in old) [] old → IsSeen (λ (reading : Reading) done. HasRead (params_in reading) done reading) HasEnded (walk_of max_records file) new)
    → IfSome input (λ file. IsReading recorded file new)
file_read None buffered recorded old new is begun same read = tt
file_read (Some file) buffered recorded old new is begun same read =
    let some = subst (λ (o : Option (List ℕ)). IfSome o (λ (f : List ℕ). HasRead (params_in old) [] old → IsSeen (λ (reading : Reading) done. HasRead (params_in reading) done reading) HasEnded (walk_of max_records f) new)) is read in
    file_seen recorded file new same (some begun)

nothing_held : (o : Option (List ℕ)) → prepend_known [] o ≡ o
nothing_held None = refl
nothing_held (Some l) = refl

pub left_known : {S : Type 0} (remaining : S → Option (List ℕ)) (b : Buffered S) (start : S) → source_of b ≡ start → held_by b ≡ [] → left_in remaining b ≡ remaining start
left_known remaining b start source empty =
    ap (λ l. prepend_known l (remaining (source_of b))) empty ∙ ap (λ s. prepend_known [] (remaining s)) source ∙ nothing_held (remaining start)
