-- Crossings record by record.
use Rattle.std.proofs.Common.{◌≡◌, ◌⊎◌, ℕ, List, [], ◌∷◌, ◌++◌, suc, ◌+◌, ◌-◌, length, map, drop, append_assoc, append-nil, Option, Some, None, Result, Ok, Err, true, false, refl, ap, sym, ◌∙◌, arith, subst, nat_lt}
use Rattle.rasta_check.proofs.Prelude.{nat_tests, length_push, Side, Client, Server, fault_of_end, IsCapture-reading_of, reading_of-IsCapture, Packet, packet_in, FirstCopy}
use Rattle.rasta_check.proofs.Prelude.{crossing_list, packet_fault, Fault, Numbered, IsCapture, next, cursor_after, opening, reading, reading_of, bytes_of, Parameters}
use Rattle.rasta_check.proofs.Prelude.{AreParameters, Crossing, IsCrossing, then_crossing, after_record, after_records, after_reading, crossing_of, crossing_with, keeps_limits}
use Rattle.rasta_check.proofs.Prelude.{nothing_crossed, sent_after, sent_by, with_packet, AreBytes, OfConnection, all_front}
use Rattle.std.specs.Prelude.{IsOk}
use Rattle.std.specs.List.{AllByRecursion, filter_map, range_with_len, cons_option}
use Rattle.std.proofs.Math.ListN.{drop_of_length-le}
use Rattle.std.proofs.lemmas.List.{drop-append-le}
use Rattle.std.proofs.lemmas.List.Elements.{filter_map-append}
use Rattle.std.specs.Option.{option_flatten}
use Rattle.std.specs.Result.{result_ok}
use Rattle.rasta_pcap.specs.Fault.{fault_at, too_many}
use Rattle.rasta_pcap.proofs.Captures.{numbers-reading_of}
use Rattle.rasta_pcap.specs.Capture.{FileCursor, read_step}
use Rattle.rasta_pcap.proofs.Steps.{reading_of-opened, reading_of-refused}
use Rattle.rasta_check.specs.Capture.Reading.{after_packet}
use Rattle.rasta_check.proofs.Capture.Channels.{is_recorded}
use Rattle.rasta_check.proofs.Capture.Crossings.{crossing_of_lists, is_read, grown_crossing}
use Rattle.rasta_check.proofs.Capture.FirstCopies.{sent_none}
use Rattle.rasta_check.proofs.Lists.{all_append, all_at}
use Rattle.rasta_check.proofs.Capture.RecordBytes.{AllBytes, payload_bytes}

-- what is next leads on
pub after-next : (k : Crossing) (left : ℕ) (c : FileCursor) (o : Result (Option Numbered) Fault) → next c ≡ o
    → after_reading k (reading (suc left) c) ≡ after_reading k (read_step o (reading left (cursor_after c)))
unfolding reading
after-next k left c o h = ap (λ (q : Result (Option Numbered) Fault). after_reading k (read_step q (reading left (cursor_after c)))) h

-- as a function names it
pub ruleset leads_on = (after-next)

pub after-opened : (p : Parameters) (file : List ℕ) (c : FileCursor) → opening file ≡ Ok c → crossing_of p file ≡ after_reading (nothing_crossed p) (reading p.last_record c)
after-opened p file c h = ap (after_reading (nothing_crossed p)) (reading_of-opened p.last_record file c h)

pub after-refused : (p : Parameters) (file : List ℕ) (f : Fault) → opening file ≡ Err f → crossing_of p file ≡ Err f
unfolding after_records
after-refused p file f h = ap (after_reading (nothing_crossed p)) (reading_of-refused p.last_record file f h)

-- ---- one record

-- what a record leads to
pub data Step (k : Crossing) (r : Numbered) : Result Crossing Fault → Type 0 where
  before : nat_lt r.0 k.params.first_record ≡ true → Step k r (Ok k)
  empty : nat_lt r.0 k.params.first_record ≡ false → packet_in k.params.channels r.1 ≡ Ok None → Step k r (Ok k)
  joined : (a : Packet) → nat_lt r.0 k.params.first_record ≡ false → packet_in k.params.channels r.1 ≡ Ok (Some a) → packet_fault k.params (sent_by k a.side) a ≡ None
      → keeps_limits (with_packet k a) ≡ true → Step k r (Ok (with_packet k a))
  bad_frame : (f : Fault) → nat_lt r.0 k.params.first_record ≡ false → packet_in k.params.channels r.1 ≡ Err f → Step k r (Err (fault_at f.number r.0))
  bad_packet : (a : Packet) (number : ℕ) → nat_lt r.0 k.params.first_record ≡ false → packet_in k.params.channels r.1 ≡ Ok (Some a)
      → packet_fault k.params (sent_by k a.side) a ≡ Some number → Step k r (Err (fault_of_end number r.0 a.side))
  no_room : (a : Packet) → nat_lt r.0 k.params.first_record ≡ false → packet_in k.params.channels r.1 ≡ Ok (Some a) → packet_fault k.params (sent_by k a.side) a ≡ None
      → keeps_limits (with_packet k a) ≡ false → Step k r (Err (fault_at too_many r.0))

module _ (k : Crossing) (r : Numbered) where
  pub step_of : Step k r (after_record k r)
  unfolding after_record after_packet
  step_of = grind (arith, before, empty, joined, bad_frame, bad_packet, no_room)

  -- a record leads nowhere else
  pub step_is : (o : Result Crossing Fault) → Step k r o → after_record k r ≡ o
  unfolding after_record after_packet
  step_is o (before t) = rw t
  step_is o (empty t g) = rw (t, g)
  step_is o (joined a t g n e) = rw (t, g, n, e)
  step_is o (bad_frame f t g) = rw (t, g)
  step_is o (bad_packet a number t g n) = rw (t, g, n)
  step_is o (no_room a t g n e) = rw (t, g, n, e)

pub then_by : (q : Result Crossing Fault) (f : Crossing → Result Crossing Fault) (last : Crossing) → then_crossing q f ≡ Ok last → (next : Crossing) × (q ≡ Ok next) × (f next ≡ Ok last)
then_by q f last e = grind arith

-- ---- records of a file

-- numbered from here
abbrev pub numbered : ℕ → List (List ℕ) → List Numbered
numbered n [] = []
numbered n (frame ∷ frames) = (n, frame) ∷ numbered (n + 1) frames

is_numbered : (n : ℕ) (rs : List Numbered) → map (λ (r : Numbered). r.0) rs ≡ range_with_len n (length rs) → rs ≡ numbered n (map (λ (r : Numbered). r.1) rs)
is_numbered n [] e = refl
is_numbered n (r ∷ rs) e = (let more = is_numbered (n + 1) rs in grind arith)

pub numbered_of : (limit : ℕ) (file : List ℕ) → (reading_of limit file).records ≡ numbered 1 (bytes_of (reading_of limit file))
numbered_of limit file = is_numbered 1 (reading_of limit file).records (numbers-reading_of limit file)

abbrev pub packets_in : Parameters → List (List ℕ) → List Packet
packets_in p frames = filter_map (λ (frame : List ℕ). option_flatten (result_ok (packet_in p.channels frame))) frames

packets_append : (p : Parameters) (xs ys : List (List ℕ)) → packets_in p (xs ++ ys) ≡ packets_in p xs ++ packets_in p ys
packets_append p xs ys = filter_map-append (λ (frame : List ℕ). option_flatten (result_ok (packet_in p.channels frame))) xs ys

abbrev pub AreSound : Parameters → List (List ℕ) → Type 0
AreSound p frames = AllByRecursion (λ (frame : List ℕ). IsOk (packet_in p.channels frame)) frames

-- the frames of those in the window
abbrev pub window : Parameters → List (List ℕ) → List (List ℕ)
window p frames = drop (p.first_record - 1) frames

module _ (p : Parameters) (frames : List (List ℕ)) (frame : List ℕ) (later : List (List ℕ)) (inside : nat_lt (suc (length frames)) p.first_record ≡ false) where
  pub window_with : window p (frames ++ frame ∷ later) ≡ window p frames ++ frame ∷ later
  window_with = drop-append-le (p.first_record - 1) frames (frame ∷ later) (grind (arith, nat_tests))

  -- what a record of the window holds follows what crossed before
  pub packets_with : (o : Option Packet) → packet_in p.channels frame ≡ Ok o → crossing_list p (frames ++ frame ∷ later) ≡ crossing_list p frames ++ cons_option o (packets_in p later)
  packets_with o found = grind (arith, window_with, packets_append)

-- ---- records without a fault

-- what crosses by records in which the sides sent these lists
abbrev pub crossing_by : Parameters → List (List ℕ) → List FirstCopy → List FirstCopy → Crossing
crossing_by p records client server = record { params = p; packets = crossing_list p records; client = client; server = server }

-- this crossed in records without a fault
pub record Crossed (p : Parameters) (frames : List (List ℕ)) (k : Crossing) : Type 0 where
  pub same : k ≡ crossing_by p frames k.client k.server
  pub sound : AreSound p (window p frames)
  pub is : OfConnection p → AllBytes frames → IsCrossing k

pub grown_same : (k : Crossing) (a : Packet) (side : Side) (own : List FirstCopy)
    → crossing_with k a side own ≡ record { params = k.params; packets = k.packets ++ a ∷ []; client = (crossing_with k a side own).client; server = (crossing_with k a side own).server }
grown_same k a side own = grind arith

module _ (p : Parameters) (front : List (List ℕ)) (frame : List ℕ) (c s : List FirstCopy) (x : Crossed p front (crossing_by p front c s)) where
  -- the window has these frames more, and what they hold was added
  crossed_with : (w : List (List ℕ)) (next : Crossing) → window p (front ++ frame ∷ []) ≡ window p front ++ w → AreSound p w
      → next ≡ record { params = p; packets = crossing_list p front ++ packets_in p w; client = next.client; server = next.server }
      → (OfConnection p → AreBytes frame → IsCrossing (crossing_by p front c s) → IsCrossing next) → Crossed p (front ++ frame ∷ []) next
  crossed_with w next e sound same is = record {
    same = same ∙ (λ i. record { params = p; packets = sym (ap (packets_in p) e ∙ packets_append p (window p front) w) i; client = next.client; server = next.server });
    sound = rw e (all_append _ (window p front) w x.sound sound);
    is = λ h are. is h (all_at AreBytes front frame [] are) (x.is h (all_front AreBytes front (frame ∷ []) are));
  }

  pub crossed_more : (next : Crossing) → Step (crossing_by p front c s) (suc (length front), frame) (Ok next) → Crossed p (front ++ frame ∷ []) next
  crossed_more next (before t) =
      let size = length_push front frame in
      crossed_with [] next (grind (arith, drop_of_length-le)) tt (rw append-nil refl) (λ h are is. is)
  crossed_more next (empty t g) = crossed_with (frame ∷ []) next (window_with p front frame [] t) (rw g refl, tt) (rw (g, append-nil) refl) (λ h are is. is)
  crossed_more next (joined a t g n e) =
      let k = crossing_by p front c s in
      crossed_with (frame ∷ []) next (window_with p front frame [] t) (rw g refl, tt) (rw g (grown_same k a a.side (sent_after k a)))
      (λ h are is. grown_crossing k a is (is_recorded p frame a g) (is_read p (sent_by k a.side) a h.valid (payload_bytes p frame a g are) n) n e)

-- the first fault of records: in which the sides sent these lists up to the record that has it
pub record FirstFault (p : Parameters) (frames : List (List ℕ)) (f : Fault) : Type 0 where
  pub front : List (List ℕ)
  pub frame : List ℕ
  pub later : List (List ℕ)
  pub client : List FirstCopy
  pub server : List FirstCopy
  pub split : frames ≡ front ++ frame ∷ later
  pub crossed : Crossed p front (crossing_by p front client server)
  pub step : Step (crossing_by p front client server) (suc (length front), frame) (Err f)

-- where records lead: all are read without a fault, and then comes the end's; or one has a fault
abbrev pub Leads : Parameters → List (List ℕ) → Option Fault → Result Crossing Fault → Type 0
Leads p frames end (Ok k) = (end ≡ None) × Crossed p frames k
Leads p frames end (Err f) = ((k : Crossing) × Crossed p frames k × (end ≡ Some f)) ⊎ FirstFault p frames f

module _ (p : Parameters) (end : Option Fault) where
  walk : (frames front : List (List ℕ)) (n : ℕ) (k : Crossing) → n ≡ suc (length front) → Crossed p front k → Leads p (front ++ frames) end (after_records k (numbered n frames) end)
  unfolding after_records
  walk [] front n k e x = grind (arith, append-nil)
  walk (frame ∷ frames) front n k e x =
      let step = subst (λ (z : Crossing × ℕ). Step z.0 (z.1, frame) (after_record k (n, frame))) (λ i. (x.same i, e i)) (step_of k (n, frame)) in
      let more = λ (next : Crossing). walk frames (front ++ frame ∷ []) (n + 1) next (omega (arith, length_push front frame)) in
      grind (arith, crossed_more, append_assoc)

pub nothing_is : (p : Parameters) → OfConnection p → IsCrossing (nothing_crossed p)
nothing_is p h = crossing_of_lists (nothing_crossed p) h (λ place a g. absurd (cc)) refl (sent_none p Client h.valid) (sent_none p Server h.valid)

pub records_lead : (p : Parameters) (frames : List (List ℕ)) (end : Option Fault) → Leads p frames end (after_records (nothing_crossed p) (numbered 1 frames) end)
records_lead p frames end =
    let none : window p [] ≡ [] = drop_of_length-le {A = List ℕ} [] (omega arith) in
    walk p end frames [] 1 (nothing_crossed p) refl (record { same = rw none refl; sound = rw none tt; is = λ h are. nothing_is p h })

pub file_leads : (p : Parameters) (file : List ℕ) → Leads p (bytes_of (reading_of p.last_record file)) (reading_of p.last_record file).fault (crossing_of p file)
file_leads p file = grind (arith, numbered_of, records_lead)

-- a file that is read: its records, and the packets that they hold
pub file_by : (p : Parameters) (file : List ℕ) (k : Crossing) → crossing_of p file ≡ Ok k
    → (records : List (List ℕ)) × IsCapture p.last_record file records × (k.packets ≡ crossing_list p records) × (k.params ≡ p)
file_by p file k e = grind (arith, file_leads, IsCapture-reading_of)

-- the same of all lists of records
pub file_records : (p : Parameters) (file : List ℕ) (k : Crossing) (records : List (List ℕ)) → AreParameters p → crossing_of p file ≡ Ok k → IsCapture p.last_record file records
    → k.packets ≡ crossing_list p records
file_records p file k records valid e is =
    let w = rw e at (file_leads p file) in
    ap (λ (q : Crossing). q.packets) w.1.same ∙ ap (crossing_list p) (reading_of-IsCapture p.last_record file records valid.window.last_most is).0
