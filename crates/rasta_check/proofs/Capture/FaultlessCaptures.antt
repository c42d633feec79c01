-- A capture is read without a fault exactly where it has none.
use Rattle.std.proofs.Common.{◌≡◌, ℕ, suc, ◌≤◌, List, [], ◌∷◌, ◌++◌, length, append_assoc, length-append, Option, Some, None, Result, Ok, Err, true, false, refl, ap, sym, ◌∙◌, arith, subst, nat_lt, inl, inr}
use Rattle.rasta_check.proofs.Prelude.{length_push, nat_tests, Fault, Side, Client, Server, reading_of, bytes_of, reading_of-IsCapture, IsCapture-reading_of, Packet, packet_in}
use Rattle.rasta_check.proofs.Prelude.{Parameters, AreParameters, AreBytes, FirstCopy, Sent, crossing_list, packet_fault, OfConnection, Crossing, IsCrossing, after_records}
use Rattle.rasta_check.proofs.Prelude.{crossing_of, keeps_limits, nothing_crossed, sent_after, sent_by, with_packet, all_front}
use Rattle.std.specs.Prelude.{IsOk}
use Rattle.rasta_check.specs.Model.Theorem.{most_packets}
use Rattle.rasta_check.specs.Model.World.{most_sent}
use Rattle.rasta_check.specs.Capture.Reading.{at_end}
use Rattle.rasta_check.specs.Capture.Faults.{AreFaultless, CrossedIn, IsFaultlessCapture, sent_of}
use Rattle.rasta_check.proofs.Capture.FaultlessLists.{IsSent}
use Rattle.rasta_check.proofs.Capture.Crossings.{list_of, few_of, is_read, goes_on}
use Rattle.rasta_check.proofs.Capture.PacketFaults.{faultless}
use Rattle.rasta_check.proofs.Capture.NextPackets.{can_follow, cut}
use Rattle.rasta_check.proofs.Capture.ListForms.{to_record}
use Rattle.rasta_check.proofs.Capture.RecordBytes.{AllBytes, file_bytes, payload_bytes}
use Rattle.rasta_check.proofs.Capture.Readings.{AreSound, Crossed, Leads, Step, bad_frame, bad_packet, no_room, crossing_by, file_leads, numbered, numbered_of, packets_in, packets_with, records_lead, window, window_with}
use Rattle.rasta_check.proofs.Lists.{all_at}
use Rattle.rasta_check.proofs.Capture.FirstCopies.{sent_once}

-- ---- what is read without a fault

pub faultless_of : (p : Parameters) (frames : List (List ℕ)) (k : Crossing) → OfConnection p → AllBytes frames → Crossed p frames k → AreFaultless p frames k.client k.server
faultless_of p frames k h are x = record { frames = x.sound; sent = (subst IsCrossing x.same (x.is h are)).sent }

pub crossed_in : (p : Parameters) (file : List ℕ) (k : Crossing) → OfConnection p → AreBytes file → crossing_of p file ≡ Ok k → CrossedIn p file k
crossed_in p file k h are e =
    let w = rw e at (file_leads p file) in
    record {
      capture = record {
        records = bytes_of (reading_of p.last_record file);
        capture = IsCapture-reading_of p.last_record file w.0;
        faultless = faultless_of p _ k h (file_bytes p.last_record file are) w.1;
      };
      packets = ap (λ (q : Crossing). q.packets) w.1.same;
      params = ap (λ (q : Crossing). q.params) w.1.same;
    }

pub read_is_faultless : (p : Parameters) (file : List ℕ) (k : Crossing) → OfConnection p → AreBytes file → crossing_of p file ≡ Ok k → IsFaultlessCapture p file k.client k.server
read_is_faultless p file k h are e = (crossed_in p file k h are e).capture

-- ---- a packet that comes next

-- of all packets its sender sent a list
module _ (k : Crossing) (a : Packet) (more : List Packet) (h : IsCrossing k) (big : List FirstCopy) (whole : IsSent k.params (k.packets ++ a ∷ more) a.side big) where
  no_fault : packet_fault k.params (sent_by k a.side) a ≡ None
  no_fault =
      let own = list_of k h a.side in
      let few = few_of k h a.side in
      faultless k.params k.packets a.side (sent_by k a.side) a h.valid own (omega arith) (can_follow k.params k.packets more a.side (sent_by k a.side) a own (omega arith) refl big whole)

  -- its PDUs up to this one are no more than all
  is_room : AreBytes a.payload → length (k.packets ++ a ∷ more) ≤ most_packets → length big ≤ most_sent → keeps_limits (with_packet k a) ≡ true
  is_room are packets few =
      let grown = goes_on k.params k.packets (sent_by k a.side) a (list_of k h a.side) (is_read k.params (sent_by k a.side) a h.valid.valid are no_fault) no_fault in
      let front = cut k.params more (k.packets ++ a ∷ []) a.side big (subst (λ (xs : List Packet). IsSent k.params xs a.side big) (sym (append_assoc k.packets (a ∷ []) more)) whole) in
      let less = ap length front.2.whole ∙ length-append front.0 front.2.later in
      let same = ap length (sent_once k.params (k.packets ++ a ∷ []) a.side front.0 (sent_after k a) front.1 grown (omega arith)) in
      grind (arith, nat_tests, length_push, length-append)

-- ---- what has no fault is read

pub sent_at : (p : Parameters) (records : List (List ℕ)) (c s : List FirstCopy) → AreFaultless p records c s → (side : Side)
    → Sent p (crossing_list p records) side (sent_of side c s) × (length (sent_of side c s) ≤ most_sent)
sent_at p records c s h side = grind arith

-- after records without a fault, this has no fault where all have none
module _ (p : Parameters) (h : OfConnection p) (front : List (List ℕ)) (frame : List ℕ) (later : List (List ℕ)) (are : AllBytes (front ++ frame ∷ later))
    (client server : List FirstCopy) (x : Crossed p front (crossing_by p front client server)) (c s : List FirstCopy) (all : AreFaultless p (front ++ frame ∷ later) c s) where
  abbrev k : Crossing
  k = crossing_by p front client server

  is : IsCrossing k
  is = x.is h (all_front AreBytes front (frame ∷ later) are)

  list_at : (a : Packet) → nat_lt (suc (length front)) p.first_record ≡ false → packet_in p.channels frame ≡ Ok (Some a)
      → IsSent p (k.packets ++ a ∷ packets_in p later) a.side (sent_of a.side c s)
  list_at a inside found = (let own = (sent_at p _ c s all a.side).0 in let at = packets_with p front frame later inside (Some a) found in grind (arith, to_record))

  pub not_refused : (f : Fault) → Step k (suc (length front), frame) (Err f) → ⊥
  not_refused f (bad_frame g inside found) =
      (let sound = all_at _ (window p front) frame later (subst (AreSound p) (window_with p front frame later inside) all.frames) in let bad = subst IsOk found sound in cc)
  not_refused f (bad_packet a number inside found some) = (let none = no_fault k a (packets_in p later) is _ (list_at a inside found) in cc)
  not_refused f (no_room a inside found none full) =
      let few = subst (λ (xs : List Packet). length xs ≤ most_packets) (packets_with p front frame later inside (Some a) found) all.sent.few_packets in
      let room = is_room k a (packets_in p later) is _ (list_at a inside found) (payload_bytes p frame a found (all_at AreBytes front frame later are)) few (sent_at p _ c s all a.side).1 in
      cc

-- the sides sent no other lists
pub same_list : (p : Parameters) (frames : List (List ℕ)) (c s client server : List FirstCopy) → AreParameters p → AreFaultless p frames c s → AreFaultless p frames client server → (side : Side)
    → sent_of side c s ≡ sent_of side client server
same_list p frames c s client server valid a b side =
    let mine = sent_at p frames c s a side in
    sent_once p _ side _ _ (to_record p _ side _ valid mine.0) (to_record p _ side _ valid (sent_at p frames client server b side).0) (let few = mine.1 in omega arith)

pub records_are_read : (p : Parameters) (frames : List (List ℕ)) (end : Option Fault) (client server : List FirstCopy) → OfConnection p → AllBytes frames → AreFaultless p frames client server
    → after_records (nothing_crossed p) (numbered 1 frames) end ≡ at_end (crossing_by p frames client server) end
records_are_read p frames end client server h are all = by _ (records_lead p frames end)
  where
    by : (o : Result Crossing Fault) → Leads p frames end o → o ≡ at_end (crossing_by p frames client server) end
    by (Ok k) w =
        let same = same_list p frames k.client k.server client server h.valid (faultless_of p frames k h are w.1) all in
        rw w.0 (ap Ok (w.1.same ∙ (λ i. crossing_by p frames (same Client i) (same Server i))))
    by (Err f) (inl w) = rw w.2
    by (Err f) (inr w) =
        absurd (not_refused p h w.front w.frame w.later (subst AllBytes w.split are) w.client w.server w.crossed client server
        (subst (λ (fs : List (List ℕ)). AreFaultless p fs client server) w.split all) f w.step)

pub faultless_is_read : (p : Parameters) (file : List ℕ) (client server : List FirstCopy) → OfConnection p → AreBytes file → (f : IsFaultlessCapture p file client server)
    → crossing_of p file ≡ Ok (crossing_by p f.records client server)
faultless_is_read p file client server h are f =
    let read = reading_of-IsCapture p.last_record file f.records h.valid.window.last_most f.capture in
    let all = records_are_read p (bytes_of (reading_of p.last_record file)) None client server h (file_bytes p.last_record file are) in
    grind (arith, numbered_of)

-- no lists make the file a capture without a fault
abbrev pub IsFaulty : Parameters → List ℕ → Type 0
IsFaulty p file = (client server : List FirstCopy) → IsFaultlessCapture p file client server → ⊥
