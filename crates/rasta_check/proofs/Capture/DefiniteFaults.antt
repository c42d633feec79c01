-- A fault of a side is definite, over the records of a file.
use Rattle.std.proofs.Common.{◌≡◌, ℕ, suc, ◌≤◌, List, [], ◌∷◌, ◌++◌, length, append_assoc, Some, Err, ap, ◌∙◌, arith, le-ltb}
use Rattle.rasta_check.proofs.Prelude.{length_push, Fault, IsCapture, opening, reading_of, bytes_of, reading_of-IsCapture, Packet, Parameters, AreBytes, FirstCopy, Sent}
use Rattle.rasta_check.proofs.Prelude.{crossing_list, packet_fault, OfConnection, crossing_of, in_header}
use Rattle.std.specs.Prelude.{IsSome}
use Rattle.rasta_pcap.proofs.Headers.{opening-fault_place}
use Rattle.rasta_pcap.proofs.Captures.{IsRefused-place}
use Rattle.rasta_check.specs.Capture.Faults.{in_packet, Impossible, IsRefusedCapture, in_reading, in_record, packets_through}
use Rattle.rasta_check.proofs.Capture.PacketFaults.{faultless}
use Rattle.rasta_check.proofs.Capture.NextPackets.{definite}
use Rattle.rasta_check.proofs.Capture.ListForms.{to_record}
use Rattle.rasta_check.proofs.Capture.FaultlessCaptures.{sent_at}
use Rattle.rasta_check.proofs.Capture.Readings.{packets_with}
use Rattle.rasta_check.proofs.Capture.RefusedCaptures.{is_refused}

-- after packets of which its side sent this list, no run goes on with one that has a fault
impossible_with : (p : Parameters) (packets : List Packet) (own : List FirstCopy) (a : Packet) (number : ℕ) → OfConnection p → Sent p packets a.side own × (length own ≤ 1000000)
    → packet_fault p own a ≡ Some number → Impossible p (packets ++ a ∷ [])
impossible_with p packets own a number h sent some ws w rest r e =
    let mine = to_record p packets a.side own h.valid sent.0 in
    let next = definite p h.valid ws w packets rest a own r (e ∙ append_assoc packets (a ∷ []) rest) mine (omega (arith, sent.1)) in
    let none = faultless p packets a.side own a h mine (omega (arith, sent.1)) next in
    absurd (cc)

-- a fault of a side names a record of the file, and no run sends what the records up to it hold
pub record IsDefinite (p : Parameters) (file : List ℕ) (f : Fault) : Type 0 where
  pub impossible : Impossible p (packets_through p file f.place)
  pub capture : IsCapture f.place file (bytes_of (reading_of f.place file))
  pub count : length (bytes_of (reading_of f.place file)) ≡ f.place

definite_by : (p : Parameters) (file : List ℕ) (f : Fault) → OfConnection p → IsRefusedCapture p file f → IsSome f.end → IsDefinite p file f
definite_by p file f h (in_record records c s frame number end faultless capture low high (in_packet a m found some)) is =
    let n = suc (length records) in
    let read = (reading_of-IsCapture n file (records ++ frame ∷ []) (omega (arith, high)) capture).0 in
    let packets : packets_through p file n ≡ crossing_list p records ++ a ∷ [] = ap (crossing_list p) read ∙ packets_with p records frame [] (le-ltb n p.first_record low) (Some a) found in
    let impossible = impossible_with p (crossing_list p records) _ a m h (sent_at p records c s faultless a.side) some in
    grind (arith, length_push)
definite_by p file f h (in_header g e) is = absurd (grind (arith, opening-fault_place))
definite_by p file f h (in_reading records c s g faultless refused) is = absurd (grind (arith, IsRefused-place))
definite_by p file f h _ is = absurd (cc)

pub is_definite : (p : Parameters) (file : List ℕ) (f : Fault) → OfConnection p → AreBytes file → crossing_of p file ≡ Err f → IsSome f.end → IsDefinite p file f
is_definite p file f h are e is = definite_by p file f h (is_refused p file h are f e) is

-- the fault of a file's header speaks of no side
pub opening_definite : (p : Parameters) (file : List ℕ) (f : Fault) → opening file ≡ Err f → IsSome f.end → Impossible p (packets_through p file f.place)
opening_definite p file f e is = (let none = ap (λ (x : Fault). x.end) (opening-fault_place file f e) in absurd (cc))
