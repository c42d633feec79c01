-- What a file says of every run: the packets before a fault, and captures without one.
use Rattle.std.specs.Prelude.{◌≡◌, ◌≤◌, ◌-◌, ℕ, suc, List, [], ◌∷◌, ◌++◌, length, drop, Option, Some, None, Ok, Err}
use Rattle.std.specs.Prelude.{IsOk}
use Rattle.std.specs.List.{AllByRecursion}
use Rattle.rasta_pcap.specs.declared.fault.Fault.{Fault}
use Rattle.rasta_pcap.specs.declared.fault.Side.{Side}
use Rattle.rasta_pcap.specs.Fault.{too_many}
use Rattle.rasta_pcap.specs.Capture.{IsCapture, IsRefusedFile, opening, reading_of, bytes_of}
use Rattle.rasta_pcap.specs.declared.fault.Side.TheVariants.{Client, Server}
use Rattle.rasta_udp.specs.Frame.{Packet, packet_in}
use Rattle.rasta_pdu.specs.Params.{Parameters}
use Rattle.rasta_check.specs.Capture.SentLists.{FirstCopy, crossing_list}
use Rattle.rasta_check.specs.Capture.PacketFaults.{packet_fault}
use Rattle.rasta_check.specs.Model.World.{World, Reaches}
use Rattle.rasta_check.specs.Capture.Crossing.{AreSent, Crossing}

-- ---- definite faults

-- the packets that the records of a file hold, of at most so many records
abbrev pub packets_through : Parameters → List ℕ → ℕ → List Packet
packets_through p file n = crossing_list p (bytes_of (reading_of n file))

-- no run sends packets that begin with these
abbrev pub Impossible : Parameters → List Packet → Type 0
Impossible p packets = (ws : List World) (w : World) (rest : List Packet) → Reaches p ws w → w.crossed ≡ packets ++ rest
    → ⊥

-- ---- a capture without a fault

-- records without a fault, in which the sides sent these lists: no frame of the window holds a datagram with a fault
pub record AreFaultless (p : Parameters) (records : List (List ℕ)) (client server : List FirstCopy) : Type 0 where
  pub frames : AllByRecursion (λ (frame : List ℕ). IsOk (packet_in p.channels frame))
      (drop (p.first_record - 1) records)
  pub sent : AreSent p (crossing_list p records) client server

-- a capture without a fault: the file's records are read up to the last of the window, and have none
pub record IsFaultlessCapture (p : Parameters) (file : List ℕ) (client server : List FirstCopy) : Type 0 where
  pub records : List (List ℕ)
  pub capture : IsCapture p.last_record file records
  pub faultless : AreFaultless p records client server

-- this is what crossed in a capture without a fault
pub record CrossedIn (p : Parameters) (file : List ℕ) (k : Crossing) : Type 0 where
  pub capture : IsFaultlessCapture p file k.client k.server
  pub packets : k.packets ≡ crossing_list p capture.records
  pub params : k.params ≡ p

-- ---- a refused capture

-- the list of this side
abbrev pub sent_of : Side → List FirstCopy → List FirstCopy → List FirstCopy
sent_of Client client server = client
sent_of Server client server = server

-- the fault of a record after these, in which the sides sent these lists: that of its frame, which speaks of no end;
-- that of its packet, which speaks of its sender; or that all are no longer within the limits
pub data HasFault (p : Parameters) (records : List (List ℕ)) (client server : List FirstCopy) (frame : List ℕ) : ℕ
    → Option Side → Type 0 where
  in_frame : (fault : Fault) → packet_in p.channels frame ≡ Err fault
      → HasFault p records client server frame fault.number None
  in_packet : (packet : Packet) (number : ℕ) → packet_in p.channels frame ≡ Ok (Some packet)
      → packet_fault p (sent_of packet.side client server) packet ≡ Some number
      → HasFault p records client server frame number (Some packet.side)
  in_limits : (packet : Packet) → packet_in p.channels frame ≡ Ok (Some packet)
      → packet_fault p (sent_of packet.side client server) packet ≡ None
      → ((c s : List FirstCopy) → AreFaultless p (records ++ frame ∷ []) c s → ⊥)
      → HasFault p records client server frame too_many None

-- the first fault of a capture: of its header; or, after records without a fault, of what is no record, or of a record
-- of the window
pub data IsRefusedCapture (p : Parameters) (file : List ℕ) : Fault → Type 0 where
  in_header : (fault : Fault) → opening file ≡ Err fault → IsRefusedCapture p file fault
  in_reading : (records : List (List ℕ)) (client server : List FirstCopy) (fault : Fault)
      → AreFaultless p records client server
      → IsRefusedFile p.last_record file records fault → IsRefusedCapture p file fault
  in_record : (records : List (List ℕ)) (client server : List FirstCopy) (frame : List ℕ) (number : ℕ)
      (end : Option Side)
      → AreFaultless p records client server
      → IsCapture (suc (length records)) file (records ++ frame ∷ []) → p.first_record ≤ suc (length records)
      → suc (length records) ≤ p.last_record
      → HasFault p records client server frame number end
      → IsRefusedCapture p file (record { number = number; place = suc (length records); end = end })
