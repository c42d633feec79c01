-- What the packets of a connection show by themselves, beside a refusal.
use Rattle.std.specs.Prelude.{◌≡◌, ⊤, Bool, List, ◌++◌, take, filter_map, is_some, Option, None, Some, IfSome, MatchOption, option_map}
use Rattle.rasta_pcap.specs.declared.fault.Fault.{Fault}
use Rattle.rasta_pcap.specs.Captured.{Captured, numbered}
use Rattle.rasta_udp.specs.Frame.{Packet}
use Rattle.rasta_pdu.specs.Params.{Parameters}
use Rattle.rasta_pcap.specs.declared.fault.Side.{Side}
use Rattle.rasta_check.specs.Capture.Crossing.{Crossing}
use Rattle.rasta_check.specs.Capture.Reading.{packet_at}
use Rattle.rasta_check.specs.Middle.Kept.{HoldTogether}
use Rattle.rasta_check.specs.Middle.Seen.{IsContradiction, IsSeen}
use Rattle.rasta_check.specs.Middle.ShownLists.{AreListsOf}
use Rattle.rasta_check.specs.declared.shown.Shown.{Shown}
use Rattle.rasta_check.specs.declared.shown.ShownLists.{ShownLists}
use Rattle.seatmelon_middle.specs.Counts.{counts_in}
use Rattle.seatmelon_middle.specs.Course.{course_of}
use Rattle.seatmelon_middle.specs.Packets.{pdu_of, requests}
use Rattle.seatmelon_middle.specs.Told.{tells_by}
use Rattle.seatmelon_middle.specs.declared.course.Course.{Course}
use Rattle.seatmelon_audit.specs.declared.answer.ShownOf.{ShownOf}
use Rattle.seatmelon_audit.specs.declared.line.Standing.{Standing}
use Rattle.seatmelon_audit.specs.declared.line.Standing.TheVariants.{OutOfMemory, Reading, Refused}

-- the packets of the connection in the window that these records hold
abbrev pub packets_held : Parameters → List Captured → List Packet
packets_held p records = filter_map (λ (r : Captured). packet_at p (numbered r)) (take p.last_record records)

-- what is told of what these packets show, beside a refusal by this fault: how many messages, and the place of the first
-- packet that can't be held together with those before it
pub record IsShownOf (p : Parameters) (packets : List Packet) (fault : Fault)
    (shown : Option ShownOf) : Type 0 where
  pub told : is_some shown ≡ tells_by p packets fault
  pub counts : IfSome shown (λ s. (lists : ShownLists) × AreListsOf p packets lists × (s.counts ≡ counts_in lists))
  pub unfit : IfSome shown (λ s. MatchOption s.unfit ((side : Side) → HoldTogether p packets side)
      (IsContradiction p packets))

-- ---- on the way

-- the course by what crossed, and by the packets behind that
pub record IsFollowed (p : Parameters) (k : Crossing) (packets : List Packet) (course : Option Course) : Type 0 where
  pub behind : List Packet
  pub all : packets ≡ k.packets ++ behind
  pub goes : course ≡ Some (course_of p k behind)

-- of a connection that is refused, and of which this crossed before, these packets were taken in
abbrev pub IsShowing : Standing → Parameters → Crossing → List Packet → Shown → Option Course → Type 0
IsShowing Reading p k packets shown course = ⊤
IsShowing (Refused refusal) p k packets shown course = IsSeen p packets shown × IsFollowed p k packets course
IsShowing OutOfMemory p k packets shown course = ⊤

-- whether a packet opens the connection, if there is one
abbrev pub opens_by : Parameters → Option Packet → Option Bool
opens_by p packet = option_map (λ (k : Packet). requests (pdu_of p k)) packet

-- whether the first packet does, with the next one, if there is one
abbrev pub opens_with : Option Bool → Option Bool → Option Bool
opens_with None next = next
opens_with (Some opens) next = Some opens
