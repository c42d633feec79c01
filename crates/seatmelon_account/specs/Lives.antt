-- Which packets of a window are signs of life of their end, how long the ends are silent, and how the connection goes on.
use Rattle.std.specs.Prelude.{◌≡◌, ℕ, ◌&&◌, ◌++◌, Bool, true, false, List, [], ◌∷◌, map, filter_map, fold, slice_get, if◌then◌else◌, Option, None, Some}
use Rattle.std.specs.List.{cons_option, last_or}
use Rattle.rasta_pcap.specs.declared.fault.Side.{Side}
use Rattle.rasta_pcap.specs.declared.fault.Side.TheVariants.{Client, Server}
use Rattle.rasta_udp.specs.Frame.{Packet}
use Rattle.rasta_pdu.specs.Params.{Parameters}
use Rattle.rasta_check.specs.Capture.Crossing.{Crossing}
use Rattle.rasta_check.specs.Capture.SentLists.{FirstCopy}
use Rattle.seatmelon_middle.specs.Course.{crossed_course, is_sign_of_life, with_packet}
use Rattle.seatmelon_middle.specs.declared.course.Course.{Course}
use Rattle.seatmelon_middle.specs.declared.course.Disconnection.{Disconnection}
use Rattle.seatmelon_reading.specs.Silences.{IsLongest, IsSearch, silences_of}
use Rattle.seatmelon_reading.specs.Tapes.{taped_in}
use Rattle.seatmelon_reading.specs.declared.notes.LastRecord.{LastRecord}
use Rattle.seatmelon_reading.specs.declared.notes.Sighting.{Sighting}
use Rattle.seatmelon_reading.specs.declared.reading.Reading.{Reading}
use Rattle.seatmelon_reading.specs.declared.silence.LastSilence.{LastSilence}
use Rattle.seatmelon_account.specs.Middle.{packet_of_numbered}
use Rattle.seatmelon_account.specs.declared.lives.EndSilences.{EndSilences}
use Rattle.seatmelon_account.specs.declared.lives.Watch.{Watch}

-- what packets say of a connection's course, and which of them are signs of life of each end
pub record Lives : Type 0 where
  pub course : Course
  pub client : List Sighting
  pub server : List Sighting

-- ---- what crossed

abbrev pub sighting_of : List Sighting → FirstCopy → Option Sighting
sighting_of packets copy = slice_get packets copy.place

-- where these first copies were captured
abbrev pub sightings_of : List Sighting → List FirstCopy → List Sighting
sightings_of packets copies = filter_map (sighting_of packets) copies

-- of what crossed, the first copies are signs of life
abbrev pub lives_crossed : List Sighting → Crossing → Lives
lives_crossed packets k = record {
  course = crossed_course k;
  client = sightings_of packets k.client;
  server = sightings_of packets k.server;
}

-- ---- the packets behind it

abbrev pub is_side : Side → Side → Bool
is_side Client Client = true
is_side Server Server = true
is_side Client Server = false
is_side Server Client = false

-- the sighting of the next packet, where that is a sign of life of this end
abbrev pub sign_at : Parameters → List Sighting → Course → Packet → Side → List Sighting
sign_at p packets c packet side =
    if is_sign_of_life p c packet && is_side side packet.side then cons_option (slice_get packets c.packets) [] else []

-- with the next packet
abbrev pub lives_next : Parameters → List Sighting → Lives → Packet → Lives
lives_next p packets l packet = record {
  course = with_packet p l.course packet;
  client = l.client ++ sign_at p packets l.course packet Client;
  server = l.server ++ sign_at p packets l.course packet Server;
}

-- ---- all packets of the window

abbrev pub packets_behind : Reading → List Packet
packets_behind r = map packet_of_numbered (taped_in r.unjudged)

abbrev pub lives_of : Reading → Lives
lives_of r = fold (lives_next r.store.params r.notes.packets.items) (lives_crossed r.notes.packets.items r.store)
    (packets_behind r)

-- from the last sign of life of an end to the last record of the window, unless a disconnection request crossed
abbrev pub silence_to_end : Option Disconnection → Option Sighting → Option LastRecord → Option LastSilence
silence_to_end (Some ending) before last = None
silence_to_end None None last = None
silence_to_end None (Some before) None = None
silence_to_end None (Some before) (Some end) = Some (record { before = before; end = end })

-- the silences of an end that gave these signs of life
pub record AreSilencesOf (r : Reading) (signs : List Sighting) (s : EndSilences) : Type 0 where
  pub longest : IsLongest (silences_of signs) s.longest
  pub to_end : s.to_end ≡ silence_to_end (lives_of r).course.ending (last_or None signs) r.notes.last

-- those of the client, and those of the server
abbrev pub AreSilences : Reading → List EndSilences → Type 0
AreSilences r (client ∷ server ∷ []) = AreSilencesOf r (lives_of r).client client
    × AreSilencesOf r (lives_of r).server server
AreSilences r other = ⊥

-- ---- on the way

-- this was found of the packets so far
pub record IsWatch (l : Lives) (w : Watch) : Type 0 where
  pub course : w.course ≡ l.course
  pub client : IsSearch l.client w.client
  pub server : IsSearch l.server w.server

-- with the packet at a place as a sign of life of the end that sent it
abbrev pub sign_for : List Sighting → ℕ → Side → Side → List Sighting
sign_for packets place sender side = if is_side side sender then cons_option (slice_get packets place) [] else []

abbrev pub lives_with_sign : List Sighting → Lives → Side → ℕ → Lives
lives_with_sign packets l sender place = record l {
  client = l.client ++ sign_for packets place sender Client;
  server = l.server ++ sign_for packets place sender Server;
}
