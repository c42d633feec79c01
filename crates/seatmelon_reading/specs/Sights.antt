-- What a record holds for a connection.
use Rattle.std.specs.Prelude.{◌≡◌, ℕ, List, true, false, None, Some, Ok, Err}
use Rattle.rasta_pcap.specs.Capture.{Numbered}
use Rattle.rasta_udp.specs.Frame.{packet_in, packet_of}
use Rattle.rasta_pdu.specs.Params.{Parameters}
use Rattle.seatmelon_reading.specs.Noted.{is_left_out}
use Rattle.seatmelon_reading.specs.PassedOver.{why_not}
use Rattle.seatmelon_reading.specs.declared.sight.Sight.{Sight}
use Rattle.seatmelon_reading.specs.declared.sight.Sight.TheVariants.{LeftOut, Packet, Unreadable, Passed}

-- this was seen of a record
abbrev pub IsSightOf : Parameters → List ℕ → Numbered → Sight → Type 0
IsSightOf p without r LeftOut = is_left_out without r.0 ≡ true
IsSightOf p without r (Packet found) = (is_left_out without r.0 ≡ false)
    × (packet_in p.channels r.1 ≡ Ok (Some (packet_of found)))
IsSightOf p without r (Unreadable fault) = (is_left_out without r.0 ≡ false) × (packet_in p.channels r.1 ≡ Err fault)
IsSightOf p without r (Passed why) = (is_left_out without r.0 ≡ false) × (packet_in p.channels r.1 ≡ Ok None)
    × (why ≡ why_not p.channels r.1)
