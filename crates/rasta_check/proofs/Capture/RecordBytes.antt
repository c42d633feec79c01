-- The records of a file of bytes are bytes, and so are the payloads of their packets.
use Rattle.std.proofs.Common.{◌≡◌, ℕ, zero, suc, List, drop, Option, Some, Result, Ok, Err, refl, arith}
use Rattle.rasta_check.proofs.Prelude.{Fault, Numbered, next, cursor_after, opening, reading, reading_of, bytes_of, Packet, packet_in, Parameters, AreBytes}
use Rattle.std.specs.List.{AllByRecursion}
use Rattle.rasta_pcap.specs.Capture.{FileCursor, next_length, read_step, reading_opened}
use Rattle.rasta_pcap.proofs.Steps.{next-is_next_entry}
use Rattle.rasta_pcap.proofs.Headers.{opening-is_header}
use Rattle.rasta_pdu.proofs.Numbers.{AreBytes-take, AreBytes-drop}
use Rattle.rasta_check.proofs.Capture.Channels.{in_range}

abbrev pub AllBytes : List (List ℕ) → Type 0
AllBytes frames = AllByRecursion AreBytes frames

step_bytes : (left : ℕ) (c : FileCursor) (o : Result (Option Numbered) Fault) → next c ≡ o → AreBytes c.rest → AllBytes (bytes_of (reading left (cursor_after c))) → AllBytes (bytes_of (read_step o (reading left (cursor_after c))))
step_bytes left c o e are more = (let rest = AreBytes-drop 16 c.rest are in grind (arith, next-is_next_entry, AreBytes-take))

reading_bytes : (left : ℕ) (c : FileCursor) → AreBytes c.rest → AllBytes (bytes_of (reading left c))
unfolding reading
reading_bytes zero c are = tt
reading_bytes (suc left) c are = step_bytes left c (next c) refl are (reading_bytes left (cursor_after c) (AreBytes-drop (next_length c) (drop 16 c.rest) (AreBytes-drop 16 c.rest are)))

opened_bytes : (limit : ℕ) (file : List ℕ) (o : Result FileCursor Fault) → opening file ≡ o → AreBytes file → AllBytes (bytes_of (reading_opened limit o))
opened_bytes limit file (Err f) e are = tt
opened_bytes limit file (Ok c) e are = (let header = (opening-is_header file c e).1 in let rest = AreBytes-drop 24 file are in grind (arith, reading_bytes))

pub file_bytes : (limit : ℕ) (file : List ℕ) → AreBytes file → AllBytes (bytes_of (reading_of limit file))
unfolding reading_of
file_bytes limit file are = opened_bytes limit file (opening file) refl are

-- a packet's payload is a part of its frame
pub payload_bytes : (p : Parameters) (frame : List ℕ) (a : Packet) → packet_in p.channels frame ≡ Ok (Some a) → AreBytes frame → AreBytes a.payload
payload_bytes p frame a h are = grind (arith, in_range, AreBytes-take, AreBytes-drop)
