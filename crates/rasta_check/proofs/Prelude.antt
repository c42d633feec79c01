-- What three proof files or more import, handed on in one place.
pub use native.Mathlib.Decide.{dec_lt}
pub use Prim.{no, yes}
pub use Rattle.std.proofs.Math.Seq.{take-append_seam}
pub use Rattle.std.proofs.lemmas.Bool.Decides.{nat_tests}
pub use Rattle.std.proofs.lemmas.List.{append-nil, append_assoc, length-append, length-map, length-take-le, length_push, map-append, take-append-drop, take-append-le, take_all}
pub use Rattle.std.proofs.lemmas.Option.{slice_get-get_or, slice_get_past, slice_get_within, unwrap_or-slice_get}
pub use Rattle.std.proofs.lemmas.Result.{MatchResult-weaker}
pub use Rattle.std.proofs.lemmas.Slice.Eq.{bytes_eq-Decides}
pub use Rattle.std.specs.Option.{option_map}
pub use Rattle.std.specs.Prelude.{None, drop, filter, fold, if◌then◌else◌, is_some, map, max, nat_lt, not, slice_index_or, ◌&&◌, ◌==◌, ◌||◌}
pub use Rattle.std.specs.Str.{bytes_eq}
pub use Rattle.rasta_pcap.proofs.Captures.{IsCapture-reading_of, reading_of-IsCapture}
pub use Rattle.rasta_pcap.specs.Capture.{IsCapture, Numbered, bytes_of, cursor_after, next, opening}
unfoldable pub use Rattle.rasta_pcap.specs.Capture.{reading, reading_of}
pub use Rattle.rasta_pcap.specs.Fault.{fault_of_end, no_memory, number_gap}
pub use Rattle.rasta_pcap.specs.declared.fault.Fault.{Fault}
pub use Rattle.rasta_pcap.specs.declared.fault.Side.{Side}
pub use Rattle.rasta_pcap.specs.declared.fault.Side.TheVariants.{Client, Server}
pub use Rattle.rasta_udp.specs.Frame.{Packet, packet_of}
unfoldable pub use Rattle.rasta_udp.specs.Frame.{packet_in}
pub use Rattle.rasta_pdu.specs.Messages.{AreBytes}
pub use Rattle.rasta_pdu.specs.Params.{AreParameters, Parameters}
pub use Rattle.rasta_pdu.specs.Pdu.{RedundancyPdu, SafetyPdu, is_kind, messages_in, value_of, carries_unit}
unfoldable pub use Rattle.rasta_pdu.specs.Pdu.{decode_of, redundancy_bytes}
pub use Rattle.rasta_pdu.specs.declared.kind.Kind.{Kind}
pub use Rattle.rasta_pdu.specs.declared.kind.Kind.TheVariants.{ConnectionRequest, ConnectionResponse, Data, DisconnectionRequest, RetransmissionRequest, RetransmissionResponse, RetransmittedData}
pub use Rattle.rasta_pdu.specs.declared.pdu.Pdu.{Pdu}
pub use Rattle.rasta_pdu.specs.declared.quiet_point.Quiet.{Quiet}
pub use Rattle.rasta_end.specs.MakeRule.{Makes, after_make, after_make_by, contents, first_that_holds, has_ended, make_fault, phase_after, row_of}
pub use Rattle.rasta_end.specs.Starts.{start_by, start_of}
pub use Rattle.rasta_end.specs.State.{EndState, Made, content_of, first_sn, is_closed, is_connected, is_flowing, kinds, wrapped}
pub use Rattle.rasta_end.specs.TakeRule.{Takes, after_take, effect, is_valid, position_confirmed, resends, take_fault}
pub use Rattle.rasta_end.specs.Units.{last_of, units_at}
pub use Rattle.rasta_end.specs.declared.make_row.MakeRow.{MakeRow}
pub use Rattle.rasta_end.specs.declared.owed.Owed.{Owed}
pub use Rattle.rasta_end.specs.declared.owed.Owed.TheVariants.{ConnectionResponse as OweConnectionResponse, Resend as OweResend, RetransmissionRequest as OweRetransmissionRequest, RetransmissionResponse as OweRetransmissionResponse}
pub use Rattle.rasta_end.specs.declared.phase.Phase.{Phase}
pub use Rattle.rasta_end.specs.declared.phase.Phase.TheVariants.{Closed, RetrReq, RetrRun, Start, Up}
pub use Rattle.rasta_end.specs.declared.take_row.TakeRow.{TakeRow}
pub use Rattle.rasta_end.specs.declared.take_row.TakeRow.TheVariants.{Answered, Disconnected, FirstHeartbeat, Gap, GapInRetransmission, InSequence, Opened, Requested, RequestedWhileAsking, RequestedAhead, ResentInSequence, Resumed}
pub use Rattle.rasta_end.specs.declared.why.Why.{Why}
pub use Rattle.rasta_cert.specs.Certificate.{Scripts}
pub use Rattle.rasta_cert.specs.declared.entry.Entry.{Entry}
pub use Rattle.rasta_cert.specs.declared.entry.Entry.TheVariants.{Make, Take}
pub use Rattle.rasta_check.specs.Capture.SentLists.{CrossRecorded, FirstCopy, Sent, Spells, crossing_list}
pub use Rattle.rasta_check.specs.Capture.PacketFaults.{copy_with, is_next_number, packet_fault}
pub use Rattle.rasta_check.specs.Capture.Faults.{in_header}
pub use Rattle.rasta_check.specs.Capture.Lists.{IsOrdered, copy_of, position_of_number, position_of_place}
pub use Rattle.rasta_check.specs.Capture.Crossing.{Crossing, IsCrossing, nothing_crossed, sent_by}
pub use Rattle.rasta_check.specs.Capture.Reading.{after_reading, then_crossing, crossing_of, crossing_with, keeps_limits, sent_after, with_packet}
unfoldable pub use Rattle.rasta_check.specs.Capture.Reading.{after_record, after_records}
pub use Rattle.rasta_check.specs.Internals.Checking.{Followed, follow, made_there, cursor_unless}
unfoldable pub use Rattle.rasta_check.specs.Internals.Checking.{follow_from}
pub use Rattle.rasta_check.specs.Internals.Datagrams.{Kept, KeptDatagrams, kept_by}
pub use Rattle.rasta_check.specs.Internals.Listing.{shown_by, with_proofs}
unfoldable pub use Rattle.rasta_check.specs.Internals.Listing.{proofs_from, proved_units}
pub use Rattle.rasta_check.specs.Internals.Stored.{IsStore, crossing_by}
pub use Rattle.rasta_check.specs.Internals.Storing.{crossing_left}
pub use Rattle.rasta_check.specs.Model.Laws.{NamesOne}
pub use Rattle.rasta_check.specs.Model.Taken.{TakenUnit, all_made, asked_positions, data_copies, pdus_made, pdus_of, position_with, surely_taken, units_along, units_from, units_shown, units_taken}
pub use Rattle.rasta_check.specs.Model.Theorem.{Appends, HandsUpUnits, OfConnection, units_handed, units_listed}
pub use Rattle.rasta_check.specs.Model.World.{KeepsLimit, KeepsRange, Move, Moves, Reaches, Station, World, arrives, begins, end_of, first_station, goes_on, makes, other_side, repeats, side_moves, station_of, takes, waits}
unfoldable pub use Rattle.rasta_check.specs.Run.Levels.{makes_at, takes_at}
pub use Rattle.rasta_check.specs.Run.Lines.{lines_of_move, told}
pub use Rattle.rasta_check.specs.Run.Moves.{Happened, Runs, does, starts}
pub use Rattle.rasta_check.specs.Script.Following.{Advances, ScriptCursor, Follows, Leads, at_start, makes_next, takes_next}
pub use Rattle.rasta_check.specs.Verdict.Listed.{listed_of, messages_of_unit, messages_taken, numbered_from}
pub use Rattle.rasta_check.specs.Verdict.Report.{BothFit, Explained, explained, report_of}
pub use Rattle.rasta_check.specs.declared.packet_store.StoredPacket.{StoredPacket}
pub use Rattle.rasta_check.proofs.Lists.{all_front, all_push, begins_with, get_front, get_front_within, get_mapped, get_next, get_past, get_push, get_push_cases, map_at, map_push, mapped_some, none_within, slice_get_some}
