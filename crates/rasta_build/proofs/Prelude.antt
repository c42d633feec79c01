-- What three proof files or more import, handed on in one place.
pub use native.Mathlib.Decide.{dec_lt}
pub use Prim.{no, yes}
pub use Rattle.std.proofs.lemmas.Bool.Decides.{nat_tests}
pub use Rattle.std.proofs.lemmas.Option.{slice_get_within}
pub use Rattle.std.specs.Prelude.{if◌then◌else◌, min, nat_le, nat_lt, not, option_map, ◌&&◌, ◌==◌, ◌||◌}
pub use Rattle.std.specs.Result.{IfErr}
pub use Rattle.rasta_pcap.specs.Fault.{fault_at, no_memory, not_found, too_early_timeout}
pub use Rattle.rasta_pcap.specs.declared.fault.Fault.{Fault}
pub use Rattle.rasta_pcap.specs.declared.fault.Side.{Side}
pub use Rattle.rasta_pcap.specs.declared.fault.Side.TheVariants.{Client, Server}
pub use Rattle.rasta_udp.specs.Frame.{Packet}
pub use Rattle.rasta_pdu.specs.Params.{AreParameters, Parameters}
pub use Rattle.rasta_pdu.specs.Pdu.{RedundancyPdu, SafetyPdu, is_kind, carries_unit}
pub use Rattle.rasta_pdu.specs.declared.kind.Kind.{Kind}
pub use Rattle.rasta_pdu.specs.declared.kind.Kind.TheVariants.{Data, DisconnectionRequest, Heartbeat, RetransmissionRequest, RetransmissionResponse}
pub use Rattle.rasta_pdu.specs.declared.quiet_point.Quiet.{Quiet}
pub use Rattle.rasta_end.proofs.MakeTests.{no_test}
pub use Rattle.rasta_end.specs.MakeRule.{after_make, confirms_a_time, confirms_last, has_ended, is_early, is_expired, is_judged, is_past, make_fault, row_of}
pub use Rattle.rasta_end.specs.Starts.{start_by, start_of}
pub use Rattle.rasta_end.specs.State.{EndState, Made, ahead_by, content_of, first_sn, is_active, is_client, is_closed, is_flowing, is_owing, is_retr_req, is_start, reason_of, wrapped}
pub use Rattle.rasta_end.specs.TakeRule.{accept, after_take, effect, effect_by, enter, hand_up, is_ahead, is_in, steps_past_next, take_fault, take_row}
pub use Rattle.rasta_end.specs.declared.make_row.MakeRow.{MakeRow}
pub use Rattle.rasta_end.specs.declared.owed.Owed.{Owed}
pub use Rattle.rasta_end.specs.declared.owed.Owed.TheVariants.{RetransmissionRequest as OweRetransmissionRequest, RetransmissionResponse as OweRetransmissionResponse}
pub use Rattle.rasta_end.specs.declared.phase.Phase.{Phase}
pub use Rattle.rasta_end.specs.declared.phase.Phase.TheVariants.{Closed, RetrReq, RetrRun, Start, Up}
pub use Rattle.rasta_end.specs.declared.take_row.TakeRow.{TakeRow}
pub use Rattle.rasta_end.specs.declared.take_row.TakeRow.TheVariants.{Answered, Disconnected, FirstHeartbeat, Gap, GapInRetransmission, InSequence, Opened, Requested, RequestedWhileAsking, RequestedAhead, ResentInSequence, Resumed}
pub use Rattle.rasta_end.specs.declared.why.Why.{Why}
pub use Rattle.rasta_end.specs.declared.why.Why.TheVariants.{Bye, Expired}
pub use Rattle.rasta_cert.specs.Certificate.{IsCertificate, Scripts, most_entries}
pub use Rattle.rasta_build.specs.Built.{Built}
pub use Rattle.rasta_build.specs.Choices.{SidedCopy, copy_at, first_of, first_sn_of, is_before, is_trigger, peer_quiet_sn, wants_trigger}
pub use Rattle.rasta_build.specs.Clock.{clock_of}
pub use Rattle.rasta_build.specs.Completeness.{CanCross}
pub use Rattle.rasta_build.specs.Explaining.{accept_from, catch_up, earliest_by, explain, made_at, take_step, taken_by, built_unless}
pub use Rattle.rasta_build.specs.Proposing.{Pass, all_copies, client_goes, copy_goes, first_pass, one_more, pass_on, passes, proposal, proposed_by, scripts_of, server_goes}
pub use Rattle.rasta_build.specs.declared.stuck.Stuck.TheVariants.{Unexplained}
pub use Rattle.rasta_check.proofs.Capture.FaultlessLists.{IsSent}
pub use Rattle.rasta_check.proofs.Capture.ListForms.{to_record}
pub use Rattle.rasta_check.proofs.Capture.NextPackets.{Begins}
pub use Rattle.rasta_check.proofs.Lists.{get_front, slice_get_some}
pub use Rattle.rasta_check.proofs.Model.Counts.{number}
pub use Rattle.rasta_check.proofs.Model.InvariantAtTake.{Taken}
pub use Rattle.rasta_check.proofs.Model.MakeRows.{Making, after_row, answer, ask, made_by, opening, passed}
pub use Rattle.rasta_check.proofs.Model.OfferedUnits.{Valued}
pub use Rattle.rasta_check.proofs.Model.NamedPositions.{Numbered}
pub use Rattle.rasta_check.proofs.Model.Steps.{base, base_by, base_small, made_more}
pub use Rattle.rasta_check.proofs.Model.TakeRows.{row_known, take_leaves}
pub use Rattle.rasta_check.proofs.Script.ScriptsOfRuns.{Sends, sends_count}
pub use Rattle.rasta_check.specs.Capture.SentLists.{FirstCopy, Sent}
pub use Rattle.rasta_check.specs.Model.Theorem.{OfConnection}
pub use Rattle.rasta_check.specs.Model.World.{Station}
pub use Rattle.rasta_check.specs.Verdict.Report.{BothFit}
