use Rattle.std.proofs.Common.{ap, ◌∙◌}
use Rattle.rasta_pcap.specs.Capture.{Numbered}
use Rattle.rasta_pdu.specs.Records.{recorded_packet}
use Rattle.rasta_check.proofs.Prelude.{Crossing}
use Rattle.rasta_check.proofs.Capture.Channels.{is_recorded_by}
use Rattle.rasta_check.proofs.packet_store.Store.add_record.Goals as goal

pub add_packet-requires : goal.add_packet-requires
add_packet-requires c =
    let r : Numbered = (c.args.«record».now.number, c.args.«record».now.bytes.now) in
    is_recorded_by c.args.self.now.params r c.packet_in.result c.in_ok-found.field-0 c.in-Some.found
    (c.packet_in.ensures.packet ∙ ap (λ (k : Crossing). recorded_packet k.params r) c.self.view_is) c.in_ok-found.was c.in-Some.is
