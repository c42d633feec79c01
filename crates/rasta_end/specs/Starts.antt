-- Where an end begins: before the opening of the connection, or at a recorded quiet point.
use Rattle.std.specs.Prelude.{ℕ, ◌+◌, ◌%◌, ◌^◌, [], ◌∷◌, Option, Some, None, option_map}
use Rattle.rasta_pcap.specs.declared.fault.Side.{Side}
use Rattle.rasta_pcap.specs.declared.fault.Side.TheVariants.{Client, Server}
use Rattle.rasta_pdu.specs.declared.kind.Kind.TheVariants.{Heartbeat}
use Rattle.rasta_pdu.specs.Params.{Parameters}
use Rattle.rasta_pdu.specs.Pdu.{SafetyPdu, Empty}
use Rattle.rasta_pdu.specs.declared.quiet_point.Quiet.{Quiet}
use Rattle.rasta_pdu.specs.declared.quiet_point.QuietEnd.{QuietEnd}
use Rattle.rasta_end.specs.declared.phase.Phase.{Phase}
use Rattle.rasta_end.specs.declared.phase.Phase.TheVariants.{Closed, Down, Up}
use Rattle.rasta_end.specs.State.{EndState, raised, wrapped}

-- an end that made, accepted and owes nothing
abbrev pub fresh_end : Side → Phase → EndState
fresh_end side phase = record {
  side = side;
  phase = phase;
  base = 0;
  made = [];
  accepted = 0;
  last_sn = 0;
  last_ts = 0;
  timed_ts = None;
  handed_ts = None;
  confirmed = 0;
  offered = 0;
  handed = [];
  handed_pdus = [];
  asks = [];
  owed = [];
  clock = 0;
  deadline = None;
}

-- the SN before this one
abbrev pub sn_before : ℕ → ℕ
sn_before sn = (sn + 4294967295) % 2 ^ 32

-- the quiet PDU of an end, by what is recorded of it and of its peer: a heartbeat. Nothing judges its CS and CTS; they
-- are those of the other quiet PDU
abbrev pub quiet_pdu : QuietEnd → QuietEnd → SafetyPdu
quiet_pdu own other =
    record {
      kind = Heartbeat;
      sn = sn_before own.next_sn;
      cs = sn_before other.next_sn;
      ts = wrapped own.clock;
      cts = wrapped other.clock;
      body = Empty;
    }

-- an end at the quiet point: connected, with its quiet PDU made and confirmed and that of its peer accepted
abbrev pub quiet_end : Side → QuietEnd → QuietEnd → EndState
quiet_end side own other = record (fresh_end side Up) {
  base = 1;
  made = record { pdu = quiet_pdu own other; unit = None } ∷ [];
  accepted = 1;
  last_sn = sn_before other.next_sn;
  last_ts = wrapped other.clock;
  timed_ts = Some (wrapped other.clock);
  handed_ts = other.handed_ts;
  clock = own.clock;
  deadline = option_map raised own.deadline;
}

abbrev pub start_by : Option Quiet → Side → EndState
start_by None Client = fresh_end Client Closed
start_by None Server = fresh_end Server Down
start_by (Some quiet) Client = quiet_end Client quiet.client quiet.server
start_by (Some quiet) Server = quiet_end Server quiet.server quiet.client

abbrev pub start_of : Parameters → Side → EndState
start_of p side = start_by p.quiet side
