-- What contracts see of an end, and how an end keeps it.
use Rattle.std.specs.Prelude.{ℕ, ◌+◌, ◌≤◌, ◌<◌, ◌^◌, IfSome, length, map, Option, Some}
use Rattle.rasta_pdu.specs.Params.{Parameters}
use Rattle.rasta_pdu.specs.Pdu.{SafetyPdu, value_of}
use Rattle.rasta_pdu.specs.declared.pdu.Pdu.{Pdu}
use Rattle.rasta_end.specs.declared.end.End.TheInside.{Inside}
use Rattle.rasta_end.specs.declared.owed.Owed.{Owed}
use Rattle.rasta_end.specs.declared.owed.Owed.TheVariants.{RetransmissionResponse as OweRetransmissionResponse}
use Rattle.rasta_end.specs.declared.make_row.MakeRow.{MakeRow}
use Rattle.rasta_end.specs.declared.make_row.MakeRow.TheVariants.{Resumes}
use Rattle.rasta_end.specs.State.{EndState, kinds}
use Rattle.rasta_end.specs.Units.{responses_in}
use Rattle.rasta_end.specs.Kept.{owed_list, quiet_count}

-- an end with the parameters by which it is judged
pub record JudgedEnd : Type 0 where
  pub params : Parameters
  pub state : EndState

abbrev pub safety_of : Pdu → SafetyPdu
safety_of pdu = (value_of pdu).safety

abbrev pub judged_end : Inside → JudgedEnd
judged_end e = record {
  params = e.params;
  state = record {
    side = e.side;
    phase = e.phase;
    base = quiet_count e.own.quiet;
    made = e.own.made;
    accepted = e.accepted;
    last_sn = e.last_sn;
    last_ts = e.last_ts;
    timed_ts = e.timed_ts;
    handed_ts = e.handed_ts;
    confirmed = e.confirmed;
    offered = e.offered;
    handed = e.handed_positions.items;
    handed_pdus = map safety_of e.handed.items;
    asks = e.own.asks;
    owed = owed_list e.owes;
    clock = e.clock;
    deadline = e.deadline;
  };
}

-- the retransmission responses that are owed
abbrev pub responses_owed : Option Owed → ℕ
responses_owed (Some OweRetransmissionResponse) = 1
responses_owed _ = 0

-- the retransmission responses that a make of this row pays
abbrev pub responses_paid : MakeRow → ℕ
responses_paid Resumes = 1
responses_paid _ = 0

-- bounds that every end keeps
pub record IsKept (e : Inside) : Type 0 where
  pub deadline : IfSome e.deadline (λ (moment : ℕ). moment < 2 ^ 66)
  pub confirmed : e.confirmed ≤ length e.own.made
  pub offered : e.offered ≤ length e.own.made
  pub room : length e.own.made + 2 ^ 32 < 2 ^ 64
  pub units : e.owes.unit + e.owes.units ≤ e.offered
  pub responses : responses_in (kinds e.own.made) + responses_owed e.owes.reply ≤ length e.own.asks
