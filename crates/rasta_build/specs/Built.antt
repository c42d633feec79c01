-- A script while it is built: the end that it led to, and what a take or a make adds to it.
use Rattle.std.specs.Prelude.{ℕ, ◌+◌, List, [], ◌∷◌, ◌++◌, length, ◌&&◌, ◌==◌, if◌then◌else◌, min}
use Rattle.rasta_pcap.specs.declared.fault.Side.{Side}
use Rattle.rasta_pdu.specs.Params.{Parameters}
use Rattle.rasta_pdu.specs.Pdu.{SafetyPdu, RedundancyPdu, is_kind}
use Rattle.rasta_end.specs.State.{EndState, is_flowing}
use Rattle.rasta_end.specs.Starts.{start_of}
use Rattle.rasta_end.specs.Judged.{JudgedEnd}
use Rattle.rasta_cert.specs.declared.entry.Entry.{Entry}
use Rattle.rasta_cert.specs.declared.entry.Entry.TheVariants.{Take}
use Rattle.rasta_build.specs.Choices.{peer_quiet_sn}
use Rattle.rasta_build.specs.declared.peer.Peer.{Peer}
use Rattle.rasta_build.specs.declared.script_builder.Progress.{Progress}
use Rattle.rasta_pdu.specs.declared.kind.Kind.TheVariants.{RetransmissionRequest}

-- an end with the entries that led it so far, the clock of its last make, the least position that may still be taken,
-- and how many requests are owed after the burst that is owed
pub record Built : Type 0 where
  pub side : Side
  pub end : JudgedEnd
  pub peer : Peer
  pub script : List Entry
  pub clock : ℕ
  pub next_take : ℕ
  pub trail : ℕ

-- an end that hasn't moved since its start
abbrev pub built_at_start : Parameters → Side → Built
built_at_start p side = record {
  side = side;
  end = record { params = p; state = start_of p side };
  peer = record { quiet_sn = peer_quiet_sn p.quiet side };
  script = [];
  clock = (start_of p side).clock;
  next_take = (start_of p side).base;
  trail = 0;
}

-- one more entry stands in the script
abbrev pub note : Entry → Built → Built
note entry b = record b { script = b.script ++ entry ∷ [] }

-- the end is now this one
abbrev pub lead : EndState → Built → Built
lead e b = record b { end = record b.end { state = e } }

-- what tells whether a take had an effect
abbrev pub progress_of : EndState → Progress
progress_of e = record { accepted = e.accepted; owed = length e.owed; phase = e.phase }

-- how many requests are owed after the burst that the take of this PDU started, which led from here to there
abbrev pub trail_after : Progress → Progress → SafetyPdu → ℕ
trail_after before after x =
    if is_kind RetransmissionRequest x.kind && (after.accepted == before.accepted && is_flowing before.phase) then 1
    else 0

-- the take of this PDU at this position stands in the script
abbrev pub note_take : Progress → ℕ → ℕ → RedundancyPdu → Built → Built
note_take before slot position x b =
    note (Take slot x.number) (record b {
      next_take = min (position + 1) 18446744073709551615;
      trail = trail_after before (progress_of b.end.state) x.safety;
    })
