-- How the list of a report is worked out, from an end and the sent lists of both sides.
use Rattle.std.specs.Prelude.{ℕ, suc, ◌-◌, List, [], ◌∷◌, ◌++◌, length, replicate, Option, Some, None, slice_get}
use Rattle.std.specs.Prelude.{if◌then◌else◌}
use Rattle.rasta_pdu.specs.Pdu.{SafetyPdu, messages_in, is_kind}
use Rattle.rasta_end.specs.State.{EndState, ahead_by, first_sn, kinds}
use Rattle.rasta_end.specs.Units.{units_conveyed}
use Rattle.rasta_check.specs.Capture.SentLists.{FirstCopy}
use Rattle.rasta_check.specs.Model.Taken.{TakenUnit}
use Rattle.rasta_check.specs.Verdict.Listed.{messages_taken, ListedMessage, numbered_from}
use Rattle.rasta_pdu.specs.declared.kind.Kind.TheVariants.{ConnectionRequest, Data}

-- the units that a PDU of the peer shows, by what this end made
abbrev pub shown_by : EndState → SafetyPdu → ℕ
shown_by e x = if is_kind ConnectionRequest x.kind then 0
    else units_conveyed e.asks (kinds e.made) (ahead_by x.cs (first_sn e.made))

-- the places of proofs, and this one for each further unit of so many
abbrev pub with_proofs : List ℕ → ℕ → ℕ → List ℕ
with_proofs places shown place = places ++ replicate (shown - length places) place

-- the places of proofs, unit by unit, with those that these PDUs of the peer add
unfoldable pub proofs_from : EndState → List ℕ → List FirstCopy → List ℕ
proofs_from e places [] = places
proofs_from e places (c ∷ copies) = proofs_from e (with_proofs places (shown_by e c.pdu.safety) c.place) copies

-- the unit of a data PDU that is proved at this place
abbrev pub proved_unit : FirstCopy → ℕ → TakenUnit
proved_unit c place = record { messages = messages_in c.pdu.safety.body; data_place = c.place; proof_place = place }

abbrev pub with_unit : FirstCopy → Option ℕ → List TakenUnit → List TakenUnit
with_unit c (Some place) units = proved_unit c place ∷ units
with_unit c None units = []

-- the units of these first copies, from this number on, that have a proof
unfoldable pub proved_units : List ℕ → ℕ → List FirstCopy → List TakenUnit
proved_units places unit [] = []
proved_units places unit (c ∷ copies) =
    if is_kind Data c.pdu.safety.kind then with_unit c (slice_get places unit) (proved_units places (suc unit) copies)
    else proved_units places unit copies

-- the list of a report for the units that have these places of proofs
abbrev pub listed_with : List ℕ → List FirstCopy → List ListedMessage
listed_with places own = numbered_from 0 (messages_taken (proved_units places 0 own))

-- the list of a report for the units of this end
abbrev pub listed_by : EndState → List FirstCopy → List FirstCopy → List ListedMessage
listed_by e own peer = listed_with (proofs_from e [] peer) own
