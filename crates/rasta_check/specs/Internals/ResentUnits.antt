-- How the list of data that were sent again, and first sent before the packets begin, is worked out.
use Rattle.std.specs.Prelude.{ℕ, ◌+◌, ◌-◌, ◌^◌, Bool, false, ◌&&◌, nat_le, nat_lt, List, [], ◌∷◌, Option, Some, None}
use Rattle.std.specs.Prelude.{if◌then◌else◌}
use Rattle.rasta_pdu.specs.Pdu.{is_kind}
use Rattle.rasta_pdu.specs.declared.kind.Kind.TheVariants.{RetransmittedData}
use Rattle.rasta_end.specs.State.{ahead_by}
use Rattle.rasta_check.specs.declared.sights.Sight.{Sight}
use Rattle.rasta_check.specs.declared.sights.Confirmation.{Confirmation}
use Rattle.rasta_check.specs.declared.resent.ResentUnit.{ResentUnit}
use Rattle.rasta_check.specs.declared.resent.Resent.{Resent}
use Rattle.rasta_check.specs.declared.resent.Settlement.{Settlement}
use Rattle.rasta_check.specs.declared.resent.Standing.{Standing}
use Rattle.rasta_check.specs.Internals.Conveyed.{up_to, data_among, lag_through}

-- ---- SNs

abbrev pub standing_with : ℕ → ℕ → Option ℕ → Option Standing
standing_with key data_count None = None
standing_with key data_count (Some lag) = Some (record { key = key; data_count = data_count; lag = lag })

-- what is settled at the SN with this key
unfoldable pub standing : List Sight → ℕ → Option Standing
standing sights key = standing_with key (up_to key (data_among sights)) (lag_through sights key)

abbrev pub is_before_data : Standing → Bool
is_before_data resent = nat_le resent.data_count resent.lag

abbrev pub conveys : Standing → Standing → Bool
conveys later resent =
    nat_le resent.key later.key && nat_le (later.lag + resent.data_count) (resent.lag + later.data_count)

-- ---- units

abbrev pub if_before_data : Option Standing → Option Standing
if_before_data None = None
if_before_data (Some resent) = if is_before_data resent then Some resent else None

-- a key lies less than 2^12 above that of the first sight
abbrev pub is_early : List Sight → ℕ → Bool
is_early [] key = false
is_early (first ∷ sights) key = nat_lt (key - first.key) (2 ^ 12)

-- what is settled at a sight of retransmitted data, near the first sight, that were first sent before all captured data
unfoldable pub first_sent_before : List Sight → Sight → Option Standing
first_sent_before sights s =
    if is_kind RetransmittedData s.kind && is_early sights s.key then if_before_data (standing sights s.key) else None

abbrev pub is_conveyed : Standing → Option Standing → Bool
is_conveyed resent None = false
is_conveyed resent (Some later) = conveys later resent

-- the place of the first confirmation that shows the unit
unfoldable pub first_proof : ℕ → List Sight → Standing → List Confirmation → Option ℕ
first_proof base sights resent [] = None
first_proof base sights resent (c ∷ confirmations) =
    if is_conveyed resent (standing sights (ahead_by c.cs base))
    then Some c.place else first_proof base sights resent confirmations

abbrev pub unit_with : ℕ → List Sight → List Confirmation → Sight → Option Standing → Option ResentUnit
unit_with base sights confirmations s None = None
unit_with base sights confirmations s (Some resent) =
    Some (record { place = s.place; proof_place = first_proof base sights resent confirmations; messages = s.messages })

-- the unit of a sight
abbrev pub unit_at : ℕ → List Sight → List Confirmation → Sight → Option ResentUnit
unit_at base sights confirmations s = unit_with base sights confirmations s (first_sent_before sights s)

-- ---- the same, with what is settled worked out once

abbrev pub resent_with : Sight → Option Standing → Option Resent
resent_with s None = None
resent_with s (Some standing) = Some (record { sight = s; standing = standing })

-- such a sight, with what is settled at it
abbrev pub resent_at : List Sight → Sight → Option Resent
resent_at sights s = resent_with s (first_sent_before sights s)

-- what is settled at a confirmed SN, and where it is confirmed
abbrev pub settled_at : ℕ → List Sight → Confirmation → Settlement
settled_at base sights c = record { standing = standing sights (ahead_by c.cs base); place = c.place }

-- the place of the first that shows the unit
unfoldable pub first_settled : Standing → List Settlement → Option ℕ
first_settled resent [] = None
first_settled resent (settled ∷ settlements) =
    if is_conveyed resent settled.standing then Some settled.place else first_settled resent settlements

-- the unit of such a sight
abbrev pub unit_by : List Settlement → Resent → ResentUnit
unit_by settlements resent = record {
  place = resent.sight.place;
  proof_place = first_settled resent.standing settlements;
  messages = resent.sight.messages;
}
