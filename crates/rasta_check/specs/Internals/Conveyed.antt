-- How the list of what packets show is worked out, from the sights of a side and the confirmations of its peer.
use Rattle.std.specs.Prelude.{◌≡◌, ℕ, zero, suc, ◌-◌, ◌<◌, ◌^◌, Bool, false, ◌&&◌, ◌==◌, nat_le, nat_lt}
use Rattle.std.specs.Prelude.{List, [], ◌∷◌, length, drop, filter, Option, Some, None, slice_get, if◌then◌else◌}
use Rattle.rasta_pdu.specs.Pdu.{is_kind}
use Rattle.rasta_pdu.specs.declared.kind.Kind.{Kind}
use Rattle.rasta_pdu.specs.declared.kind.Kind.TheVariants.{DisconnectionRequest, Data, RetransmittedData}
use Rattle.rasta_end.specs.State.{ahead_by}
use Rattle.rasta_check.specs.Internals.Listing.{with_proofs}
use Rattle.rasta_check.specs.Model.Settled.{is_settled}
use Rattle.rasta_check.specs.declared.sights.Sight.{Sight}
use Rattle.rasta_check.specs.declared.sights.Confirmation.{Confirmation}
use Rattle.rasta_check.specs.declared.sights.ShownUnit.{ShownUnit}

-- ---- sights by their keys

-- the keys of these sights rise
pub record Rise (sights : List Sight) : Type 0 where
  pub apart : (i j : ℕ) (s t : Sight) → i < j → slice_get sights i ≡ Some s → slice_get sights j ≡ Some t
      → s.key < t.key

-- how many of the first sights have keys up to this one
unfoldable pub up_to : ℕ → List Sight → ℕ
up_to key [] = 0
up_to key (s ∷ sights) = if nat_le s.key key then suc (up_to key sights) else 0

abbrev pub is_data : Sight → Bool
is_data s = is_kind Data s.kind

-- the data among them
abbrev pub data_among : List Sight → List Sight
data_among sights = filter is_data sights

-- ---- what lags behind

-- one more, where that fits 32 bits
abbrev pub one_more : Option ℕ → Option ℕ
one_more None = None
one_more (Some n) = if nat_lt (suc n) (2 ^ 32) then Some (suc n) else None

-- how many units lag behind just before a PDU of this type, by how many do at it
abbrev pub lag_before : Kind → Option ℕ → Option ℕ
lag_before RetransmittedData lag = one_more lag
lag_before DisconnectionRequest lag = None
lag_before _ lag = Some 0

-- how many lag behind at an SN: none where the PDU there settles it, or as many as what comes next tells
abbrev pub lag_with : Bool → Option ℕ → Option ℕ
lag_with settled ahead = if settled then Some 0 else ahead

-- what comes next tells it if it has the very next SN
abbrev pub lag_ahead : ℕ → Option Sight → Option ℕ → Option ℕ
lag_ahead key None lag = None
lag_ahead key (Some next) lag = if next.key == suc key then lag else None

-- how many lag behind just before the first of these sights
unfoldable pub first_lag : List Sight → Option ℕ
first_lag [] = None
first_lag (s ∷ sights) =
    lag_before s.kind (lag_with (is_settled s.kind) (lag_ahead s.key (slice_get sights 0) (first_lag sights)))

-- and just before each of them
unfoldable pub lags_of : List Sight → List (Option ℕ)
lags_of [] = []
lags_of (s ∷ sights) = first_lag (s ∷ sights) ∷ lags_of sights

-- the last of so many sights
abbrev pub last_before : ℕ → List Sight → Option Sight
last_before zero sights = None
last_before (suc i) sights = slice_get sights i

abbrev pub is_settled_by : ℕ → Option Sight → Bool
is_settled_by key None = false
is_settled_by key (Some s) = s.key == key && is_settled s.kind

-- how many lag behind at the SN with this key, where so many sights lie up to it
abbrev pub lag_at : List Sight → ℕ → ℕ → Option ℕ
lag_at sights key n =
    lag_with (is_settled_by key (last_before n sights)) (lag_ahead key (slice_get sights n) (first_lag (drop n sights)))

-- how many lag behind at the SN with this key, where that is settled
unfoldable pub lag_through : List Sight → ℕ → Option ℕ
lag_through sights key = lag_at sights key (up_to key sights)

-- ---- what is conveyed

-- so many less those that lag behind, or none where nothing tells how many do
abbrev pub less_lag : ℕ → Option ℕ → ℕ
less_lag reach None = 0
less_lag reach (Some lag) = reach - lag

-- how many data are surely conveyed through the SN with this key
unfoldable pub conveyed_through : List Sight → ℕ → ℕ
conveyed_through sights key = less_lag (up_to key (data_among sights)) (lag_through sights key)

-- the places of proofs, data by data, with those that these confirmations add
unfoldable pub proofs_by : ℕ → List Sight → List ℕ → List Confirmation → List ℕ
proofs_by base sights places [] = places
proofs_by base sights places (c ∷ confirmations) =
    proofs_by base sights (with_proofs places (conveyed_through sights (ahead_by c.cs base)) c.place) confirmations

-- the data of a sight, with the place of their proof, if they have one
abbrev pub unit_of : Sight → Option ℕ → ShownUnit
unit_of s place = record { data_place = s.place; proof_place = place; messages = s.messages }

-- these units are those of the data, of which the first ones have proofs at these places
pub record AreUnits (data_sights : List Sight) (places : List ℕ) (units : List ShownUnit) : Type 0 where
  pub count : length units ≡ length data_sights
  pub each : (i : ℕ) (s : Sight) → slice_get data_sights i ≡ Some s
      → slice_get units i ≡ Some (unit_of s (slice_get places i))
