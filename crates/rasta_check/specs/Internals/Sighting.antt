-- How the code keeps the sights and the confirmations of a side.
use Rattle.std.specs.Prelude.{◌≡◌, ◌⊎◌, ◌==◌, ◌&&◌, ◌||◌, not, nat_lt, ℕ, suc, ◌+◌, ◌-◌, ◌<◌, ◌≤◌, ◌^◌, Bool, true, false, List, [], ◌∷◌, ◌++◌, length}
use Rattle.std.specs.Prelude.{Some, slice_get}
use Rattle.std.specs.List.{insert}
use Rattle.rasta_pdu.specs.Pdu.{RedundancyPdu, messages_in, is_kind}
use Rattle.rasta_pdu.specs.declared.kind.Kind.TheVariants.{ConnectionRequest}
use Rattle.rasta_end.specs.State.{ahead_by}
use Rattle.rasta_check.specs.Capture.SentLists.{FirstCopy}
use Rattle.rasta_check.specs.declared.sights.Sight.{Sight}
use Rattle.rasta_check.specs.declared.sights.Confirmation.{Confirmation}
use Rattle.rasta_check.specs.declared.seen.Finding.{Finding}
use Rattle.rasta_check.specs.declared.seen.Finding.TheVariants.{Copy, New, Contradiction}
use Rattle.rasta_check.specs.Middle.Kept.{KeptPdus, is_opening, offset_of}

-- ---- sights

-- the keys rise
abbrev pub HaveOrder : List Sight → Type 0
HaveOrder sights = (i : ℕ) (s next : Sight) → slice_get sights i ≡ Some s → slice_get sights (suc i) ≡ Some next
    → s.key < next.key

-- the keys before this position are below this one, and those from it on are above
pub record IsGap (sights : List Sight) (key position : ℕ) : Type 0 where
  pub within : position ≤ length sights
  pub below : (i : ℕ) (s : Sight) → slice_get sights i ≡ Some s → i < position → s.key < key
  pub above : (i : ℕ) (s : Sight) → slice_get sights i ≡ Some s → position ≤ i → key < s.key

-- the key lies less than 2^31 above the first, and the last less than 2^12 above the key
pub record IsNear (sights : List Sight) (key : ℕ) : Type 0 where
  pub from_first : (s : Sight) → slice_get sights 0 ≡ Some s → key < s.key + 2 ^ 31
  pub to_last : (s : Sight) → slice_get sights (length sights - 1) ≡ Some s → s.key < key + 2 ^ 12

-- a sight has the key
pub record HasKey (sights : List Sight) (key : ℕ) (s : Sight) : Type 0 where
  pub index : ℕ
  pub there : slice_get sights index ≡ Some s
  pub same : s.key ≡ key

-- both have one type, and as many messages
abbrev pub Agree : Sight → Sight → Type 0
Agree s t = (s.kind ≡ t.kind) × (s.messages ≡ t.messages)

-- the sights can't be held together with another: one with its key doesn't agree with it, or it lies too far from one
abbrev pub Contradicts : List Sight → Sight → Type 0
Contradicts sights t = ((s : Sight) × HasKey sights t.key s × (Agree s t → ⊥)) ⊎ (IsNear sights t.key → ⊥)

-- one of the sights has the key of another, and agrees with it
abbrev pub IsCopy : List Sight → Sight → Type 0
IsCopy sights t = IsNear sights t.key × (s : Sight) × HasKey sights t.key s × Agree s t

-- a new key belongs at this position, where the keys have an order
abbrev pub IsNew : List Sight → Sight → ℕ → Type 0
IsNew sights t position = IsNear sights t.key
    × (position ≤ length sights) × (HaveOrder sights → IsGap sights t.key position)

-- what was found of another sight
abbrev pub IsFinding : List Sight → Sight → Finding → Type 0
IsFinding sights t Copy = IsCopy sights t
IsFinding sights t (New position) = IsNew sights t position
IsFinding sights t Contradiction = Contradicts sights t

-- the sights with one more
abbrev pub SightsWith : List Sight → Sight → List Sight → Type 0
SightsWith sights t all = (IsCopy sights t × (all ≡ sights))
    ⊎ ((position : ℕ) × IsNew sights t position × (all ≡ insert sights position t))

-- it is added, or can't be held together with them
abbrev pub AfterSight : List Sight → Sight → Bool → List Sight → Type 0
AfterSight sights t true all = SightsWith sights t all
AfterSight sights t false all = Contradicts sights t × (all ≡ sights)

-- ---- confirmations

-- the last of them has this CS
abbrev pub Repeats : List Confirmation → ℕ → Type 0
Repeats confirmations cs = (c : Confirmation)
    × (slice_get confirmations (length confirmations - 1) ≡ Some c) × (c.cs ≡ cs)

-- what a PDU confirms
abbrev pub confirmation_of : FirstCopy → Confirmation
confirmation_of copy = record { cs = copy.pdu.safety.cs; place = copy.place }

-- a PDU confirms no SN, as a connection request, or that of the last confirmation
abbrev pub ConfirmsNothingNew : List Confirmation → FirstCopy → Type 0
ConfirmsNothingNew confirmations copy = (is_kind ConnectionRequest copy.pdu.safety.kind ≡ true)
    ⊎ Repeats confirmations copy.pdu.safety.cs

-- the confirmations with that of one PDU more
abbrev pub ConfirmationsWith : List Confirmation → FirstCopy → List Confirmation → Type 0
ConfirmationsWith confirmations copy all = (ConfirmsNothingNew confirmations copy × (all ≡ confirmations))
    ⊎ ((ConfirmsNothingNew confirmations copy → ⊥) × (all ≡ confirmations ++ confirmation_of copy ∷ []))

-- ---- both

-- the base from which the SNs are counted: that of the first lies half the range ahead
abbrev pub base_of : List Sight → ℕ → ℕ → ℕ
base_of [] base sn = ahead_by sn (2 ^ 31)
base_of (s ∷ sights) base sn = base

abbrev pub base_with : KeptPdus → FirstCopy → ℕ
base_with kept copy = base_of kept.sights kept.base copy.pdu.safety.sn

abbrev pub sight_with : KeptPdus → FirstCopy → Sight
sight_with kept copy = record {
  key = ahead_by copy.pdu.safety.sn (base_with kept copy);
  place = copy.place;
  kind = copy.pdu.safety.kind;
  messages = length (messages_in copy.pdu.safety.body);
}

-- the TS of the PDU that was captured first, where one with this TS is next
abbrev pub first_ts_of : List Sight → ℕ → ℕ → ℕ
first_ts_of [] first_ts ts = ts
first_ts_of (s ∷ sights) first_ts ts = first_ts

-- a PDU opens no connection, or not later than at this TS
abbrev pub is_no_later_opening : ℕ → RedundancyPdu → Bool
is_no_later_opening first_ts pdu = not (is_opening pdu.safety.kind) || nat_lt (ahead_by first_ts pdu.safety.ts) (2 ^ 31)

-- the SN of a PDU lies so far ahead of its redundancy number, and it opens no connection later than at this TS
abbrev pub follows : ℕ → ℕ → RedundancyPdu → Bool
follows offset first_ts pdu = (offset_of pdu == offset) && is_no_later_opening first_ts pdu

-- so it is, if any were captured before
abbrev pub follows_all : List Sight → ℕ → ℕ → RedundancyPdu → Bool
follows_all [] offset first_ts pdu = true
follows_all (s ∷ sights) offset first_ts pdu = follows offset first_ts pdu

abbrev pub follows_kept : KeptPdus → FirstCopy → Bool
follows_kept kept copy = follows_all kept.sights kept.offset kept.first_ts copy.pdu

-- what is kept with one PDU more
pub record IsKeptWith (kept : KeptPdus) (copy : FirstCopy) (all : KeptPdus) : Type 0 where
  pub follows : follows_kept kept copy ≡ true
  pub base : all.base ≡ base_with kept copy
  pub offset : all.offset ≡ offset_of copy.pdu
  pub first_ts : all.first_ts ≡ first_ts_of kept.sights kept.first_ts copy.pdu.safety.ts
  pub sights : SightsWith kept.sights (sight_with kept copy) all.sights
  pub confirmations : ConfirmationsWith kept.confirmations copy all.confirmations

-- a PDU is taken in, or can't be held together with those before
abbrev pub AfterPdu : KeptPdus → FirstCopy → Bool → KeptPdus → Type 0
AfterPdu kept copy true all = IsKeptWith kept copy all
AfterPdu kept copy false all = ((follows_kept kept copy ≡ false) ⊎ Contradicts kept.sights (sight_with kept copy))
    × (all ≡ kept)
