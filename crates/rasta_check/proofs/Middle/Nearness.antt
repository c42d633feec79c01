-- How far the SNs of a side lie from each other.
use Rattle.std.proofs.Common.{◌≡◌, ℕ, ◌+◌, ◌<◌, ◌≤◌, ◌^◌, arith, ⊎_elim, inl, inr}
use Rattle.rasta_check.proofs.Prelude.{dec_lt, yes, no}
use Rattle.rasta_end.specs.State.{ahead_by}
use Rattle.rasta_check.specs.Middle.Kept.{IsRecent}

-- SNs that lie less than 2^31 ahead of one SN lie near each other, seen from half the range before one of them
pub near_by_first : (a b m base first : ℕ) → ahead_by a first < 2 ^ 31 → ahead_by b first < 2 ^ 31 → ahead_by m first < 2 ^ 31 → ahead_by m base ≡ 2 ^ 31
    → ahead_by a base < ahead_by b base + 2 ^ 31
near_by_first a b m base first la lb lm e = omega arith

-- an SN is known by how far it lies ahead
pub same_sn : (a b base : ℕ) → a < 2 ^ 32 → b < 2 ^ 32 → ahead_by a base ≡ ahead_by b base → a ≡ b
same_sn a b base la lb e = omega arith

-- the first SN lies half the range ahead of its base
pub first_ahead : (sn : ℕ) → ahead_by sn (ahead_by sn (2 ^ 31)) ≡ 2 ^ 31
first_ahead sn = omega arith

-- SNs lie as far ahead of the least as their keys lie above its key
pub ahead_of_least : (sn base least : ℕ) → least ≤ ahead_by sn base → ahead_by sn base < least + 2 ^ 31 → ahead_by sn (base + least) < 2 ^ 31
ahead_of_least sn base least l h = omega arith

-- ---- SNs that lie little behind one that was captured before

-- a key less than 2^12 behind another is that of an SN so little behind, or not behind it
pub recent_by_keys : (sn earlier base : ℕ) → ahead_by earlier base < ahead_by sn base + 2 ^ 12 → ahead_by sn base < ahead_by earlier base + 2 ^ 31 → IsRecent sn earlier
recent_by_keys sn earlier base l m = elim (dec_lt (ahead_by sn base) (ahead_by earlier base)) [
  | yes h ↦ inl (omega (arith, l, h))
  | no h ↦ inr (omega (arith, m, h))
]

pub keys_by_recent : (sn earlier base : ℕ) → ahead_by earlier base < ahead_by sn base + 2 ^ 31 → ahead_by sn base < ahead_by earlier base + 2 ^ 31 → IsRecent sn earlier
    → ahead_by earlier base < ahead_by sn base + 2 ^ 12
keys_by_recent sn earlier base l m recent =
    ⊎_elim
    (λ (h : ahead_by earlier sn < 2 ^ 12). omega (arith, l, m, h))
    (λ (h : ahead_by sn earlier < 2 ^ 31). omega (arith, l, m, h))
    recent

-- an SN isn't behind itself
pub recent_self : (sn : ℕ) → IsRecent sn sn
recent_self sn = inl (omega arith)
