-- SNs and their keys: how far these lie ahead of a base.
use Rattle.std.proofs.Common.{◌≡◌, ℕ, suc, ◌+◌, ◌<◌, ◌≤◌, ◌^◌, ◌⊎◌, arith}
use Rattle.rasta_end.specs.State.{ahead_by, wrapped}

pub key_fits : (a base : ℕ) → ahead_by a base < 2 ^ 32
key_fits a base = omega arith

-- no two SNs have one key
pub same_sn : (a b base : ℕ) → a < 2 ^ 32 → b < 2 ^ 32 → ahead_by a base ≡ ahead_by b base → a ≡ b
same_sn a b base l m e = omega arith

-- the next key is that of the next SN
pub next_sn : (a b base : ℕ) → b < 2 ^ 32 → ahead_by b base ≡ suc (ahead_by a base) → b ≡ wrapped (suc a)
next_sn a b base l e = omega arith

pub next_key : (a b base : ℕ) → b ≡ wrapped (suc a) → suc (ahead_by a base) < 2 ^ 32 → ahead_by b base ≡ suc (ahead_by a base)
next_key a b base e l = omega arith

-- or the keys begin anew
pub first_key : (a b base : ℕ) → b ≡ wrapped (suc a) → suc (ahead_by a base) ≡ 2 ^ 32 → ahead_by b base ≡ 0
first_key a b base e l = omega arith

-- SNs are in the order of their keys, where these lie within 2^31 of each other
pub key_up_to : (a b base : ℕ) → ahead_by a base ≤ ahead_by b base → ahead_by b base < ahead_by a base + 2 ^ 31 → ahead_by b a < 2 ^ 31
key_up_to a b base l m = omega arith

pub key_before : (a b base : ℕ) → ahead_by a base < ahead_by b base → ahead_by b base < ahead_by a base + 2 ^ 31 → 0 < ahead_by b a
key_before a b base l m = omega arith

pub before_key : (a b base : ℕ) → 0 < ahead_by b a → ahead_by b a < 2 ^ 31
    → ahead_by a base < ahead_by b base + 2 ^ 31 → ahead_by b base < ahead_by a base + 2 ^ 31 → ahead_by a base < ahead_by b base
before_key a b base z l m n = omega arith

-- so they are where a key near the one is that of the other, or of the SN behind it
pub up_to_key : (a b base near : ℕ) → ahead_by b a < 2 ^ 31 → (near ≡ ahead_by b base) ⊎ (near ≡ ahead_by (wrapped (suc b)) base)
    → ahead_by a base < near + 2 ^ 31 → near < ahead_by a base + 2 ^ 31 → ahead_by a base ≤ ahead_by b base
up_to_key a b base near l e m n = omega arith

pub up_to_near : (a b base : ℕ) → ahead_by b a < 2 ^ 31 → ahead_by a base ≤ ahead_by b base → ahead_by b base < ahead_by a base + 2 ^ 31
up_to_near a b base l m = omega arith
