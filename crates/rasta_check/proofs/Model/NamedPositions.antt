-- SNs rise by one, so an SN names one position; which position an SN and a CS name.
use Rattle.std.proofs.Common.{◌≡◌, ℕ, suc, ◌+◌, ◌%◌, ◌^◌, ◌<◌, ◌≤◌, true, List, [], ◌∷◌, ◌++◌, length, Some, slice_get, ap, sym, ◌∙◌, arith}
use Rattle.rasta_check.proofs.Prelude.{nat_tests, slice_get_within, Made, first_sn, all_push}
use Rattle.rasta_end.specs.State.{ahead_by, sn_at}
use Rattle.rasta_end.specs.MakeRule.{is_next_sn}

-- each SN but the first follows from the first
abbrev pub Numbered : List Made → Type 0
Numbered ms = (i : ℕ) (m : Made) → slice_get ms (suc i) ≡ Some m → m.pdu.sn ≡ sn_at ms (suc i)

-- a make goes on with the next SN
pub numbered_push : (ms : List Made) (m : Made) → Numbered ms → is_next_sn ms m.pdu.sn ≡ true → Numbered (ms ++ m ∷ [])
numbered_push [] m h t = λ i n e. absurd (cc)
numbered_push (x ∷ ms) m h t = all_push ms m h (grind (arith, nat_tests, t))

-- modulo 2^32 an SN is the first one and its position
pub sn_from_first : (ms : List Made) (i : ℕ) (m : Made) → Numbered ms → slice_get ms i ≡ Some m → m.pdu.sn % 2 ^ 32 ≡ (first_sn ms + i) % 2 ^ 32
sn_from_first ms i m h g = grind arith

-- an SN names one position
pub numbered_once : (ms : List Made) → length ms ≤ 2147483648 → Numbered ms
    → (i j : ℕ) (x y : Made) → slice_get ms i ≡ Some x → slice_get ms j ≡ Some y → x.pdu.sn ≡ y.pdu.sn → i ≡ j
numbered_once ms b h i j x y ex ey s =
    let l = slice_get_within ms i x ex in
    let r = slice_get_within ms j y ey in
    omega (arith, l, r, s, sn_from_first ms i x h ex, sn_from_first ms j y h ey)

-- the PDU at this position has this SN
pub record SnIs (ms : List Made) (i sn : ℕ) : Type 0 where
  pub m : Made
  pub there : slice_get ms i ≡ Some m
  pub same : m.pdu.sn ≡ sn

-- it has it in a list that goes on
pub SnIs_more : {ms ms' : List Made} {i sn : ℕ} → ((j : ℕ) (m : Made) → slice_get ms j ≡ Some m → slice_get ms' j ≡ Some m) → SnIs ms i sn → SnIs ms' i sn
SnIs_more more s = record { m = s.m; there = more _ s.m s.there; same = s.same }

-- modulo 2^32 an SN is the first one and its position
pub sn_mod : (ms : List Made) (i sn : ℕ) → Numbered ms → SnIs ms i sn → sn % 2 ^ 32 ≡ (first_sn ms + i) % 2 ^ 32
sn_mod ms i sn h s = ap (λ n. n % 2 ^ 32) (sym s.same) ∙ sn_from_first ms i s.m h s.there

-- an SN after that of position i names the position that is so far after it
pub position_is : (ms : List Made) (i p u v : ℕ) → Numbered ms → length ms ≤ 2147483648 → SnIs ms p u → SnIs ms i v → i < p → i + suc (ahead_by u (v + 1)) ≡ p
position_is ms i p u v h b x y l =
    let w : p < length ms = slice_get_within ms p x.m x.there in
    omega (arith, sn_mod ms p u h x, sn_mod ms i v h y)
