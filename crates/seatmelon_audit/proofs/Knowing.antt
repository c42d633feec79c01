-- The ways of the connections that record the hosts of a frame.
use Rattle.std.proofs.Common.{◌≡◌, ◌∙◌, ◌⊎◌, inl, inr, ⊎_elim, ℕ, zero, suc, ◌+◌, ◌-◌, ◌*◌, ◌^◌, ◌%◌, ◌/◌, ◌<◌, ◌≤◌, List, [], ◌∷◌, ◌++◌, length, take, drop, get_or, min, Bool, true, false, cond, nat_eq, ltb, None, Some, Ok, ap, refl, sym, subst, arith}
use Rattle.std.proofs.lemmas.Bool.{ltb-false, ltb-true}
use Rattle.std.proofs.Math.Nat.{div-lt_iff_lt-mul, mod-lt, mul_comm, mul-lt-mul_of_pos_right}
use Rattle.std.proofs.lemmas.List.{get_or-drop, get_or-take, get_or_append_left, get_or_push, length-append, length-drop, length-take}
use Rattle.std.proofs.lemmas.List.Elements.{Contains-push_cases, filter-append}
use Rattle.std.proofs.lemmas.Bool.Decides.{nat_tests}
use Rattle.std.specs.List.{Contains}
use Rattle.std.proofs.lemmas.List.Sorted.{Contains-permutation}
use Rattle.std.specs.List.Sorted.{IsPermutation}
use Rattle.std.specs.Prelude.{slice_get}
use Rattle.rasta_udp.specs.declared.channel.Channel.{Channel}
use Rattle.rasta_udp.specs.Frame.{packet_in}
use Rattle.rasta_pdu.specs.Params.{Parameters}
use Rattle.seatmelon_audit.specs.Hosts.{bucket_of, hosts_between, hosts_of}
use Rattle.seatmelon_audit.specs.Ways.{AreStarts, AreWithin, BeginAt, IsNamed, KnowsAll, KnowsChannels, NamesAll, way_of, ways_between}
use Rattle.seatmelon_audit.specs.declared.ways.Way.{Way}
use Rattle.seatmelon_audit.proofs.Frames.{AreHostsOf, HasChannel, of_hosts, without_hosts}

by_test : (a b : ℕ) (t : Bool) → ltb a b ≡ t → (a < b) ⊎ (b ≤ a)
by_test a b true e = inl (ltb-true a b e)
by_test a b false e = inr (ltb-false a b e)

pub split : (a b : ℕ) → (a < b) ⊎ (b ≤ a)
split a b = by_test a b (ltb a b) refl

below_false : (a b : ℕ) → a ≡ b → ltb a b ≡ true → ⊥
below_false a b e h = (let less = ltb-true a b h in omega (arith, e, less))

next_true : (a b : ℕ) → a ≡ b → ltb a (b + 1) ≡ false → ⊥
next_true a b e h = (let from = ltb-false a (b + 1) h in omega (arith, e, from))

abbrev bucket_in : ℕ → Way → ℕ
bucket_in buckets w = bucket_of w.hosts buckets

bucket_at : (buckets : ℕ) (xs : List Way) (w : Way) (k hosts : ℕ) → get_or xs k w ≡ w → w.hosts ≡ hosts → bucket_in buckets (get_or xs k w) ≡ bucket_of hosts buckets
bucket_at buckets xs w k hosts here is = ap (bucket_in buckets) here ∙ ap (λ n. bucket_of n buckets) is

-- a way between these hosts stands between the start of its bucket and that of the next
module _ (buckets : ℕ) (xs : List Way) (hosts : ℕ) (w : Way) (is : w.hosts ≡ hosts) (h : Contains xs w) where
  from_begin : (s : ℕ) → BeginAt buckets (bucket_of hosts buckets) xs s → s ≤ h.0
  from_begin s lower = ⊎_elim
      (λ (l : h.0 < s). absurd (below_false _ _ (bucket_at buckets xs w h.0 hosts h.2 is) (lower.0 h.0 w (omega arith) l)))
      (λ (g : s ≤ h.0). g) (split h.0 s)

  before_end : (e : ℕ) → BeginAt buckets (bucket_of hosts buckets + 1) xs e → h.0 < e
  before_end e upper = ⊎_elim
      (λ (l : h.0 < e). l)
      (λ (g : e ≤ h.0). absurd (next_true _ _ (bucket_at buckets xs w h.0 hosts h.2 is) (upper.1 h.0 w g h.1))) (split h.0 e)

part_holds : (xs : List Way) (s e : ℕ) (w : Way) (h : Contains xs w) → s ≤ h.0 → h.0 < e → Contains (take (e - s) (drop s xs)) w
part_holds xs s e w h from below =
    let k = h.0 in
    let inside = h.1 in
    let place : s + (k - s) ≡ k = omega (arith, from) in
    let size : length (take (e - s) (drop s xs)) ≡ min (e - s) (length xs - s) = length-take (e - s) (drop s xs) ∙ ap (min (e - s)) (length-drop s xs) in (
      k - s,
      omega (arith, size, from, below, inside),
      get_or-take (e - s) (drop s xs) (k - s) w (omega (arith, from, below)) ∙ get_or-drop s xs (k - s) w ∙ ap (λ n. get_or xs n w) place ∙ h.2,
    )

pub in_part : (buckets : ℕ) (xs : List Way) (hosts s e : ℕ) → BeginAt buckets (bucket_of hosts buckets) xs s → BeginAt buckets (bucket_of hosts buckets + 1) xs e
    → (w : Way) → w.hosts ≡ hosts → Contains xs w → Contains (take (e - s) (drop s xs)) w
in_part buckets xs hosts s e lower upper w is h =
    part_holds xs s e w h (from_begin buckets xs hosts w is h s lower) (before_end buckets xs hosts w is h e upper)

pub empty_part : (buckets : ℕ) (xs : List Way) (hosts s e : ℕ) → BeginAt buckets (bucket_of hosts buckets) xs s → BeginAt buckets (bucket_of hosts buckets + 1) xs e → e < s
    → (w : Way) → w.hosts ≡ hosts → Contains xs w → ⊥
empty_part buckets xs hosts s e lower upper none w is h =
    let from = from_begin buckets xs hosts w is h s lower in
    let below = before_end buckets xs hosts w is h e upper in
    omega (arith, from, below, none)

-- ---- the buckets

spread_inside : (a n : ℕ) → a < 2 ^ 32 → 0 < n → a * n / 2 ^ 32 < n
spread_inside a n below some =
    (div-lt_iff_lt-mul {k = 2 ^ 32} (omega arith)).1 (subst (λ m. a * n < m) (mul_comm (2 ^ 32) n) (mul-lt-mul_of_pos_right below some))

pub bucket_inside : (hosts buckets : ℕ) → 0 < buckets → bucket_of hosts buckets < buckets
unfolding bucket_of
bucket_inside hosts buckets some = spread_inside (hosts * 11400714819323198485 % 2 ^ 64 / 2 ^ 32) buckets
    ((div-lt_iff_lt-mul {k = 2 ^ 32} (omega arith)).1 (mod-lt (hosts * 11400714819323198485) (omega arith))) some

-- ---- the ways of a frame's hosts

module _ (ways : List Way) (params : List Parameters) (knows : KnowsAll ways params) (frame : List ℕ) where
  pub names_none : (part : List Way) → hosts_of frame ≡ None → NamesAll part params frame
  names_none part none = λ line p is. inr (without_hosts p.channels frame none)

  named_by : (part : List Way) (hosts line : ℕ) (c : Channel) → ((w : Way) → w.hosts ≡ hosts → Contains ways w → Contains part w)
      → Contains ways (way_of (hosts_between c.client c.server) line) × Contains ways (way_of (hosts_between c.server c.client) line) → AreHostsOf hosts c → IsNamed part line
  named_by part hosts line c inside known (inl e) = (way_of (hosts_between c.client c.server) line, inside _ (sym e) known.0, refl)
  named_by part hosts line c inside known (inr e) = (way_of (hosts_between c.server c.client) line, inside _ (sym e) known.1, refl)

  pub names_some : (part : List Way) (hosts : ℕ) → ((w : Way) → w.hosts ≡ hosts → Contains ways w → Contains part w) → hosts_of frame ≡ Some hosts → NamesAll part params frame
  names_some part hosts inside some = λ line p is. ⊎_elim
      (λ (found : HasChannel p.channels hosts). inl (named_by part hosts line found.0 inside (knows line p is found.0 found.1) found.2))
      (λ (none : packet_in p.channels frame ≡ Ok None). inr none)
      (of_hosts p.channels frame hosts some)

-- ---- those between the hosts, among others

yes_same : (a b : ℕ) → a ≡ b → nat_eq a b ≡ true
yes_same a b e = grind (arith, nat_tests, e)

behind_first : (b : Bool) (x : Way) (l : List Way) (w : Way) → Contains l w → Contains (cond b (x ∷ l) l) w
behind_first true x l w h = (let below = h.1 in (suc h.0, omega (arith, below), h.2))
behind_first false x l w h = h

as_first : (b : Bool) (x : Way) (l : List Way) (w : Way) → b ≡ true → x ≡ w → Contains (cond b (x ∷ l) l) w
as_first true x l w e at = (0, omega arith, at)
as_first false x l w e at = absurd cc

at_between : (hosts : ℕ) (ways : List Way) (w : Way) → w.hosts ≡ hosts → (k : ℕ) → k < length ways → get_or ways k w ≡ w → Contains (ways_between hosts ways) w
at_between hosts [] w e k below at = absurd (omega (arith, below))
at_between hosts (x ∷ xs) w e zero below at =
    as_first (nat_eq x.hosts hosts) x (ways_between hosts xs) w (yes_same x.hosts hosts (ap (λ (v : Way). v.hosts) at ∙ e)) at
at_between hosts (x ∷ xs) w e (suc k) below at = behind_first (nat_eq x.hosts hosts) x (ways_between hosts xs) w (at_between hosts xs w e k (omega (arith, below)) at)

pub contains_between : (hosts : ℕ) (ways : List Way) (w : Way) → w.hosts ≡ hosts → Contains ways w → Contains (ways_between hosts ways) w
contains_between hosts ways w e h = at_between hosts ways w e h.0 h.1 h.2

pub between_yes : (hosts : ℕ) (ways : List Way) (w : Way) → w.hosts ≡ hosts → ways_between hosts (ways ++ w ∷ []) ≡ ways_between hosts ways ++ w ∷ []
between_yes hosts ways w e =
    filter-append (λ (v : Way). nat_eq v.hosts hosts) ways (w ∷ []) ∙ ap (λ b. ways_between hosts ways ++ cond b (w ∷ []) []) (yes_same w.hosts hosts e)

-- ---- one connection more

pub one_more : (ways more : List Way) (line : ℕ) (done : List Channel) (c : Channel) → KnowsChannels ways line done → ((w : Way) → Contains ways w → Contains more w)
    → Contains more (way_of (hosts_between c.client c.server) line) × Contains more (way_of (hosts_between c.server c.client) line) → KnowsChannels more line (done ++ c ∷ [])
one_more ways more line done c knows kept added d h = ⊎_elim
    (λ (before : Contains done d). (kept _ (knows d before).0, kept _ (knows d before).1))
    (λ (same : c ≡ d). subst (λ (x : Channel). Contains more (way_of (hosts_between x.client x.server) line) × Contains more (way_of (hosts_between x.server x.client) line)) same added)
    (Contains-push_cases done c d h)

pub sorted_knows : (ways more : List Way) (params : List Parameters) → IsPermutation ways more → KnowsAll ways params → KnowsAll more params
sorted_knows ways more params same knows line p is c h =
    (Contains-permutation ways more _ same (knows line p is c h).0, Contains-permutation ways more _ same (knows line p is c h).1)

-- the connections below this place are known
abbrev KnownBelow : List Way → List Parameters → ℕ → Type 0
KnownBelow ways params i = (line : ℕ) (p : Parameters) → line < i → slice_get params line ≡ Some p → KnowsChannels ways line p.channels

same_at : (params : List Parameters) (i : ℕ) (x p : Parameters) → slice_get params i ≡ Some x → slice_get params i ≡ Some p → x ≡ p
same_at params i x p e f = cc

pub all_more : (ways more : List Way) (params : List Parameters) (i : ℕ) (x : Parameters) → KnownBelow ways params i → ((w : Way) → Contains ways w → Contains more w)
    → KnowsChannels more i x.channels → slice_get params i ≡ Some x → KnownBelow more params (i + 1)
all_more ways more params i x known kept added here line p below is = ⊎_elim
    (λ (less : line < i). λ c h. (let old = known line p less is c h in (kept _ old.0, kept _ old.1)))
    (λ (from : i ≤ line).
    let same : line ≡ i = omega (arith, below, from) in
    let params_same = same_at params i x p here (subst (λ n. slice_get params n ≡ Some p) same is) in
    subst (λ n. KnowsChannels more n p.channels) (sym same) (subst (λ (q : Parameters). KnowsChannels more i q.channels) params_same added))
    (split line i)

-- ---- where the buckets begin

module _ (buckets : ℕ) (ways : List Way) (starts : List ℕ) (place : ℕ) where
  at_push : (P : ℕ → ℕ → Type 0) → ((b d : ℕ) → b < length starts → P b (get_or starts b d)) → P (length starts) place
      → (b d : ℕ) → b < length (starts ++ place ∷ []) → P b (get_or (starts ++ place ∷ []) b d)
  at_push P before here b d below = ⊎_elim
      (λ (less : b < length starts). subst (P b) (sym (get_or_append_left starts (place ∷ []) d b less)) (before b d less))
      (λ (from : length starts ≤ b).
      let size = length-append starts (place ∷ []) in
      let same : length starts ≡ b = omega (arith, below, from, size) in
      subst (P b) (sym (get_or_push starts place d b same)) (subst (λ n. P n place) same here))
      (split b (length starts))

  pub more_starts : AreStarts buckets ways starts → BeginAt buckets (length starts) ways place → AreStarts buckets ways (starts ++ place ∷ [])
  more_starts before here = at_push (λ b n. BeginAt buckets b ways n) before here

  pub more_within : AreWithin ways starts → place ≤ length ways → AreWithin ways (starts ++ place ∷ [])
  more_within before here = at_push (λ b n. n ≤ length ways) before here

pub begin_of : (buckets : ℕ) (ways : List Way) (starts : List ℕ) (b bucket s : ℕ) → AreStarts buckets ways starts → b ≡ bucket → b < length starts → s ≡ get_or starts b s → BeginAt buckets bucket ways s
begin_of buckets ways starts b bucket s order same below at = subst (λ n. BeginAt buckets n ways s) same (subst (BeginAt buckets b ways) (sym at) (order b s below))

pub place_of : (ways : List Way) (starts : List ℕ) (b s : ℕ) → AreWithin ways starts → b < length starts → s ≡ get_or starts b s → s ≤ length ways
place_of ways starts b s within below at = subst (λ n. n ≤ length ways) (sym at) (within b s below)

pub length_pushed : (starts : List ℕ) (place n : ℕ) → length starts ≡ n → length (starts ++ place ∷ []) ≡ n + 1
length_pushed starts place n e = (let size = length-append starts (place ∷ []) in omega (arith, size, e))

pub none_started : (buckets : ℕ) (ways : List Way) → AreStarts buckets ways []
none_started buckets ways b d below = absurd (omega (arith, below))

pub none_within : (ways : List Way) → AreWithin ways []
none_within ways b d below = absurd (omega (arith, below))
