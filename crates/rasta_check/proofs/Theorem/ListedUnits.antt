-- The units that two lists show to be taken: their members, their proofs, and that they were handed up, which are the first that were offered.
use Rattle.std.proofs.Common.{◌≡◌, ℕ, suc, ◌+◌, ◌<◌, ◌≤◌, List, [], ◌∷◌, ◌++◌, length, Option, Some, slice_get, take, drop, refl, ap, sym, ◌∙◌, arith}
use Rattle.rasta_check.proofs.Prelude.{map, filter, fold, max, option_map, nat_tests, length-map, take-append-drop, take-append-le, take_all, dec_lt, yes, no, Side, Quiet, Data}
use Rattle.rasta_check.proofs.Prelude.{Parameters, SafetyPdu, messages_in, is_kind, Made, EndState, start_by, FirstCopy, pdus_made, pdus_of, all_made, units_shown, units_taken}
use Rattle.rasta_check.proofs.Prelude.{TakenUnit, units_from, data_copies, surely_taken, HandsUpUnits, units_handed, units_listed, get_front_within, begins_with, get_mapped, map_at}
use Rattle.rasta_check.proofs.Prelude.{mapped_some}
use Rattle.std.proofs.lemmas.List.{take-map}
use Rattle.rasta_check.specs.Model.Taken.{proof_place}
use Rattle.rasta_check.specs.Verdict.Headline.{units_offered}
use Rattle.rasta_check.proofs.Lists.{get_take}

-- ---- members

-- the unit of this number, of a data PDU
abbrev listed_unit : List SafetyPdu → List FirstCopy → ℕ → FirstCopy → TakenUnit
listed_unit own peer n c = record { messages = messages_in c.pdu.safety.body; data_place = c.place; proof_place = proof_place own (pdus_of peer) n peer }

-- the i-th unit is that of the i-th data PDU
unit_at : (own : List SafetyPdu) (peer : List FirstCopy) (k : ℕ) (us : List FirstCopy) (i n : ℕ) → k + i ≡ n → slice_get (units_from own peer k us) i ≡ option_map (listed_unit own peer n) (slice_get us i)
unit_at own peer k [] i n e = refl
unit_at own peer k (u ∷ us) i n e = grind (arith, unit_at own peer (suc k) us)

-- the messages of a data PDU
abbrev said : FirstCopy → List (List ℕ)
said c = messages_in c.pdu.safety.body

messages_listed : (own : List SafetyPdu) (peer : List FirstCopy) (k : ℕ) (us : List FirstCopy) → units_listed (units_from own peer k us) ≡ map said us
messages_listed own peer k [] = refl
messages_listed own peer k (u ∷ us) = ap (λ ms. said u ∷ ms) (messages_listed own peer (suc k) us)

-- ---- proofs

-- the PDU at the proof place
pub record Proof (own peer : List SafetyPdu) (k : ℕ) (ds : List FirstCopy) : Type 0 where
  pub j : ℕ
  pub d : FirstCopy
  pub there : slice_get ds j ≡ Some d
  pub more : k < units_shown own peer d.pdu.safety
  pub place : proof_place own peer k ds ≡ d.place

-- where some PDU shows more than k units, the one at the proof place does
pub proof_by : (own peer : List SafetyPdu) (k a : ℕ) (ds : List FirstCopy) → a ≤ k → k < fold max a (map (units_shown own peer) (pdus_of ds)) → Proof own peer k ds
proof_by own peer k a [] low l = absurd (omega arith)
proof_by own peer k a (d ∷ ds) low l =
    elim (dec_lt k (units_shown own peer d.pdu.safety)) [
      | yes m ↦ record { j = 0; d = d; there = refl; more = m; place = grind (arith, nat_tests) }
      | no q ↦ (let z = proof_by own peer k (max a (units_shown own peer d.pdu.safety)) ds (omega (arith, low, q)) l in
          record { j = suc z.j; d = z.d; there = z.there; more = z.more; place = grind (arith, nat_tests, z.place) })
    ]

-- ---- the units of data PDUs

-- of those among these PDUs, the messages of each
units_in : List SafetyPdu → List (List (List ℕ))
units_in xs = map (λ (x : SafetyPdu). messages_in x.body) (filter (λ (x : SafetyPdu). is_kind Data x.kind) xs)

units-mapped : {A : Type 0} (f : A → SafetyPdu) (xs : List A) → map (λ (x : A). messages_in (f x).body) (filter (λ (x : A). is_kind Data (f x).kind) xs) ≡ units_in (map f xs)
unfolding units_in
units-mapped f [] = refl
units-mapped f (x ∷ xs) = (let more = units-mapped f xs in grind arith)

quiet_units : (q : Option Quiet) (s : Side) (xs : List SafetyPdu) → units_in (pdus_made (start_by q s).made ++ xs) ≡ units_in xs
unfolding units_in
quiet_units q s xs = grind arith

-- the units that an end offered are those of the data PDUs of its sent list
offered_by : (p : Parameters) (s : Side) (f : EndState) (own : List FirstCopy) → pdus_made f.made ≡ all_made p s own → units_offered f ≡ map said (data_copies own)
offered_by p s f own e = units-mapped (λ (m : Made). m.pdu) f.made ∙ (ap units_in e ∙ (quiet_units p.quiet s (pdus_of own) ∙ sym (units-mapped (λ (c : FirstCopy). c.pdu.safety) own)))

-- ---- what was handed up

-- the units that e handed up come first among those that f offered
pub offered_first : (e f : EndState) → HandsUpUnits e f → (later : List (List (List ℕ))) × (units_offered f ≡ units_handed e ++ later)
offered_first e f h =
    begins_with (units_handed e) (units_offered f)
    (λ i a g. (let x = get_mapped (λ (x : SafetyPdu). messages_in x.body) e.handed_pdus i a g in let m = h.messages i x.0 x.1 in
    map_at (λ (m : Made). messages_in m.pdu.body) (filter (λ (m : Made). is_kind Data m.pdu.kind) f.made) i m.0 m.1 ∙ ap Some (sym m.2 ∙ x.2)))

-- e takes the units of f; `own` is what f sent
module _ (p : Parameters) (s : Side) (e f : EndState) (own peer : List FirstCopy) (told : pdus_made f.made ≡ all_made p s own) (h : HandsUpUnits e f) where
  abbrev most : ℕ
  most = units_taken (all_made p s own) (pdus_of peer)

  count : length (units_handed e) ≡ length e.handed
  count = length-map e.handed_pdus (λ (x : SafetyPdu). messages_in x.body) ∙ h.labels.same_count

  abbrev later : List (List (List ℕ))
  later = (offered_first e f h).0

  -- what is listed are the first units that were offered
  all_listed : units_listed (surely_taken p s own peer) ≡ take most (units_handed e ++ later)
  all_listed = messages_listed (all_made p s own) peer 0 _ ∙ (sym (take-map said most (data_copies own)) ∙ ap (take most) (sym (offered_by p s f own told) ∙ (offered_first e f h).1))

  -- the i-th PDU handed up has the messages of the i-th unit that is listed
  pub unit_handed : (i : ℕ) (u : TakenUnit) → i < length e.handed → slice_get (surely_taken p s own peer) i ≡ Some u → slice_get (units_handed e) i ≡ Some u.messages
  unit_handed i u l g =
      let a = rw all_listed at (map_at (λ (t : TakenUnit). t.messages) (surely_taken p s own peer) i u g) in
      sym (get_front_within (units_handed e) later i (omega (arith, l, count))) ∙ (get_take _ most i _ a).1

  -- a unit that is listed is one of those that were taken
  pub listed_below : (i : ℕ) (u : TakenUnit) → slice_get (surely_taken p s own peer) i ≡ Some u → (i < most) × (u.proof_place ≡ proof_place (all_made p s own) (pdus_of peer) i peer)
  listed_below i u g = grind (arith, get_take, mapped_some, unit_at)

  -- where as many were handed up as are taken, each of those is listed
  listed_handed : most ≤ length e.handed → units_listed (surely_taken p s own peer) ≡ take most (units_handed e)
  listed_handed l = all_listed ∙ take-append-le most (units_handed e) later (omega (arith, l, count))

  -- and they come first
  pub listed_first : most ≤ length e.handed → (rest : List (List (List ℕ))) × (units_handed e ≡ units_listed (surely_taken p s own peer) ++ rest)
  listed_first l = (drop most (units_handed e), sym (ap (λ us. us ++ drop most (units_handed e)) (listed_handed l) ∙ take-append-drop most (units_handed e)))

  -- where no more was handed up than is listed, it is what is listed
  pub exactly_listed : most ≤ length e.handed → length e.handed ≤ most → units_handed e ≡ units_listed (surely_taken p s own peer)
  exactly_listed l m = sym (listed_handed l ∙ take_all most (units_handed e) (omega (arith, m, count)))
