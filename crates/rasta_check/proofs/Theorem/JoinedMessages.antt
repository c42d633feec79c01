-- Messages of units, joined to one list.
use Rattle.std.proofs.Common.{◌≡◌, ℕ, suc, ◌+◌, ◌-◌, ◌≤◌, List, [], ◌∷◌, ◌++◌, length, map, take, Some, slice_get, refl, ap, sym, ◌∙◌, arith, subst}
use Rattle.rasta_check.proofs.Prelude.{dec_lt, yes, no, map-append, length-map, SafetyPdu, messages_in, TakenUnit, units_listed, messages_of_unit, messages_taken, numbered_from}
use Rattle.rasta_check.proofs.Prelude.{begins_with, get_front, get_front_within, get_mapped, get_past, map_at}
use Rattle.std.specs.List.{flat_map}
use Rattle.std.proofs.lemmas.List.Folds.{flat_map-map}
use Rattle.std.proofs.lemmas.Grind.{flat_map-append}
use Rattle.rasta_check.specs.Verdict.Listed.{TakenMessage, ListedMessage}
use Rattle.rasta_check.specs.Verdict.Headline.{messages_in_list}
use Rattle.rasta_check.proofs.Lists.{get_take}

-- the messages of each unit, unit by unit
abbrev pub joined : List (List (List ℕ)) → List (List ℕ)
joined units = flat_map (λ (ms : List (List ℕ)). ms) units

pub up_joined : (xs : List SafetyPdu) → flat_map (λ (x : SafetyPdu). messages_in x.body) xs ≡ joined (map (λ (x : SafetyPdu). messages_in x.body) xs)
up_joined xs = sym (flat_map-map (λ (ms : List (List ℕ)). ms) (λ (x : SafetyPdu). messages_in x.body) xs)

abbrev said : List TakenMessage → List (List ℕ)
said ms = map (λ (m : TakenMessage). m.message) ms

said_unit : (data_place proof : ℕ) (ms : List (List ℕ)) → said (messages_of_unit (record { messages = ms; data_place = data_place; proof_place = proof })) ≡ ms
said_unit data_place proof [] = refl
said_unit data_place proof (m ∷ ms) = ap (λ xs. m ∷ xs) (said_unit data_place proof ms)

said_units : (us : List TakenUnit) → said (messages_taken us) ≡ joined (units_listed us)
said_units [] = refl
said_units (u ∷ us) =
    map-append (λ (m : TakenMessage). m.message) (messages_of_unit u) (messages_taken us)
    ∙ (λ i. said_unit u.data_place u.proof_place u.messages i ++ said_units us i)

-- what is said of the messages of a report's list, by the places of their proofs and their bytes, is said of the messages taken
numbered : {A : Type 0} (f : ℕ → List ℕ → A) (n : ℕ) (ms : List TakenMessage) → map (λ (l : ListedMessage). f l.proof_place l.message) (numbered_from n ms) ≡ map (λ (m : TakenMessage). f m.proof_place m.message) ms
numbered f n [] = refl
numbered f n (m ∷ ms) = ap (λ xs. f m.proof_place m.message ∷ xs) (numbered f (suc n) ms)

-- the messages of a report's list are those of its units
pub listed_joined : (us : List TakenUnit) → messages_in_list (numbered_from 0 (messages_taken us)) ≡ joined (units_listed us)
listed_joined us = numbered (λ place message. message) 0 (messages_taken us) ∙ said_units us

-- ---- the unit of a message

-- the m-th message: its unit, and that it is among the messages up to this one
pub record OfUnit (us : List TakenUnit) (m proof : ℕ) (message : List ℕ) : Type 0 where
  pub i : ℕ
  pub u : TakenUnit
  pub there : slice_get us i ≡ Some u
  pub place : proof ≡ u.proof_place
  pub first : slice_get (joined (units_listed (take (suc i) us))) m ≡ Some message

of_message : (us : List TakenUnit) (m : ℕ) (t : TakenMessage) → slice_get (messages_taken us) m ≡ Some t → OfUnit us m t.proof_place t.message
of_message [] m t g = absurd (cc)
of_message (u ∷ us) m t g =
    let said = messages_of_unit u in
    let same : length said ≡ length u.messages = length-map u.messages _ in
    elim (dec_lt m (length said)) [
      | yes l ↦ (let w = get_mapped _ u.messages m t (sym (get_front_within said (messages_taken us) m l) ∙ g) in
          record { i = 0; u = u; there = refl; place = ap (λ (z : TakenMessage). z.proof_place) (sym w.2); first = get_front u.messages [] m t.message (w.1 ∙ ap (λ (z : TakenMessage). Some z.message) w.2) })
      | no q ↦ (let n : ℕ = m - length said in
          let past : m ≡ length said + n = omega (arith, q) in
          let r = of_message us n t (sym (get_past said (messages_taken us) n) ∙ rw past at g) in
          record { i = suc r.i; u = r.u; there = r.there; place = r.place; first = grind (arith, get_past, r.first) })
    ]

-- a member of a report's list has a unit
pub of_listed : (us : List TakenUnit) (m : ℕ) (l : ListedMessage) → slice_get (numbered_from 0 (messages_taken us)) m ≡ Some l → OfUnit us m l.proof_place l.message
of_listed us m l g =
    let both = map_at (λ (x : ListedMessage). (x.proof_place, x.message)) (numbered_from 0 (messages_taken us)) m l g in
    let t = get_mapped (λ (x : TakenMessage). (x.proof_place, x.message)) (messages_taken us) m _ (ap (λ xs. slice_get xs m) (sym (numbered (λ place message. (place, message)) 0 (messages_taken us))) ∙ both) in
    subst (λ (z : ℕ × List ℕ). OfUnit us m z.0 z.1) t.2 (of_message us m t.0 t.1)

-- where the units up to that one were handed up, so was the message
pub message_up : (us : List TakenUnit) (m proof : ℕ) (message : List ℕ) (o : OfUnit us m proof message) (handed : List (List (List ℕ)))
    → ((j : ℕ) (u : TakenUnit) → j ≤ o.i → slice_get us j ≡ Some u → slice_get handed j ≡ Some u.messages) → slice_get (joined handed) m ≡ Some message
message_up us m proof message o handed h =
    let first = units_listed (take (suc o.i) us) in
    let r = begins_with first handed
    (λ j ms g. (let u = get_mapped (λ (u : TakenUnit). u.messages) (take (suc o.i) us) j ms g in let x = get_take us (suc o.i) j u.0 u.1 in h j u.0 (omega (arith, x.0)) x.1 ∙ ap Some u.2)) in
    grind (arith, r.1, flat_map-append (λ (ms : List (List ℕ)). ms) first r.0, get_front, o.first)
