-- What is known of the packets that were taken in, with one packet more.
use Rattle.std.proofs.Common.{◌≡◌, ◌⊎◌, ℕ, suc, ◌+◌, ◌<◌, ◌≤◌, ◌^◌, Bool, true, false, List, [], ◌∷◌, ◌++◌, length, take, slice_get, Option, None, Some, Result, Ok, Err, IfOk, IfSome, MatchOption, refl, ap, sym, ◌∙◌, subst, arith, ⊎_elim, inl, inr}
use Rattle.std.proofs.lemmas.List.{take-append-le, take_at, take_all, length_push}
use Rattle.std.specs.declared.alloc.AllocError.{AllocError}
use Rattle.rasta_check.proofs.Prelude.{is_some, Side, Client, Server, Packet, Parameters, RedundancyPdu, FirstCopy, Spells, messages_in, Crossing, IsCrossing}
use Rattle.rasta_check.specs.declared.shown.Shown.{Shown}
use Rattle.rasta_check.specs.Middle.Kept.{KeptPdus, IsKept, HoldTogether}
use Rattle.rasta_check.specs.Internals.Sighting.{AfterPdu, Contradicts, IsKeptWith, follows_kept, sight_with}
use Rattle.rasta_check.specs.Middle.Seen.{AreKept, IsContradiction, IsSeen, held_of, kept_of_side}
use Rattle.rasta_check.specs.Internals.Showing.{AfterPacket, SpellsOnly, counted}
use Rattle.rasta_check.proofs.Lists.{take_one_more}
use Rattle.rasta_check.proofs.Capture.FaultlessLists.{read_once}
use Rattle.rasta_check.proofs.Middle.MessageCounts.{few_messages}
use Rattle.rasta_check.proofs.Middle.KeptSteps.{kept_without, kept_with, not_held, holds_together}

alike : (a b : Side) → (a ≡ b) ⊎ (a ≡ b → ⊥)
alike Client Client = inl refl
alike Client Server = inr (λ e. cc)
alike Server Client = inr (λ e. cc)
alike Server Server = inl refl

-- what is kept can't be held together with a PDU
abbrev Refuses : KeptPdus → FirstCopy → Type 0
Refuses kept copy = (follows_kept kept copy ≡ false) ⊎ Contradicts kept.sights (sight_with kept copy)

-- ---- both sides

-- a packet that spells nothing adds nothing
pub nothing_seen : (shown : Shown) (k : Packet) → ((d : RedundancyPdu) → Spells shown.params k.side d k.payload → ⊥) → AfterPacket shown k true shown
nothing_seen shown k none = (
  refl,
  λ packets n kept side. kept_without shown.params packets k side (kept_of_side shown side) (kept side)
      (λ d e spelled. none d (subst (λ (s : Side). Spells shown.params s d k.payload) (sym e) spelled)),
)

module _ (shown : Shown) (k : Packet) (d : RedundancyPdu) (spelled : Spells shown.params k.side d k.payload) (once : (e : RedundancyPdu) → Spells shown.params k.side e k.payload → e ≡ d) where
  abbrev p : Parameters
  p = shown.params

  abbrev copy : FirstCopy
  copy = record { place = shown.packets; pdu = d }

  taken : (new : Shown) → IsKeptWith (kept_of_side shown k.side) copy (kept_of_side new k.side) → ((other : Side) → (k.side ≡ other → ⊥) → kept_of_side new other ≡ kept_of_side shown other)
      → (packets : List Packet) → shown.packets ≡ length packets → AreKept p packets shown → AreKept p (packets ++ k ∷ []) new
  taken new w same packets n kept other =
      ⊎_elim
      (λ (e : k.side ≡ other).
      subst (λ (s : Side). IsKept p (packets ++ k ∷ []) s (kept_of_side new s)) e
      (kept_with p packets k k.side (kept_of_side shown k.side) (kept k.side) copy n refl spelled once (kept_of_side new k.side) w))
      (λ (e : k.side ≡ other → ⊥).
      subst (λ (x : KeptPdus). IsKept p (packets ++ k ∷ []) other x) (sym (same other e))
      (kept_without p packets k other (kept_of_side shown other) (kept other) (λ a x s. e x)))
      (alike k.side other)

  refused : Refuses (kept_of_side shown k.side) copy
      → (packets : List Packet) → shown.packets ≡ length packets → AreKept p packets shown → HoldTogether p (packets ++ k ∷ []) k.side → ⊥
  refused w packets n kept = not_held p packets k k.side (kept_of_side shown k.side) (kept k.side) copy n refl spelled once w

  -- the client's PDU
  client_others : (client : KeptPdus) → k.side ≡ Client → (other : Side) → (k.side ≡ other → ⊥) → kept_of_side (record shown { client = client }) other ≡ kept_of_side shown other
  client_others client e Client n = absurd (n e)
  client_others client e Server n = refl

  client_held : (client : KeptPdus) → k.side ≡ Client → (held : Bool) → AfterPdu shown.client copy held client → AfterPacket shown k held (record shown { client = client })
  client_held client e true w =
      let new : Shown = record shown { client = client } in
      (refl, taken new (subst (λ (s : Side). IsKeptWith (kept_of_side shown s) copy (kept_of_side new s)) (sym e) w) (client_others client e))
  client_held client e false w =
      (ap (λ (c : KeptPdus). record shown { client = c }) w.1, refused (subst (λ (s : Side). Refuses (kept_of_side shown s) copy) (sym e) w.0))

  -- the server's PDU
  server_others : (server : KeptPdus) → k.side ≡ Server → (other : Side) → (k.side ≡ other → ⊥) → kept_of_side (record shown { server = server }) other ≡ kept_of_side shown other
  server_others server e Client n = refl
  server_others server e Server n = absurd (n e)

  server_held : (server : KeptPdus) → k.side ≡ Server → (held : Bool) → AfterPdu shown.server copy held server → AfterPacket shown k held (record shown { server = server })
  server_held server e true w =
      let new : Shown = record shown { server = server } in
      (refl, taken new (subst (λ (s : Side). IsKeptWith (kept_of_side shown s) copy (kept_of_side new s)) (sym e) w) (server_others server e))
  server_held server e false w =
      (ap (λ (c : KeptPdus). record shown { server = c }) w.1, refused (subst (λ (s : Side). Refuses (kept_of_side shown s) copy) (sym e) w.0))

-- the PDU of a side
module _ (shown : Shown) (d : RedundancyPdu) (side : Side) where
  abbrev pdu_copy : FirstCopy
  pdu_copy = record { place = shown.packets; pdu = d }

  abbrev Seen : Shown → Bool → Type 0
  Seen new held = (k : Packet) → SpellsOnly shown.params side d k → AfterPacket shown k held new

  pub client_seen : side ≡ Client → (client : KeptPdus) (r : Result Bool AllocError) → IfOk r (λ held. AfterPdu shown.client pdu_copy held client) → IfOk r (Seen (record shown { client = client }))
  client_seen e client (Ok held) w = λ k s. client_held shown k d s.spelled s.only client (s.of_side ∙ e) held w
  client_seen e client (Err x) w = tt

  pub server_seen : side ≡ Server → (server : KeptPdus) (r : Result Bool AllocError) → IfOk r (λ held. AfterPdu shown.server pdu_copy held server) → IfOk r (Seen (record shown { server = server }))
  server_seen e server (Ok held) w = λ k s. server_held shown k d s.spelled s.only server (s.of_side ∙ e) held w
  server_seen e server (Err x) w = tt

  -- its messages are few
  pub few_seen : (k : Packet) → SpellsOnly shown.params side d k → length (messages_in d.safety.body) < 2 ^ 16
  few_seen k s = few_messages shown.params k.side d k.payload s.spelled

-- ---- one packet more

none_of : (o : Option ℕ) → is_some o ≡ false → o ≡ None
none_of None e = refl
none_of (Some x) e = absurd (cc)

some_of : (o : Option ℕ) → is_some o ≡ true → (x : ℕ) × (o ≡ Some x)
some_of None e = absurd (cc)
some_of (Some x) e = (x, refl)

same_kept : (a b : Shown) → a.client ≡ b.client → a.server ≡ b.server → (side : Side) → kept_of_side a side ≡ kept_of_side b side
same_kept a b e f Client = e
same_kept a b e f Server = f

are_kept : (p : Parameters) (packets : List Packet) (a b : Shown) → a.client ≡ b.client → a.server ≡ b.server → AreKept p packets a → AreKept p packets b
are_kept p packets a b e f h side = subst (λ (x : KeptPdus). IsKept p packets side x) (same_kept a b e f side) (h side)

module _ (p : Parameters) (packets : List Packet) (k : Packet) where
  abbrev all : List Packet
  all = packets ++ k ∷ []

  one_counted : (n m : ℕ) → n ≡ length packets → m ≡ n + 1 → m ≡ length all
  one_counted n m e f = omega (arith, e, f, length_push packets k)

  -- a contradiction stays, and is the first
  contradiction_stays : (place : ℕ) → IsContradiction p packets place → IsContradiction p all place
  contradiction_stays place h =
      let within = h.within in
      let before : take place all ≡ take place packets = take-append-le place packets (k ∷ []) (omega (arith, within)) in
      let with_it : take (suc place) all ≡ take (suc place) packets = take-append-le (suc place) packets (k ∷ []) (omega (arith, within)) in
      record {
        within = omega (arith, within, length_push packets k);
        held = λ side. subst (λ xs. HoldTogether p xs side) (sym before) (h.held side);
        broken = (h.broken.0, λ w. h.broken.1 (subst (λ xs. HoldTogether p xs h.broken.0) with_it w));
      }

  -- it comes with the packet that can't be held together with those before
  contradiction_comes : (place : ℕ) → place ≡ length packets → ((side : Side) → HoldTogether p packets side) → (side : Side) → (HoldTogether p all side → ⊥) → IsContradiction p all place
  contradiction_comes place e held side broken =
      let before : take place all ≡ packets = take_at packets (k ∷ []) place (sym e) in
      let with_it : take (suc place) all ≡ all = take_all (suc place) all (omega (arith, e, length_push packets k)) in
      record {
        within = omega (arith, e, length_push packets k);
        held = λ s. subst (λ xs. HoldTogether p xs s) (sym before) (held s);
        broken = (side, λ w. broken (subst (λ xs. HoldTogether p xs side) with_it w));
      }

  -- what is kept where the contradiction is this one, if there is one
  abbrev KeptBefore : Shown → Option ℕ → Type 0
  KeptBefore shown o = AreKept p (held_of all o) shown

module _ (p : Parameters) (packets : List Packet) (k : Packet) (old : Shown) (h : IsSeen p packets old) where
  -- what is kept where there is no contradiction
  kept_before : old.contradiction ≡ None → AreKept old.params packets old
  kept_before none = subst (λ q. AreKept q packets old) (sym h.params) (subst (λ o. AreKept p (held_of packets o) old) none h.kept)

  -- the packet is held together with those before, or can't be
  seen_after : old.contradiction ≡ None → (held : Bool) (new : Shown) → AfterPacket old k held new → IsSeen p (packets ++ k ∷ []) (counted new held)
  seen_after none true new w =
      let same = ap (λ (x : Shown). x.contradiction) w.0 ∙ none in
      let kept = w.1 packets h.count (kept_before none) in
      record {
        params = ap (λ (x : Shown). x.params) w.0 ∙ h.params;
        count = one_counted p packets k new.packets (new.packets + 1) (ap (λ (x : Shown). x.packets) w.0 ∙ h.count) refl;
        contradiction = subst (λ o. IfSome o (IsContradiction p (packets ++ k ∷ []))) (sym same) tt;
        kept = subst (λ o. KeptBefore p packets k (counted new true) o) (sym same)
            (are_kept p (packets ++ k ∷ []) new (counted new true) refl refl (subst (λ q. AreKept q (packets ++ k ∷ []) new) h.params kept));
      }
  seen_after none false new w =
      let kept = kept_before none in
      let held : (side : Side) → HoldTogether p packets side = λ side. subst (λ q. HoldTogether q packets side) h.params (holds_together old.params packets side (kept_of_side old side) (kept side)) in
      let count = ap (λ (x : Shown). x.packets) w.0 ∙ h.count in
      record {
        params = ap (λ (x : Shown). x.params) w.0 ∙ h.params;
        count = one_counted p packets k new.packets (new.packets + 1) count refl;
        contradiction = contradiction_comes p packets k new.packets count held k.side
            (λ together. w.1 packets h.count kept (subst (λ q. HoldTogether q (packets ++ k ∷ []) k.side) (sym h.params) together));
        kept = subst (λ xs. AreKept p xs (counted new false)) (sym (take_at packets (k ∷ []) new.packets (sym count)))
            (are_kept p packets old (counted new false) (ap (λ (x : Shown). x.client) (sym w.0)) (ap (λ (x : Shown). x.server) (sym w.0))
            (subst (λ q. AreKept q packets old) h.params kept));
      }

  -- once there is a contradiction, packets are only counted
  seen_counted : (place : ℕ) → old.contradiction ≡ Some place → IsSeen p (packets ++ k ∷ []) (counted old true)
  seen_counted place some =
      let known : IsContradiction p packets place = subst (λ o. IfSome o (IsContradiction p packets)) some h.contradiction in
      let within = known.within in
      let before : take place packets ≡ take place (packets ++ k ∷ []) = sym (take-append-le place packets (k ∷ []) (omega (arith, within))) in
      record {
        params = h.params;
        count = one_counted p packets k old.packets (old.packets + 1) h.count refl;
        contradiction = subst (λ o. IfSome o (IsContradiction p (packets ++ k ∷ []))) (sym some) (contradiction_stays p packets k place known);
        kept = subst (λ o. KeptBefore p packets k (counted old true) o) (sym some)
            (are_kept p (take place (packets ++ k ∷ [])) old (counted old true) refl refl
            (subst (λ xs. AreKept p xs old) before (subst (λ o. AreKept p (held_of packets o) old) some h.kept)));
      }

  -- so it is counted
  pub counted_after : (mid after new : Shown) (held told : Bool) → is_some old.contradiction ≡ false → AfterPacket old k told after
      → mid ≡ after → held ≡ told → new ≡ counted mid held → IsSeen p (packets ++ k ∷ []) new
  counted_after mid after new held told none w e f g =
      subst (λ (s : Shown). IsSeen p (packets ++ k ∷ []) s) (sym (g ∙ ap (λ (s : Shown). counted s held) e ∙ ap (λ (b : Bool). counted after b) f))
      (seen_after (none_of old.contradiction none) told after w)

  pub counted_known : (mid new : Shown) (held : Bool) → is_some old.contradiction ≡ true → mid ≡ old → held ≡ true → new ≡ counted mid held
      → IsSeen p (packets ++ k ∷ []) new
  counted_known mid new held some e f g =
      let at = some_of old.contradiction some in
      subst (λ (s : Shown). IsSeen p (packets ++ k ∷ []) s) (sym (g ∙ ap (λ (s : Shown). counted s held) e ∙ ap (λ (b : Bool). counted old b) f))
      (seen_counted at.0 at.1)

-- ---- packets and their PDUs

pub spells_only : (p : Parameters) (k : Packet) (d : RedundancyPdu) → Spells p k.side d k.payload
    → ((e : RedundancyPdu) → Spells p k.side e k.payload → d ≡ e) → SpellsOnly p k.side d k
spells_only p k d spelled once = record { of_side = refl; spelled = spelled; only = λ e s. sym (once e s) }

-- what was seen for whatever packet spells a PDU holds for this one
pub seen_as : (r : Result Bool AllocError) (old new : Shown) (side : Side) (d : RedundancyPdu) (k : Packet) → SpellsOnly old.params side d k
    → IfOk r (λ held. (other : Packet) → SpellsOnly old.params side d other → AfterPacket old other held new) → IfOk r (λ held. AfterPacket old k held new)
seen_as (Ok held) old new side d k s w = w k s
seen_as (Err x) old new side d k s w = tt

-- ---- a store

module _ (store : Crossing) (crossing : IsCrossing store) (k : Packet) where
  pub stored_spells : (shown : Shown) (side : Side) (d : RedundancyPdu) → shown.params ≡ store.params → side ≡ k.side → Spells store.params k.side d k.payload
      → SpellsOnly shown.params side d k
  stored_spells shown side d same e spelled = record {
    of_side = sym e;
    spelled = subst (λ q. Spells q k.side d k.payload) (sym same) spelled;
    only = λ other s. read_once store.params crossing.valid.valid k.side other d k.payload (subst (λ q. Spells q k.side other k.payload) same s) spelled;
  }

  -- one more of its packets was taken in
  pub stored_more : (place : ℕ) (shown new : Shown) → slice_get store.packets place ≡ Some k → shown ≡ new
      → IsSeen store.params (take place store.packets ++ k ∷ []) new → IsSeen store.params (take (place + 1) store.packets) shown
  stored_more place shown new g e h =
      subst (λ (s : Shown). IsSeen store.params (take (place + 1) store.packets) s) (sym e)
      (subst (λ (xs : List Packet). IsSeen store.params xs new) (take_one_more place store.packets k g) h)

-- all of them were
pub stored_all : (store : Crossing) (place : ℕ) (shown : Shown) → length store.packets ≤ place → IsSeen store.params (take place store.packets) shown
    → IsSeen store.params store.packets shown
stored_all store place shown l h = subst (λ (xs : List Packet). IsSeen store.params xs shown) (take_all place store.packets l) h

-- whether the packets can be held together
pub told_by : (p : Parameters) (packets : List Packet) (shown : Shown) → IsSeen p packets shown → (o : Option ℕ) → shown.contradiction ≡ o
    → MatchOption o ((side : Side) → HoldTogether p packets side) (IsContradiction p packets)
told_by p packets shown h None e = (let kept = subst (λ o. AreKept p (held_of packets o) shown) e h.kept in λ side. holds_together p packets side (kept_of_side shown side) (kept side))
told_by p packets shown h (Some place) e = subst (λ o. IfSome o (IsContradiction p packets)) e h.contradiction
