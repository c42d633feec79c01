use Rattle.std.proofs.Common.{◌≡◌, ℕ, [], ◌∷◌, ◌++◌, length, ap, sym, ◌∙◌, subst, arith}
use Rattle.rasta_check.proofs.Prelude.{packet_of, StoredPacket, Crossing, IsCrossing, with_packet, IsStore, crossing_by}
use Rattle.rasta_check.specs.declared.packet_store.Store.TheInside.{Inside}
use Rattle.rasta_check.specs.Internals.Stored.{HasPosition}
use Rattle.rasta_check.proofs.Internals.StoreGrowth.{grown_copy, grown_new}
use Rattle.rasta_check.proofs.packet_store.Store.push.Goals as goal
use Rattle.rasta_check.proofs.packet_store.Store.push.Goals.{in-Some, in-None+in_ok-push-in-None}

both : (c : goal.After-push_reserved) → (y : Inside) × (c.match-known.self-inside ≡ y)
    × IsStore y.params y.datagrams c.push_reserved.new.self.items
    × (crossing_by y.params y.datagrams c.push_reserved.new.self.items ≡ with_packet c.args.self.now (packet_of c.args.found.now))
both c =
    let old = c.self.inside in
    let a = packet_of c.args.found.now in
    let crossing = subst (λ (k : Crossing). IsCrossing (with_packet k a)) (sym c.self.view_is) c.requires.crossing in
    let judged = subst (λ (k : Crossing). HasPosition k a c.args.known) (sym c.self.view_is) c.requires.judged in
    let kept : c.try_reserve.new.self.items ≡ old.packets.items = c.in_ok-try_reserve.ensures.items in
    let stored : ℕ → StoredPacket = λ (n : ℕ). record { position = n; channel = a.channel; side = a.side } in
    let after = ap (λ (k : Crossing). with_packet k a) c.self.view_is in
    elim c.match-known.branch [
      | in-Some w ↦
          let all = c.push_reserved.ensures.items ∙ (λ i. (w.self-inside-is i).packets.items ++ stored (w.position-is i) ∷ []) ∙ (λ i. kept i ++ stored w.in-Some.position ∷ []) in
          let r = grown_copy old.params old.datagrams old.packets.items c.self.invariant a crossing w.in-Some.position _ (subst (HasPosition _ a) w.in-Some.is judged) all in
          (_, w.self-inside-is, r.0, r.1 ∙ after)
      | in-None+in_ok-push-in-None w ↦
          let all = c.push_reserved.ensures.items ∙ (λ i. (w.self-inside-is i).packets.items ++ stored (w.position-is i) ∷ []) ∙ (λ i. kept i ++ stored w.len-position.result ∷ []) in
          let place : w.len-place.result ≡ length old.packets.items = (let q = w.len-place.ensures in let l = ap length kept in omega arith) in
          let r = grown_new old.params old.datagrams old.packets.items c.self.invariant a crossing w.len-position.result w.len-place.result _ _ place w.len-position.ensures
          (subst (HasPosition _ a) w.in-None.is judged) w.in_ok-push-in-None.ensures.ok all in
          (_, w.self-inside-is, r.0, r.1 ∙ after)
    ]

pub invariant_of-self-2 : goal.invariant_of-self-2
invariant_of-self-2 c =
    let w = both c in subst (λ (y : Inside). IsStore y.params y.datagrams c.push_reserved.new.self.items) (sym w.1) w.2

pub returns-clause-ok : goal.returns-clause-ok
returns-clause-ok c =
    let w = both c in ap (λ (y : Inside). crossing_by y.params y.datagrams c.push_reserved.new.self.items) w.1 ∙ w.3
