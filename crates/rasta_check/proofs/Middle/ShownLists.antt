-- What packets show of both sides, by what is kept of them.
use Rattle.std.proofs.Common.{◌≡◌, ℕ, List, Option, Some, None, length, take, unwrap_or, IfSome, refl, sym, ◌∙◌, subst, arith, inl, inr}
use Rattle.std.proofs.lemmas.List.{take_all}
use Rattle.rasta_check.proofs.Prelude.{Client, Server, Packet, Parameters}
use Rattle.rasta_check.specs.declared.shown.Shown.{Shown}
use Rattle.rasta_check.specs.declared.shown.ShownLists.{ShownLists}
use Rattle.rasta_check.specs.declared.sights.Sight.{Sight}
use Rattle.rasta_check.specs.declared.sights.Confirmation.{Confirmation}
use Rattle.rasta_check.specs.declared.sights.ShownUnit.{ShownUnit}
use Rattle.rasta_check.specs.declared.resent.ResentUnit.{ResentUnit}
use Rattle.rasta_check.specs.Middle.Kept.{KeptPdus}
use Rattle.rasta_check.specs.Middle.Seen.{AreKept, IsContradiction, IsSeen, held_of, kept_of_side}
use Rattle.rasta_check.specs.Middle.Shown.{IsListing}
use Rattle.rasta_check.specs.Middle.Resent.{IsResentListing}
use Rattle.rasta_check.specs.Middle.ShownLists.{AreListsOf, AreShownLists}
use Rattle.rasta_check.proofs.Middle.KeptSteps.{holds_together}

-- ---- the lists of a side

module _ (inside kept inside_peer peer : KeptPdus) (sights : List Sight) (confirmations : List Confirmation) where
  -- a list by what a side and its peer hold inside is that by what is kept of them
  pub data_of_kept : (units : List ShownUnit) → inside ≡ kept → inside_peer ≡ peer → sights ≡ inside.sights → confirmations ≡ inside_peer.confirmations
      → IsListing inside.base sights confirmations units → IsListing kept.base kept.sights peer.confirmations units
  data_of_kept units same same_peer e f h =
      subst (λ (k : KeptPdus). IsListing k.base k.sights peer.confirmations units) same
      (subst (λ (k : KeptPdus). IsListing inside.base inside.sights k.confirmations units) same_peer
      (subst (λ (xs : List Sight). IsListing inside.base xs inside_peer.confirmations units) e
      (subst (λ (cs : List Confirmation). IsListing inside.base sights cs units) f h)))

  pub resent_of_kept : (units : List ResentUnit) → inside ≡ kept → inside_peer ≡ peer → sights ≡ inside.sights → confirmations ≡ inside_peer.confirmations
      → IsResentListing inside.base sights confirmations units → IsResentListing kept.base kept.sights peer.confirmations units
  resent_of_kept units same same_peer e f h =
      subst (λ (k : KeptPdus). IsResentListing k.base k.sights peer.confirmations units) same
      (subst (λ (k : KeptPdus). IsResentListing inside.base inside.sights k.confirmations units) same_peer
      (subst (λ (xs : List Sight). IsResentListing inside.base xs inside_peer.confirmations units) e
      (subst (λ (cs : List Confirmation). IsResentListing inside.base sights cs units) f h)))

-- ---- both sides

-- the lists of what is kept of both sides are those of the packets
pub lists_of_kept : (shown : Shown) (lists : ShownLists)
    → IsListing shown.client.base shown.client.sights shown.server.confirmations lists.client.items
    → IsListing shown.server.base shown.server.sights shown.client.confirmations lists.server.items
    → IsResentListing shown.client.base shown.client.sights shown.server.confirmations lists.client_resent.items
    → IsResentListing shown.server.base shown.server.sights shown.client.confirmations lists.server_resent.items
    → (p : Parameters) (packets : List Packet) → AreKept p packets shown → AreShownLists p packets lists
lists_of_kept shown lists a b c d p packets kept =
    let client = kept Client in
    let server = kept Server in
    record {
      held = λ side. holds_together p packets side (kept_of_side shown side) (kept side);
      client = a p packets Client client.sights server.confirmations;
      server = b p packets Server server.sights client.confirmations;
      client_resent = c p packets Client client.sights server.confirmations;
      server_resent = d p packets Server server.sights client.confirmations;
    }

-- ---- what was taken in

module _ (p : Parameters) (packets : List Packet) (shown : Shown) (lists : ShownLists) (h : IsSeen p packets shown) where
  lists_by : ((q : Parameters) (held : List Packet) → AreKept q held shown → AreShownLists q held lists) → (o : Option ℕ) → shown.contradiction ≡ o
      → lists.packets ≡ unwrap_or o shown.packets → AreListsOf p packets lists
  lists_by w None e n =
      let count : lists.packets ≡ length packets = n ∙ h.count in
      record {
        all = inl count;
        shown = subst (λ xs. AreShownLists p xs lists) (sym (take_all lists.packets packets (omega (arith, count))))
            (w p packets (subst (λ o. AreKept p (held_of packets o) shown) e h.kept));
      }
  lists_by w (Some place) e n = record {
    all = inr (subst (IsContradiction p packets) (sym n) (subst (λ o. IfSome o (IsContradiction p packets)) e h.contradiction));
    shown = subst (λ (i : ℕ). AreShownLists p (take i packets) lists) (sym n) (w p (take place packets) (subst (λ o. AreKept p (held_of packets o) shown) e h.kept));
  }

  -- the lists of what is kept are those of the packets before a contradiction
  pub lists_of_seen : ((q : Parameters) (held : List Packet) → AreKept q held shown → AreShownLists q held lists)
      → lists.packets ≡ unwrap_or shown.contradiction shown.packets → AreListsOf p packets lists
  lists_of_seen w n = lists_by w shown.contradiction refl n
