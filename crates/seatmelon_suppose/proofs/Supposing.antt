-- Fillings one behind the other, and what is told of them.
use Rattle.std.proofs.Common.{◌≡◌, ◌∙◌, ℕ, List, [], ◌∷◌, ◌++◌, append-nil, append_assoc, Option, ap, subst, sym}
use Rattle.std.specs.Prelude.{All}
use Rattle.std.proofs.lemmas.List.Elements.{All-append, All-cons, All-nil}
use Rattle.rasta_pcap.specs.declared.fault.Side.{Side}
use Rattle.rasta_pcap.specs.declared.fault.Side.TheVariants.{Client, Server}
use Rattle.rasta_pdu.specs.Params.{Parameters}
use Rattle.rasta_check.specs.Capture.Crossing.{sent_by}
use Rattle.seatmelon_reading.specs.Tapes.{NumberedPacket}
use Rattle.seatmelon_suppose.specs.Common.{IsCommon}
use Rattle.seatmelon_suppose.specs.Filling.{IsFilling, IsJudged}
use Rattle.seatmelon_suppose.specs.Sent.{IsSentBy, sent_messages}
use Rattle.seatmelon_suppose.specs.Supposition.{AddsJudged, IsSupposition}
use Rattle.seatmelon_suppose.specs.declared.filling.Filling.{Filling}
use Rattle.seatmelon_suppose.specs.declared.filling.Judged.{Judged}
use Rattle.seatmelon_suppose.specs.declared.sent.SentMessage.{SentMessage}
use Rattle.seatmelon_suppose.specs.declared.supposition.Supposition.{Supposition}
use Rattle.seatmelon_suppose.proofs.Judging.{judged-filling}

module _ (p : Parameters) (packets : List NumberedPacket) (most : ℕ) where
  abbrev Good : Filling → Type 0
  Good f = IsFilling p packets most f

  -- ---- fillings one behind the other

  pub adds-none : (old new : List Filling) → new ≡ old → AddsJudged p packets most old new
  adds-none old new same = record { more = []; added = same ∙ sym (append-nil old); judged = All-nil Good }

  pub adds-one : (old new : List Filling) (f : Filling) → new ≡ old ++ f ∷ [] → IsFilling p packets most f → AddsJudged p packets most old new
  adds-one old new f added judged = record { more = f ∷ []; added = added; judged = All-cons Good f [] judged (All-nil Good) }

  pub adds-then : (old mid new : List Filling) → AddsJudged p packets most old mid → AddsJudged p packets most mid new → AddsJudged p packets most old new
  adds-then old mid new a b = record {
    more = a.more ++ b.more;
    added = b.added ∙ ap (λ l. l ++ b.more) a.added ∙ append_assoc old a.more b.more;
    judged = All-append Good a.more b.more a.judged b.judged;
  }

  -- ---- what is told of them

  module _ (j : Judged) (fillings : List Filling) (h : IsJudged p packets most j) (a : AddsJudged p packets most (j.filling ∷ []) fillings) where
    all-judged : All Good fillings
    all-judged = subst (λ (l : List Filling). All Good l) (sym a.added) (All-cons Good j.filling a.more (judged-filling p packets most j h) a.judged)

    sent-first : (side : Side) (sent : List SentMessage) → sent ≡ sent_messages j.origins.items (sent_by j.store side) → IsSentBy p packets side fillings sent
    sent-first side sent all =
        subst (λ (l : List Filling). IsSentBy p packets side l sent) (sym a.added)
        (j.store, h.crossed, all ∙ ap (λ (from : List (Option ℕ)). sent_messages from (sent_by j.store side)) h.origins)

  pub supposed-so : (j : Judged) (s : Supposition) → IsJudged p packets most j → AddsJudged p packets most (j.filling ∷ []) s.fillings.items
      → s.client.sent.items ≡ sent_messages j.origins.items (sent_by j.store Client) → s.server.sent.items ≡ sent_messages j.origins.items (sent_by j.store Server)
      → IsCommon Client s.fillings.items s.client.taken.items → IsCommon Server s.fillings.items s.server.taken.items → IsSupposition p packets most s
  supposed-so j s h a by_client by_server client server = record {
    fillings = all-judged j s.fillings.items h a;
    client_sent = sent-first j s.fillings.items h a Client s.client.sent.items by_client;
    server_sent = sent-first j s.fillings.items h a Server s.server.sent.items by_server;
    client = client;
    server = server;
  }
