-- What is proposed fits, run or no run; and where nothing is proposed, nothing is found at a place.
use Rattle.std.proofs.Common.{◌≡◌, ℕ, zero, suc, ◌+◌, ◌≤◌, ◌⊎◌, Bool, true, false, List, length, Option, Some, None, Result, Ok, Err, slice_get, refl, ap, sym, ◌∙◌, arith, inl, inr, subst}
use Rattle.rasta_build.proofs.Prelude.{nat_lt, if◌then◌else◌, dec_lt, yes, no, Fault, Client, Server, Packet, Parameters, Scripts, IsCertificate, most_entries, FirstCopy, BothFit}
use Rattle.rasta_build.proofs.Prelude.{IsSent, to_record, slice_get_some, Built, first_of, Pass, first_pass, one_more, pass_on, passes, copy_goes, client_goes, server_goes}
use Rattle.rasta_build.proofs.Prelude.{all_copies, proposal, proposed_by, scripts_of}
use Rattle.rasta_check.proofs.Script.ScriptsOfRuns.{leads_count, taken_within}
use Rattle.rasta_check.specs.Capture.Crossing.{AreSentLists}
use Rattle.rasta_check.specs.Capture.Lists.{IsOrdered}
use Rattle.rasta_check.proofs.Script.Fits.{follows_fits}
use Rattle.rasta_build.specs.Completeness.{IsProposal}
use Rattle.rasta_build.proofs.Comparisons.{not_lt}
use Rattle.rasta_build.proofs.SentLists.{sent_rises, sent_numbers, sent_within}
use Rattle.rasta_build.proofs.Soundness.{passes_read}
use Rattle.rasta_build.proofs.Place.{passes_front}

-- ---- entries are few

-- ---- a pass that has gone through both lists

module _ (p : Parameters) (packets : List Packet) (c s : List FirstCopy) (hc : IsSent p packets Client c) (hs : IsSent p packets Server s) (most : length packets ≤ 16000000) (lc : length c ≤ 1000000) (ls : length s ≤ 1000000) where
  -- its scripts are a certificate, and fit
  pub passed_fits : (t : Pass) → passes p c s (all_copies c s) ≡ Ok t → t.made ≡ length c → t.answered ≡ length s
      → (proposal p c s ≡ Ok (scripts_of t)) × (IsCertificate (scripts_of t) × BothFit p (length packets) c s (scripts_of t))
  passed_fits t done all their_all =
      let a = passes_read p (length packets) c s lc ls (sent_rises p packets Client c hc) (sent_rises p packets Server s hs) hc.rising hs.rising (sent_within p packets Client c hc) (sent_within p packets Server s hs)
      (omega (arith, most)) (sent_numbers p packets Client c hc) (sent_numbers p packets Server s hs) (all_copies c s) t done in
      let rc = a.client in
      let rs = a.server in
      let nc = leads_count p (length packets) c s _ rc.at t.own.script rc.leads in
      let ns = leads_count p (length packets) s c _ rs.at t.other.script rs.leads in
      let tc = taken_within p (length packets) c s _ rc.at t.own.script rc.leads (omega arith) in
      let ts = taken_within p (length packets) s c _ rs.at t.other.script rs.leads (omega arith) in
      let mc = rc.made in
      let ms = rs.made in
      let few : length t.own.script + length t.other.script ≤ most_entries = omega (arith, nc, ns, tc, ts, mc, ms, all, their_all, lc, ls) in
      let lt : nat_lt most_entries (length t.own.script + length t.other.script) ≡ false = not_lt most_entries (length t.own.script + length t.other.script) few in
      let mine : IsOrdered c = record { places = hc.rising; numbers = hc.numbers } in
      let theirs : IsOrdered s = record { places = hs.rising; numbers = hs.numbers } in
      let fits : BothFit p (length packets) c s (scripts_of t) = (
        (rc.at.state, follows_fits p (length packets) c s mine theirs (omega (arith, ls)) Client t.own.script rc.at.state (rc.at, rc.leads, rc.made ∙ all, refl)),
        (rs.at.state, follows_fits p (length packets) s c theirs mine (omega (arith, lc)) Server t.other.script rs.at.state (rs.at, rs.leads, rs.made ∙ their_all, refl)),
      ) in
      (ap proposed_by done ∙ rw lt refl, (((rc.entries, rs.entries), few), fits))

-- ---- each first copy is explained once

-- so many are explained, or none is left
abbrev Counts : List FirstCopy → List FirstCopy → Pass → ℕ → Type 0
Counts c s t n = (t.made + t.answered ≡ n) ⊎ ((length c ≤ t.made) × (length s ≤ t.answered))

none_left : (xs : List FirstCopy) (i : ℕ) → slice_get xs i ≡ None → length xs ≤ i
none_left xs i h =
    elim (dec_lt i (length xs)) [
      | yes y ↦ absurd (let f = slice_get_some xs i y in let g = f.1 in cc)
      | no y ↦ omega (arith, y)
    ]

client_counts : (c s : List FirstCopy) (t t' : Pass) (q n : ℕ) (o : Option Built) → Counts c s t n → client_goes t q o ≡ Ok t' → Counts c s t' (suc n)
client_counts c s t t' q n o h g = grind arith

server_counts : (c s : List FirstCopy) (t t' : Pass) (q n : ℕ) (o : Option Built) → Counts c s t n → server_goes t q o ≡ Ok t' → Counts c s t' (suc n)
server_counts c s t t' q n o h g = grind arith

one_counts : (c s : List FirstCopy) (t t' : Pass) (n : ℕ) → Counts c s t n → (a b : Option FirstCopy) → slice_get c t.made ≡ a → slice_get s t.answered ≡ b → copy_goes c s t (first_of a b) ≡ Ok t' → Counts c s t' (suc n)
one_counts c s t t' n r None None x y h = (let z : t ≡ t' = cc in subst (λ (k : Pass). Counts c s k (suc n)) z (inr (none_left c t.made x, none_left s t.answered y)))
one_counts c s t t' n r (Some d) None x y h = client_counts c s t t' d.place n _ r h
one_counts c s t t' n r None (Some d) x y h = server_counts c s t t' d.place n _ r h
one_counts c s t t' n r (Some d) (Some f) x y h = by (nat_lt d.place f.place) h
  where
    by : (l : Bool) → copy_goes c s t (Some (if l then record { side = Client; copy = d } else record { side = Server; copy = f })) ≡ Ok t' → Counts c s t' (suc n)
    by true h = client_counts c s t t' d.place n _ r h
    by false h = server_counts c s t t' f.place n _ r h

passes_count : (p : Parameters) (c s : List FirstCopy) (k : ℕ) (t : Pass) → passes p c s k ≡ Ok t → Counts c s t k
passes_count p c s zero t h = (let z : first_pass p ≡ t = cc in subst (λ (y : Pass). Counts c s y 0) z (inl refl))
passes_count p c s (suc k) t h = then_by k t (passes p c s k) refl h (λ u e. passes_count p c s k u e)
  where
    then_by : (k : ℕ) (t : Pass) (r : Result Pass ℕ) → passes p c s k ≡ r → pass_on r (one_more c s) ≡ Ok t → ((u : Pass) → passes p c s k ≡ Ok u → Counts c s u k) → Counts c s t (suc k)
    then_by k t (Err q) e h rest = absurd (cc)
    then_by k t (Ok u) e h rest = one_counts c s u t k (rest u e) (slice_get c u.made) (slice_get s u.answered) refl refl h

-- as many steps as both lists have members go through both
gone_through : (c s : List FirstCopy) (t : Pass) → t.made ≤ length c → t.answered ≤ length s → Counts c s t (all_copies c s) → (t.made ≡ length c) × (t.answered ≡ length s)
gone_through c s t h g k = grind arith

-- ---- the proposal

-- what is proposed for sent lists fits, or nothing is found at a place
pub proposal_fits : (p : Parameters) (packets : ℕ) (c s : List FirstCopy) → AreSentLists p packets c s → IsProposal p packets c s (proposal p c s)
proposal_fits p packets c s crossing = subst (λ n. IsProposal p n c s (proposal p c s)) crossing.1 (by (passes p c s (all_copies c s)) refl)
  where
    by : (r : Result Pass ℕ) → passes p c s (all_copies c s) ≡ r → IsProposal p (length crossing.0) c s (proposal p c s)
    by (Err q) e = subst (λ (o : Result Scripts Fault). IsProposal p (length crossing.0) c s o) (sym (ap proposed_by e)) (_, refl)
    by (Ok t) e =
        let k = crossing.2.sent in
        let valid = crossing.2.valid.valid in
        let hc = to_record p crossing.0 Client c valid k.client_sent in
        let hs = to_record p crossing.0 Server s valid k.server_sent in
        let fr = passes_front p crossing.0 c s hc hs (all_copies c s) t e in
        let g = gone_through c s t (fr.most Client) (fr.most Server) (passes_count p c s (all_copies c s) t e) in
        let f = passed_fits p crossing.0 c s hc hs k.few_packets k.few_client k.few_server t e g.0 g.1 in
        subst (λ (o : Result Scripts Fault). IsProposal p (length crossing.0) c s o) (sym f.0) f.1
