-- The proposal is complete.
use Rattle.std.proofs.Common.{◌≡◌, ℕ, List, length, Result, Err, refl, ap, sym, arith, subst, ⊎_elim}
use Rattle.rasta_build.proofs.Prelude.{fault_at, no_memory, not_found, Fault, Client, Server, Packet, Parameters, Scripts, FirstCopy, Sent, OfConnection, to_record, CanCross}
use Rattle.rasta_build.proofs.Prelude.{proposal}
use Rattle.rasta_build.specs.Completeness.{IsExplained, IsAnswer, IsComplete}
use Rattle.rasta_build.proofs.Passes.{explained, finds_none}
use Rattle.rasta_build.proofs.Place.{exact}
use Rattle.rasta_build.proofs.Proposals.{passed_fits}

-- ---- what a run sent is explained

pub explains : (p : Parameters) → OfConnection p → (packets : List Packet) (c s : List FirstCopy) → Sent p packets Client c → Sent p packets Server s → CanCross p packets
    → IsExplained p (length packets) c s (proposal p c s)
explains p conn packets c s hc0 hs0 x =
    let valid = conn.valid in
    let hc = to_record p packets Client c valid hc0 in
    let hs = to_record p packets Server s valid hs0 in
    let d = explained p valid packets c s hc hs x.worlds x.last x.reached x.crossed x.bounded.pdus (x.bounded.client_clock, x.bounded.server_clock) in
    let crossed = ap (λ (k : List Packet). length k) x.crossed in
    let most = x.bounded.packets in
    let f = passed_fits p packets c s hc hs (omega (arith, most, crossed)) d.4 d.5 d.0 d.1 d.2 d.3 in
    subst (λ (o : Result Scripts Fault). IsExplained p (length packets) c s o) (sym f.0) f.1

-- ---- the theorem

-- the proposal is complete
pub complete : (p : Parameters) (c s : List FirstCopy) → OfConnection p → IsComplete p c s (proposal p c s)
complete p c s conn = record {
  explains = λ packets hc hs x. explains p conn packets c s hc hs x;
  finds_none = λ packets rest place hc hs h x. finds_none p conn packets rest c s place hc hs h x;
  exact = λ packets place n recorded hc hs most lc ls h. exact p conn packets c s place n recorded hc hs most lc ls h;
}

not_memory : (place : ℕ) (r : Result Scripts Fault) → r ≡ Err no_memory → r ≡ Err (fault_at not_found place) → ⊥
not_memory place r h k = (let e : no_memory ≡ fault_at not_found place = cc in let n : no_memory.number ≡ not_found = ap (λ (f : Fault). f.number) e in omega (arith, n))

-- so is a lack of memory
memory_complete : (p : Parameters) (c s : List FirstCopy) → IsComplete p c s (Err no_memory)
memory_complete p c s = record {
  explains = λ packets hc hs x. refl;
  finds_none = λ packets rest place hc hs h x. not_memory place (Err no_memory) refl h;
  exact = λ packets place n recorded hc hs most lc ls h. absurd (not_memory place (Err no_memory) refl h);
}

-- and so each answer
pub answer_complete : (p : Parameters) (c s : List FirstCopy) (answer : Result Scripts Fault) → OfConnection p → IsAnswer p c s answer → IsComplete p c s answer
answer_complete p c s answer conn a = ⊎_elim
    (λ (m : answer ≡ Err no_memory). subst (λ (o : Result Scripts Fault). IsComplete p c s o) (sym m) (memory_complete p c s))
    (λ (m : answer ≡ proposal p c s). subst (λ (o : Result Scripts Fault). IsComplete p c s o) (sym m) (complete p c s conn))
    a
