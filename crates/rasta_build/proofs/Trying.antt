-- What completeness asks of an answer, tried on one that gives up, and on two that name a place.
use Rattle.std.proofs.Common.{◌≡◌, ℕ, ◌+◌, ◌<◌, ◌≤◌, List, [], length, Err, None, refl, ap, arith}
use Rattle.rasta_build.proofs.Prelude.{fault_at, no_memory, not_found, Fault, Side, Client, Server, Parameters, Packet, start_of, FirstCopy, Sent, CanCross}
use Rattle.rasta_check.specs.Capture.SentLists.{CrossRecorded}
use Rattle.rasta_check.specs.Model.Theorem.{most_packets}
use Rattle.rasta_check.specs.Model.World.{first_world, end_of, begins, most_sent}
use Rattle.rasta_build.specs.Completeness.{IsBounded, IsComplete}

-- where nothing crossed, nothing was sent
nothing_sent : (p : Parameters) (side : Side) → Sent p [] side []
nothing_sent p side = record {
  list = record {
    carried = λ i copy h. absurd (cc);
    in_order = λ i copy next h k. absurd (cc);
    first = λ i copy h. absurd (cc);
    all = λ place packet pdu h of_side spelled new. absurd (cc);
  };
  copies = λ place packet h of_side. absurd (cc);
  numbers = λ i start copy h k. absurd (cc);
}

-- the run that sends nothing is within the limits
starts_few : (p : Parameters) → p.quiet ≡ None → (side : Side) → length (end_of (first_world p 0 0) side).made ≤ (start_of p side).base + most_sent
starts_few p h side = grind arith

starts_within : (p : Parameters) → p.quiet ≡ None → IsBounded p (first_world p 0 0)
starts_within p none = record {
  packets = omega arith;
  pdus = starts_few p none;
  client_clock = rw none (omega arith);
  server_clock = rw none (omega arith);
}

-- so nothing can cross
nothing_crosses : (p : Parameters) → p.quiet ≡ None → CanCross p []
nothing_crosses p none = record { worlds = []; last = first_world p 0 0; reached = begins 0 0; crossed = refl; bounded = starts_within p none }

-- an answer that gives up at the first packet, where nothing crossed, isn't complete
pub gives_up_always : (p : Parameters) → p.quiet ≡ None → IsComplete p [] [] (Err (fault_at not_found 1)) → ⊥
gives_up_always p none complete =
    let e : fault_at not_found 1 ≡ no_memory = complete.explains [] (nothing_sent p Client) (nothing_sent p Server) (nothing_crosses p none) in
    let n : not_found ≡ 1 = ap (λ (x : Fault). x.number) e in
    omega arith

-- complete answers that find nothing name one place
pub one_place : (p : Parameters) (packets : List Packet) (c s : List FirstCopy) (m n : ℕ) → CrossRecorded p packets → Sent p packets Client c → Sent p packets Server s
    → length packets ≤ most_packets → length c ≤ most_sent → length s ≤ most_sent
    → IsComplete p c s (Err (fault_at not_found m)) → IsComplete p c s (Err (fault_at not_found n)) → m ≡ n
one_place p packets c s m n recorded hc hs most lc ls a b = omega (arith, below, above)
  where
    below : m < n → ⊥
    below l = (let z : m < m = (a.exact packets m m recorded hc hs most lc ls refl).0 ((b.exact packets n m recorded hc hs most lc ls refl).1 l) in omega (arith, z))

    above : n < m → ⊥
    above l = (let z : n < n = (b.exact packets n n recorded hc hs most lc ls refl).0 ((a.exact packets m n recorded hc hs most lc ls refl).1 l) in omega (arith, z))
