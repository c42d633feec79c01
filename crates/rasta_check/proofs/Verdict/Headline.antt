-- The headline of a verdict, from the theorem over runs.
use Rattle.std.specs.Prelude.{take}
use Rattle.std.proofs.lemmas.Grind.{flat_map-append}
use Rattle.std.proofs.Common.{◌≤◌, ◌≡◌, ℕ, ◌-◌, List, [], length, Ok, Some, slice_get, refl, ap, sym, ◌∙◌, arith, subst}
use Rattle.rasta_check.proofs.Prelude.{if◌then◌else◌, Side, Client, Server, Packet, Parameters, Scripts, Entry, EndState, FirstCopy, World, end_of, other_side, Reaches}
use Rattle.rasta_check.proofs.Prelude.{surely_taken, pdus_of, all_made, units_shown, units_taken, units_from, data_copies, follow, units_handed, units_listed, Crossing, IsCrossing}
use Rattle.rasta_check.proofs.Prelude.{sent_by, messages_taken, numbered_from, Explained, report_of, BothFit, shown_by, proofs_from, is_kind, ConnectionRequest}
use Rattle.rasta_check.specs.Internals.Checking.{verdict_of}
use Rattle.rasta_check.specs.Verdict.Listed.{ListedMessage, listed}
use Rattle.rasta_check.specs.Internals.Listing.{listed_by}
use Rattle.rasta_check.specs.Verdict.Headline.{HandsUpListed, Headline, IsSharp}
use Rattle.rasta_check.proofs.Capture.FaultlessLists.{IsSent}
use Rattle.rasta_check.proofs.Capture.Crossings.{few_of, list_of}
use Rattle.rasta_check.proofs.Script.FollowedScripts.{follow_fits}
use Rattle.rasta_check.proofs.Script.Fits.{fits_follows, verdict_fits}
use Rattle.rasta_check.proofs.Run.Simulation.{simulated}
use Rattle.rasta_check.proofs.Model.ConveyedUnits.{values, length-values}
use Rattle.rasta_check.proofs.Theorem.SentRuns.{Known, known, hands_up, first, proof_appended, in_time_through}
use Rattle.rasta_check.proofs.Script.CutScripts.{sharp}
use Rattle.rasta_check.proofs.Theorem.ListedUnits.{offered_first}
use Rattle.rasta_check.proofs.Theorem.JoinedMessages.{joined, up_joined, listed_joined, of_listed, message_up}
use Rattle.rasta_check.proofs.Verdict.Reports.{units_named, first_small, are_proofs, units_are}

twice : (side : Side) → other_side (other_side side) ≡ side
twice side = grind arith

-- these are the sent lists of these packets
module _ (p : Parameters) (packets : List Packet) (c s : List FirstCopy) (h : IsCrossing (record { params = p; packets = packets; client = c; server = s })) where
  abbrev k : Crossing
  k = record { params = p; packets = packets; client = c; server = s }

  -- ---- a run that sends the packets

  module _ (ws : List World) (w : World) (r : Reaches p ws w) (same : w.crossed ≡ packets) (side : Side) where
    abbrev own : List FirstCopy
    own = sent_by k side

    abbrev peer : List FirstCopy
    peer = sent_by k (other_side side)

    run_sent : (side : Side) → IsSent p w.crossed side (sent_by k side)
    run_sent side = rw same (list_of k h side)

    short : (x : Side) → length (sent_by k x) ≤ 2147483647
    short x = omega (arith, few_of k h x)

    kn : Known p w side own peer
    kn = known p ws w side own peer r (run_sent side) (run_sent (other_side side)) (short side) (short (other_side side))

    -- what a PDU of the peer shows by the end that this side reached, and by the lists
    shown : (i : ℕ) (d : FirstCopy) → slice_get peer i ≡ Some d → shown_by (end_of w side) d.pdu.safety ≡ units_shown (all_made p side own) (pdus_of peer) d.pdu.safety
    shown i d g =
        let e = end_of w side in
        let first = first_small p.quiet side e.made own kn.sends.same (λ j x y. ((list_of k h side).firsts j x y).3.fits.sn) in
        ap (λ n. if is_kind ConnectionRequest d.pdu.safety.kind then 0 else n)
        (rw (kn.along, sym kn.sends.same) (units_named e.made (values e) d.pdu.safety.cs kn.all.mine.held.list.numbered kn.few (length-values e.asks e.made) first ((list_of k h (other_side side)).firsts i d g).3.fits.cs))

    list_is : listed_by (end_of w side) own peer ≡ listed p side own peer
    list_is =
        let e = end_of w side in
        let proofs = are_proofs e (all_made p side own) peer shown in
        let count : length (proofs_from e [] peer) - 0 ≡ units_taken (all_made p side own) (pdus_of peer) = omega (arith, proofs.count) in
        ap (λ us. numbered_from 0 (messages_taken us))
        (units_are (all_made p side own) peer (proofs_from e [] peer) proofs 0 own ∙ ap (λ n. units_from (all_made p side own) peer 0 (take n (data_copies own))) count)

    -- what the peer of this side handed up
    peer_up : (list : List ListedMessage) → list ≡ listed p side own peer → HandsUpListed ws w (other_side side) list
    peer_up list is =
        let us = surely_taken p side own peer in
        let e = end_of w side in
        let f = end_of w (other_side side) in
        let up = hands_up p ws w side own peer r (run_sent side) (run_sent (other_side side)) (short side) (short (other_side side)) in
        let offered = offered_first f e up in
        let first = first p ws w side own peer r (run_sent side) (run_sent (other_side side)) (short side) (short (other_side side)) in
        record {
          labels = rw (twice side) up.labels;
          units = (offered.0, rw (twice side) offered.1);
          first = (joined first.0, rw (up_joined, first.1, is, listed_joined) (flat_map-append (λ (ms : List (List ℕ)). ms) (units_listed us) first.0));
          appended = λ i m g.
              (let o = of_listed us i m (rw is at g) in
              rw o.place (proof_appended p ws w side own peer r (run_sent side) (run_sent (other_side side)) (short side) (short (other_side side)) o.i o.u o.there));
          in_time = λ i m v next g a.
              (let o = of_listed us i m (rw is at g) in
              rw up_joined (message_up us i m.proof_place m.message o (units_handed (end_of v (other_side side))) (λ j t low gt.
              in_time_through p ws w side own peer r (run_sent side) (run_sent (other_side side)) (short side) (short (other_side side)) o.i j o.u t v next low o.there gt (rw o.place at a))));
        }

  -- ---- the lists of the report

  -- what is worked out from the ends of two scripts that fit is what is surely taken
  pub lists_are : (cs ss : List Entry) (a b : EndState) → follow p Client (length packets) c s cs ≡ Ok a → follow p Server (length packets) s c ss ≡ Ok b
      → (listed_by b s c ≡ listed p Server s c) × (listed_by a c s ≡ listed p Client c s)
  lists_are cs ss a b e f =
      let r = simulated p packets c s cs ss a b h.recorded (list_of k h Client) (list_of k h Server)
      (follow_fits p (length packets) c s Client cs a e) (follow_fits p (length packets) s c Server ss b f) in
      (rw (sym r.5) (list_is r.0 r.1 r.2 r.3 Server), rw (sym r.4) (list_is r.0 r.1 r.2 r.3 Client))

  -- the report that is worked out from both ends is the verdict
  pub verdict_of_ends : (scripts : Scripts) (n : ℕ) (cs ss : List Entry) (a b : EndState) (report : Explained) → length packets ≡ n → cs ≡ scripts.client → ss ≡ scripts.server
      → follow p Client n c s cs ≡ Ok a → follow p Server n s c ss ≡ Ok b
      → report ≡ record { packets = n; client_taken = listed_by b s c; server_taken = listed_by a c s } → verdict_of p n c s scripts ≡ Ok report
  verdict_of_ends scripts n cs ss a b report h1 h2 h3 h4 h5 h6 = grind (arith, lists_are)

  -- ---- the headline

  module _ (scripts : Scripts) (report : Explained) (e : verdict_of p (length packets) c s scripts ≡ Ok report) where
    fits : BothFit p (length packets) c s scripts × (report ≡ report_of p (length packets) c s)
    fits = verdict_fits p (length packets) c s scripts report e

    to_server : report.server_taken ≡ listed p Client c s
    to_server = ap (λ (x : Explained). x.server_taken) fits.1

    to_client : report.client_taken ≡ listed p Server s c
    to_client = ap (λ (x : Explained). x.client_taken) fits.1

    pub is_sharp : IsSharp p packets report
    is_sharp =
        let r = sharp p packets c s scripts.client scripts.server fits.0.0.0 fits.0.1.0 h.recorded (list_of k h Client) (list_of k h Server) h.sent.few_client h.sent.few_server
        (fits_follows p (length packets) c s Client scripts.client fits.0.0.0 fits.0.0.1) (fits_follows p (length packets) s c Server scripts.server fits.0.1.0 fits.0.1.1) in
        (r.0, r.1, r.2, r.3, rw (up_joined, r.4, to_server, listed_joined) refl, rw (up_joined, r.5, to_client, listed_joined) refl)

    pub headline : Headline p packets report
    headline = (let r = is_sharp in record {
      some_run = (r.0, r.1, r.2, r.3);
      every_run = λ ws w r same. (peer_up ws w r same Client report.server_taken to_server, peer_up ws w r same Server report.client_taken to_client);
    })

-- what is lent of a crossing is a crossing
pub lent : (k : Crossing) (p : Parameters) (c s : List FirstCopy) → k.params ≡ p → c ≡ k.client → s ≡ k.server → IsCrossing k
    → IsCrossing (record { params = p; packets = k.packets; client = c; server = s })
lent k p c s a b d h = subst IsCrossing (λ i. record { params = a i; packets = k.packets; client = sym b i; server = sym d i }) h
