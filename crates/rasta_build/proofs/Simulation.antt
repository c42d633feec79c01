-- Along a run, the pass explains each first copy that crosses.
use Rattle.std.proofs.Common.{◌≡◌, ℕ, suc, ◌+◌, ◌^◌, ◌<◌, ◌≤◌, List, [], ◌∷◌, ◌++◌, length, Option, Some, Result, Ok, slice_get, refl, ap, sym, ◌∙◌, arith, subst, ⊎_elim}
use Rattle.rasta_build.proofs.Prelude.{Side, Client, Server, Packet, Parameters, AreParameters, FirstCopy, Station, IsSent, Sends, sends_count, Built, SidedCopy, first_of, explain}
use Rattle.rasta_build.proofs.Prelude.{Pass, one_more, pass_on, passes, copy_goes, client_goes, server_goes, Begins}
use Rattle.std.proofs.lemmas.List.{length_push}
use Rattle.rasta_check.specs.Model.World.{World, Step, side_moves, end_of, KeepsLimit, KeepsRange}
use Rattle.rasta_check.proofs.Lists.{get_push}
use Rattle.rasta_check.proofs.Capture.FirstCopies.{sent_once}
use Rattle.rasta_check.proofs.Model.Steps.{base_small, start_base}
use Rattle.rasta_check.proofs.Model.InvariantOfRuns.{All}
use Rattle.rasta_check.proofs.Script.ScriptsOfRuns.{Both}
use Rattle.rasta_build.proofs.SentLists.{begun_get, begun_next}
use Rattle.rasta_build.proofs.Moves.{FollowsAt, Stays, MadeOne, Stands, moved}

-- the pass has come as far as the run
pub record Keeps (p : Parameters) (c s own peer : List FirstCopy) (w : World) : Type 0 where
  pub pass : Pass
  pub done : passes p c s (length own + length peer) ≡ Ok pass
  pub made : pass.made ≡ length own
  pub answered : pass.answered ≡ length peer
  pub client : FollowsAt p Client w.client.state w.client.mark w.server.state.made s pass.own
  pub server : FollowsAt p Server w.server.state w.server.mark w.client.state.made c pass.other

-- the client's copy is the next
client_next : (a b : Option FirstCopy) (copy : FirstCopy) → a ≡ Some copy → ((d : FirstCopy) → b ≡ Some d → copy.place < d.place) → first_of a b ≡ Some (record { side = Client; copy = copy })
client_next a b copy h g = grind arith

server_next : (a b : Option FirstCopy) (copy : FirstCopy) → b ≡ Some copy → ((d : FirstCopy) → a ≡ Some d → copy.place < d.place) → first_of a b ≡ Some (record { side = Server; copy = copy })
server_next a b copy h g = grind arith

client_one : (c s : List FirstCopy) (t : Pass) (copy : FirstCopy) (b : Built) → first_of (slice_get c t.made) (slice_get s t.answered) ≡ Some (record { side = Client; copy = copy }) → explain s copy.place copy.pdu.safety t.own ≡ Some b
    → one_more c s t ≡ Ok (record t { made = suc t.made; own = b })
client_one c s t copy b h g = ap (λ (o : Option SidedCopy). copy_goes c s t o) h ∙ ap (λ (o : Option Built). client_goes t copy.place o) g

server_one : (c s : List FirstCopy) (t : Pass) (copy : FirstCopy) (b : Built) → first_of (slice_get c t.made) (slice_get s t.answered) ≡ Some (record { side = Server; copy = copy }) → explain c copy.place copy.pdu.safety t.other ≡ Some b
    → one_more c s t ≡ Ok (record t { answered = suc t.answered; other = b })
server_one c s t copy b h g = ap (λ (o : Option SidedCopy). copy_goes c s t o) h ∙ ap (λ (o : Option Built). server_goes t copy.place o) g

pass_more : (p : Parameters) (c s : List FirstCopy) (n m : ℕ) (t t' : Pass) → m ≡ suc n → passes p c s n ≡ Ok t → one_more c s t ≡ Ok t' → passes p c s m ≡ Ok t'
pass_more p c s n m t t' e h g = ap (λ k. passes p c s k) e ∙ (ap (λ (r : Result Pass ℕ). pass_on r (one_more c s)) h ∙ g)

-- ---- a world and the next

-- a world within the limits is one of which the laws on runs speak
pub in_range : (p : Parameters) (w : World) → KeepsLimit p w → KeepsRange p w
in_range p w within side = omega (arith, within side)

-- how many PDUs an end made within the limits, with a quiet one
pub few_made : (p : Parameters) (w : World) → KeepsLimit p w → (side : Side) → length (end_of w side).made ≤ 1000001
few_made p w within side = omega (arith, within side, start_base p.quiet side, base_small p.quiet)

stands_client : (p : Parameters) (w : World) → All w.client w.server → KeepsLimit p w → (g : Both p Client Server w.crossed w.client w.server) → Stands p Client Server w.crossed w.client w.server g.own g.peer
stands_client p w h b g = (let few = few_made p w b in record {
  sends = g.sends;
  their_sends = g.their_sends;
  clock = (let t = g.told in let z = t.state in t.clock);
  based = (let t = g.told in let z = t.mark in omega (arith, z));
  held = h.mine.held;
  their_held = h.theirs.held;
  values = h.mine.values;
  few = few Client;
  their_few = few Server;
})

stands_server : (p : Parameters) (w : World) → All w.client w.server → KeepsLimit p w → (g : Both p Client Server w.crossed w.client w.server) → Stands p Server Client w.crossed w.server w.client g.peer g.own
stands_server p w h b g = (let few = few_made p w b in record {
  sends = g.their_sends;
  their_sends = g.sends;
  clock = (let t = g.their_told in t.clock);
  based = (let t = g.their_told in let z = t.mark in omega (arith, z));
  held = h.theirs.held;
  their_held = h.mine.held;
  values = h.theirs.values;
  few = few Server;
  their_few = few Client;
})

pub few_list : (p : Parameters) (s : Side) (xs : List Packet) (own : List FirstCopy) (w : Station) → Sends p s xs own w.state w.first_number → length w.state.made ≤ 1000001 → length own < 4294967296
few_list p s xs own w h l = (let c = sends_count p s xs own w.state w.first_number h in omega (arith, c, l))

module _ (p : Parameters) (valid : AreParameters p) (c s : List FirstCopy) (v w : World) (gv : Both p Client Server v.crossed v.client v.server) (gw : Both p Client Server w.crossed w.client w.server)
    (hv : All v.client v.server) (hw : All w.client w.server) (bv : KeepsLimit p v) (bw : KeepsLimit p w) (clocks : (w.client.state.clock < 2 ^ 64) × (w.server.state.clock < 2 ^ 64))
    (cv : Begins c gv.own (length v.crossed)) (sv : Begins s gv.peer (length v.crossed)) (cw : Begins c gw.own (length w.crossed)) (sw : Begins s gw.peer (length w.crossed)) (k : Keeps p c s gv.own gv.peer v) where
  -- where nothing was made, the lists are the same
  same_lists : (own peer : List FirstCopy) → IsSent p w.crossed Client own → IsSent p w.crossed Server peer → (gw.own ≡ own) × (gw.peer ≡ peer)
  same_lists own peer ho hp =
      let few = few_made p w bw in (
        sent_once p w.crossed Client gw.own own gw.sends.sent ho (few_list p Client w.crossed gw.own w.client gw.sends (few Client)),
        sent_once p w.crossed Server gw.peer peer gw.their_sends.sent hp (few_list p Server w.crossed gw.peer w.server gw.their_sends (few Server)),
      )

  moved_lists : (own peer : List FirstCopy) → (gw.own ≡ own) × (gw.peer ≡ peer) → Keeps p c s own peer w → Keeps p c s gw.own gw.peer w
  moved_lists own peer e h = subst (λ (o : List FirstCopy). Keeps p c s o gw.peer w) (sym e.0) (subst (λ (q : List FirstCopy). Keeps p c s own q w) (sym e.1) h)

  abbrev After : List FirstCopy → List FirstCopy → Type 0
  After own peer = Keeps p c s own peer w

  -- the client made one
  client_made : (st : w.server ≡ v.server) → MadeOne p Client Server v.crossed w.crossed w.client v.server gv.own gv.peer c s k.pass.own k.pass.other → Keeps p c s gw.own gw.peer w
  client_made st m =
      let own : List FirstCopy = gv.own ++ m.copy ∷ [] in
      let same = same_lists own gv.peer m.sent m.their_sent in
      let here : slice_get own (length gv.own) ≡ Some m.copy = get_push gv.own m.copy in
      let here' : slice_get gw.own (length gv.own) ≡ Some m.copy = subst (λ (o : List FirstCopy). slice_get o (length gv.own) ≡ Some m.copy) (sym same.0) here in
      let next : slice_get c k.pass.made ≡ Some m.copy = ap (λ n. slice_get c n) k.made ∙ begun_get c gw.own (length w.crossed) (length gv.own) m.copy cw here' in
      let pl = m.place in
      let lo = m.longer in
      let others : (d : FirstCopy) → slice_get s k.pass.answered ≡ Some d → m.copy.place < d.place = λ d g. (
      let at : slice_get s (length gw.peer) ≡ Some d = ap (λ (q : List FirstCopy). slice_get s (length q)) same.1 ∙ (ap (λ n. slice_get s n) (sym k.answered) ∙ g) in
      let z = begun_next s gw.peer (length w.crossed) d sw at in omega (arith, z, pl, lo)) in
      let f = client_next (slice_get c k.pass.made) (slice_get s k.pass.answered) m.copy next others in
      let one = client_one c s k.pass m.copy m.built f m.explained in
      let len = length_push gv.own m.copy in
      moved_lists own gv.peer same (record {
        pass = record k.pass { made = suc k.pass.made; own = m.built };
        done = pass_more p c s (length gv.own + length gv.peer) (length own + length gv.peer) k.pass (record k.pass { made = suc k.pass.made; own = m.built }) (omega (arith, len)) k.done one;
        made = (let z = k.made in omega (arith, z, len));
        answered = k.answered;
        client = subst (λ (z : Station). FollowsAt p Client w.client.state w.client.mark z.state.made s m.built) (sym st) m.mine;
        server = subst (λ (z : Station). FollowsAt p Server z.state z.mark w.client.state.made c k.pass.other) (sym st) m.theirs;
      })

  client_stays : (st : w.server ≡ v.server) → Stays p Client Server w.crossed w.client v.server gv.own gv.peer c s k.pass.own k.pass.other → Keeps p c s gw.own gw.peer w
  client_stays st m =
      let same = same_lists gv.own gv.peer m.sent m.their_sent in
      moved_lists gv.own gv.peer same (record {
        pass = k.pass;
        done = k.done;
        made = k.made;
        answered = k.answered;
        client = subst (λ (z : Station). FollowsAt p Client w.client.state w.client.mark z.state.made s k.pass.own) (sym st) m.mine;
        server = subst (λ (z : Station). FollowsAt p Server z.state z.mark w.client.state.made c k.pass.other) (sym st) m.theirs;
      })

  server_made : (st : w.client ≡ v.client) → MadeOne p Server Client v.crossed w.crossed w.server v.client gv.peer gv.own s c k.pass.other k.pass.own → Keeps p c s gw.own gw.peer w
  server_made st m =
      let peer : List FirstCopy = gv.peer ++ m.copy ∷ [] in
      let same = same_lists gv.own peer m.their_sent m.sent in
      let here : slice_get peer (length gv.peer) ≡ Some m.copy = get_push gv.peer m.copy in
      let here' : slice_get gw.peer (length gv.peer) ≡ Some m.copy = subst (λ (o : List FirstCopy). slice_get o (length gv.peer) ≡ Some m.copy) (sym same.1) here in
      let next : slice_get s k.pass.answered ≡ Some m.copy = ap (λ n. slice_get s n) k.answered ∙ begun_get s gw.peer (length w.crossed) (length gv.peer) m.copy sw here' in
      let pl = m.place in
      let lo = m.longer in
      let others : (d : FirstCopy) → slice_get c k.pass.made ≡ Some d → m.copy.place < d.place = λ d g. (
      let at : slice_get c (length gw.own) ≡ Some d = ap (λ (q : List FirstCopy). slice_get c (length q)) same.0 ∙ (ap (λ n. slice_get c n) (sym k.made) ∙ g) in
      let z = begun_next c gw.own (length w.crossed) d cw at in omega (arith, z, pl, lo)) in
      let f = server_next (slice_get c k.pass.made) (slice_get s k.pass.answered) m.copy next others in
      let one = server_one c s k.pass m.copy m.built f m.explained in
      let len = length_push gv.peer m.copy in
      moved_lists gv.own peer same (record {
        pass = record k.pass { answered = suc k.pass.answered; other = m.built };
        done = pass_more p c s (length gv.own + length gv.peer) (length gv.own + length peer) k.pass (record k.pass { answered = suc k.pass.answered; other = m.built }) (omega (arith, len)) k.done one;
        made = k.made;
        answered = (let z = k.answered in omega (arith, z, len));
        client = subst (λ (z : Station). FollowsAt p Client z.state z.mark w.server.state.made s k.pass.own) (sym st) m.theirs;
        server = subst (λ (z : Station). FollowsAt p Server w.server.state w.server.mark z.state.made c m.built) (sym st) m.mine;
      })

  server_stays : (st : w.client ≡ v.client) → Stays p Server Client w.crossed w.server v.client gv.peer gv.own s c k.pass.other k.pass.own → Keeps p c s gw.own gw.peer w
  server_stays st m =
      let same = same_lists gv.own gv.peer m.their_sent m.sent in
      moved_lists gv.own gv.peer same (record {
        pass = k.pass;
        done = k.done;
        made = k.made;
        answered = k.answered;
        client = subst (λ (z : Station). FollowsAt p Client z.state z.mark w.server.state.made s k.pass.own) (sym st) m.theirs;
        server = subst (λ (z : Station). FollowsAt p Server w.server.state w.server.mark z.state.made c k.pass.other) (sym st) m.mine;
      })

-- a step keeps it
pub step_keeps : (p : Parameters) (valid : AreParameters p) (c s : List FirstCopy) (v w : World) → Step p v w → (gv : Both p Client Server v.crossed v.client v.server) (gw : Both p Client Server w.crossed w.client w.server)
    → All v.client v.server → All w.client w.server → KeepsLimit p v → KeepsLimit p w → (w.client.state.clock < 2 ^ 64) × (w.server.state.clock < 2 ^ 64)
    → Begins c gv.own (length v.crossed) → Begins s gv.peer (length v.crossed) → Begins c gw.own (length w.crossed) → Begins s gw.peer (length w.crossed) → Keeps p c s gv.own gv.peer v → Keeps p c s gw.own gw.peer w
step_keeps p valid c s v w (side_moves {a = a} {after = ys} Client m) gv gw hv hw bv bw clocks cv sv cw sw k =
    let few = few_made p w bw in
    let st = stands_client p v hv bv gv in
    ⊎_elim
    (λ (y : Stays p Client Server ys a v.server gv.own gv.peer c s k.pass.own k.pass.other). client_stays p valid c s v w gv gw hv hw bv bw clocks cv sv cw sw k refl y)
    (λ (y : MadeOne p Client Server v.crossed ys a v.server gv.own gv.peer c s k.pass.own k.pass.other). client_made p valid c s v w gv gw hv hw bv bw clocks cv sv cw sw k refl y)
    (moved p Client Server v.crossed ys v.client a v.server gv.own gv.peer c s k.pass.own k.pass.other valid refl (λ e. cc (e)) m st (few Client) hw.mine.values clocks.0 sv k.client k.server)
step_keeps p valid c s v w (side_moves {a = a} {after = ys} Server m) gv gw hv hw bv bw clocks cv sv cw sw k =
    let few = few_made p w bw in
    let st = stands_server p v hv bv gv in
    ⊎_elim
    (λ (y : Stays p Server Client ys a v.client gv.peer gv.own s c k.pass.other k.pass.own). server_stays p valid c s v w gv gw hv hw bv bw clocks cv sv cw sw k refl y)
    (λ (y : MadeOne p Server Client v.crossed ys a v.client gv.peer gv.own s c k.pass.other k.pass.own). server_made p valid c s v w gv gw hv hw bv bw clocks cv sv cw sw k refl y)
    (moved p Server Client v.crossed ys v.server a v.client gv.peer gv.own s c k.pass.other k.pass.own valid refl (λ e. cc (e)) m st (few Server) hw.theirs.values clocks.1 cv k.server k.client)
