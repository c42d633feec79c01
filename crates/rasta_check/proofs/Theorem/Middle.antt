-- What packets of a run show that begin and end anywhere: the positions that their SNs name, and what was handed up.
use Rattle.std.proofs.Common.{◌≡◌, ℕ, suc, ◌+◌, ◌<◌, ◌≤◌, ◌%◌, ◌^◌, true, false, List, length, Some, slice_get, refl, ap, sym, ◌∙◌, arith, ⊎_elim, subst}
use Rattle.rasta_check.proofs.Prelude.{slice_get_within, Side, Packet, Parameters, Kind, ConnectionRequest, Data, RetransmittedData, is_kind, carries_unit, SafetyPdu, messages_in, Made, EndState, contents, content_of, wrapped, first_sn}
use Rattle.rasta_check.proofs.Prelude.{FirstCopy, AreParameters, World, station_of, end_of, other_side, Reaches, KeepsRange, map_at, slice_get_some}
use Rattle.rasta_pdu.specs.Messages.{messages_of}
use Rattle.rasta_check.specs.Capture.SentLists.{IsCarried}
use Rattle.rasta_check.specs.Model.Settled.{is_settled, ends_burst, data_through, SettlesAt}
use Rattle.rasta_check.specs.Model.Settled.{plain as at_plain, ended as at_ended, again as at_again}
use Rattle.rasta_check.specs.Model.Theorem.{HandsUpUnits}
use Rattle.rasta_check.specs.Model.Middle.{CrossAt, Settles, plain, ended, again, DataBehind, none_behind, one_behind, OwnLag, fresh, resent, Shows, IsUnit, HasHandedUpBefore}
use Rattle.rasta_check.proofs.Capture.FaultlessLists.{IsSent, read_once}
use Rattle.rasta_check.proofs.Model.NamedPositions.{Numbered, SnIs, numbered_once, sn_mod}
use Rattle.rasta_check.proofs.Model.ConveyedUnits.{values}
use Rattle.rasta_check.proofs.Model.Settled.{settled_at, data_more, data_at}
use Rattle.rasta_check.proofs.Model.HandedUnits.{Shows as ShowsUnits, messages_by_content}
use Rattle.rasta_check.proofs.Model.History.{made_at}
use Rattle.rasta_check.proofs.Model.Steps.{base}
use Rattle.rasta_check.proofs.Script.ScriptsOfRuns.{Both, told_by}
use Rattle.rasta_check.proofs.Theorem.SentRuns.{Known, known, made_count, shown_then, handed_then, hands_up}

-- ---- captured PDUs and positions

-- a captured PDU is that of a position of its end
pub record HasPosition (ms : List Made) (copy : FirstCopy) : Type 0 where
  pub position : ℕ
  pub m : Made
  pub there : slice_get ms position ≡ Some m
  pub same : m.pdu ≡ copy.pdu.safety

sn_there : (ms : List Made) (copy : FirstCopy) (o : HasPosition ms copy) (sn : ℕ) → copy.pdu.safety.sn ≡ sn → SnIs ms o.position sn
sn_there ms copy o sn e = record { m = o.m; there = o.there; same = ap (λ (x : SafetyPdu). x.sn) o.same ∙ e }

module _ (ms : List Made) (few : length ms ≤ 2147483648) (h : Numbered ms) where
  -- an SN, as it follows from its position
  abbrev SnAt : ℕ → ℕ → Type 0
  SnAt i sn = (i < length ms) × (sn % 2 ^ 32 ≡ (first_sn ms + i) % 2 ^ 32)

  sn_at : (i sn : ℕ) → SnIs ms i sn → SnAt i sn
  sn_at i sn x = (slice_get_within ms i x.m x.there, sn_mod ms i sn h x)

  -- the position of the next SN
  next_position : (i j sn : ℕ) → SnIs ms i (wrapped (suc sn)) → SnIs ms j sn → i ≡ suc j
  next_position i j sn x y = (let a = sn_at i (wrapped (suc sn)) x in let b = sn_at j sn y in omega (arith, few, a.0, a.1, b.0, b.1))

  module _ (p : Parameters) (packets : List Packet) (side : Side) (own : (copy : FirstCopy) → IsCarried p packets side copy → HasPosition ms copy) where
    -- the PDU behind a position is the captured one with the next SN
    next_there : (j sn : ℕ) (copy : FirstCopy) (c : IsCarried p packets side copy) → SnIs ms j sn → copy.pdu.safety.sn ≡ wrapped (suc sn) → slice_get ms (suc j) ≡ Some (own copy c).m
    next_there j sn copy c s e =
        let o = own copy c in
        ap (slice_get ms) (sym (next_position o.position j sn (sn_there ms copy o (wrapped (suc sn)) e) s)) ∙ o.there

    -- what is settled by SNs is settled by positions
    pub settles_at : (j sn lag : ℕ) → SnIs ms j sn → Settles p packets side sn lag → SettlesAt ms j lag
    settles_at j sn lag s (plain copy c e l) =
        let o = own copy c in
        let there = sn_there ms copy o sn e in
        let same = numbered_once ms few h j o.position s.m there.m s.there there.there (s.same ∙ sym there.same) in
        at_plain o.m (ap (slice_get ms) same ∙ o.there) (ap (λ (x : SafetyPdu). is_settled x.kind) o.same ∙ l)
    settles_at j sn lag s (ended copy c e l) =
        let o = own copy c in
        at_ended o.m (next_there j sn copy c s e) (ap (λ (x : SafetyPdu). ends_burst x.kind) o.same ∙ l)
    settles_at j sn lag s (again {lag = less} copy c e l r) =
        let o = own copy c in
        let there = next_there j sn copy c s e in
        let next : SnIs ms (suc j) (wrapped (suc sn)) = record { m = o.m; there = there; same = ap (λ (x : SafetyPdu). x.sn) o.same ∙ e } in
        at_again o.m there (ap (λ (x : SafetyPdu). is_kind RetransmittedData x.kind) o.same ∙ l) (settles_at (suc j) (wrapped (suc sn)) less next r)

    -- data behind a position are more data up to another
    pub behind_at : (i j sn last count : ℕ) → SnIs ms i sn → SnIs ms j last → DataBehind p packets side sn last count → data_through ms i + count ≤ data_through ms j
    behind_at i j sn last count x y (none_behind l) =
        let a = sn_at i sn x in
        let b = sn_at j last y in
        let order : i ≤ j = omega (arith, l, few, a.0, a.1, b.0, b.1) in
        omega (arith, data_more ms (suc i) (suc j) (omega (arith, order)))
    behind_at i j sn last count x y (one_behind {count = fewer} copy c d z l r) =
        let o = own copy c in
        let there = sn_there ms copy o copy.pdu.safety.sn refl in
        let a = sn_at i sn x in
        let b = sn_at o.position copy.pdu.safety.sn there in
        let order : i < o.position = omega (arith, z, l, few, a.0, a.1, b.0, b.1) in
        let rest = behind_at o.position j copy.pdu.safety.sn last fewer there y r in
        omega (arith, rest, data_at ms o.position o.m o.there (ap (λ (x : SafetyPdu). is_kind Data x.kind) o.same ∙ d), data_more ms (suc i) o.position (omega (arith, order)))

-- ---- the data

fresh_settles : (k : Kind) → is_kind Data k ≡ true → (is_settled k ≡ true) × (carries_unit k ≡ true)
fresh_settles k h = grind (arith, h)

resent_carries : (k : Kind) → is_kind RetransmittedData k ≡ true → carries_unit k ≡ true
resent_carries k h = grind (arith, h)

module _ (p : Parameters) (packets : List Packet) (side : Side) (copy : FirstCopy) where
  own_carries : (lag : ℕ) → OwnLag p packets side copy lag → carries_unit copy.pdu.safety.kind ≡ true
  own_carries lag (fresh k) = (fresh_settles copy.pdu.safety.kind k).1
  own_carries lag (resent k s) = resent_carries copy.pdu.safety.kind k

  own_settles : (lag : ℕ) → IsCarried p packets side copy → OwnLag p packets side copy lag → Settles p packets side copy.pdu.safety.sn lag
  own_settles lag c (fresh k) = plain copy c refl (fresh_settles copy.pdu.safety.kind k).0
  own_settles lag c (resent k s) = s

-- ---- the run

-- the member of a sent list that a captured PDU is: its first copy crossed no later
pub record Member (places : List ℕ) (sent : List FirstCopy) (copy : FirstCopy) : Type 0 where
  pub index : ℕ
  pub first : FirstCopy
  pub there : slice_get sent index ≡ Some first
  pub place : ℕ
  pub crossed_at : slice_get places copy.place ≡ Some place
  pub no_later : first.place ≤ place
  pub same : first.pdu.safety ≡ copy.pdu.safety

module _ (p : Parameters) (valid : AreParameters p) (ws : List World) (w : World) (side : Side) (packets : List Packet) (places : List ℕ) (r : Reaches p ws w) (within : KeepsRange p w) (cross : CrossAt places packets w.crossed) where
  abbrev e : EndState
  e = end_of w side

  told : Both p side (other_side side) w.crossed (station_of w side) (station_of w (other_side side))
  told = told_by p valid ws w side r

  few : length told.own ≤ 2147483647
  few = omega (arith, made_count p side _ _ _ _ told.sends, within side)

  few_theirs : length told.peer ≤ 2147483647
  few_theirs = omega (arith, made_count p (other_side side) _ _ _ _ told.their_sends, within (other_side side))

  in_run : Known p w side told.own told.peer
  in_run = known p ws w side told.own told.peer r told.sends.sent told.their_sends.sent few few_theirs

  pub in_order : HandsUpUnits (end_of w (other_side side)) e
  in_order = hands_up p ws w side told.own told.peer r told.sends.sent told.their_sends.sent few few_theirs

  member : (s : Side) (sent : List FirstCopy) → IsSent p w.crossed s sent → (copy : FirstCopy) → IsCarried p packets s copy → Member places sent copy
  member s sent h copy c =
      let t = cross copy.place c.packet c.there in
      let q = h.copies t.0 c.packet t.2 c.of_side in
      record { index = q.0; first = q.1; there = q.2; place = t.0; crossed_at = t.1; no_later = q.3; same = ap (λ x. x.safety) (read_once p valid s q.1.pdu copy.pdu c.packet.payload q.4 c.spelled) }

  own : (copy : FirstCopy) → IsCarried p packets side copy → HasPosition e.made copy
  own copy c =
      let d = member side told.own told.sends.sent copy c in
      let m = made_at p side w.crossed told.own e _ d.index d.first told.sends d.there in
      record { position = base p + d.index; m = m.0; there = m.1; same = m.2 ∙ d.same }

  -- what is settled by SNs, of the units conveyed
  settled : (j sn lag : ℕ) → SnIs e.made j sn → Settles p packets side sn lag → (v : ℕ) × (slice_get (values e) j ≡ Some v) × (v + lag ≡ data_through e.made j)
  settled j sn lag s h =
      settled_at e in_run.all.mine.values in_run.all.mine.settled j lag (settles_at e.made in_run.few in_run.all.mine.held.list.numbered p packets side own j sn lag s h)

  module _ (data_copy proof : FirstCopy) (s : Shows p packets side data_copy proof) where
    there : HasPosition e.made data_copy
    there = own data_copy s.carried

    there_sn : SnIs e.made there.position data_copy.pdu.safety.sn
    there_sn = sn_there e.made data_copy there data_copy.pdu.safety.sn refl

    conveys : (q : ℕ) × (k : ℕ) × (there.position ≡ suc q) × (there.m.unit ≡ Some k) × (slice_get (values e) q ≡ Some k) × (slice_get (values e) there.position ≡ Some (suc k))
    conveys = in_run.all.mine.values.positions.units there.position there.m there.there (ap (λ (x : SafetyPdu). carries_unit x.kind) there.same ∙ own_carries p packets side data_copy s.own_lag s.own)

    pub unit : ℕ
    unit = conveys.1

    carries : there.m.unit ≡ Some unit
    unfolding unit
    carries = conveys.3

    pub is_unit : IsUnit e.made unit data_copy
    is_unit = record { position = there.position; m = there.m; there = there.there; same = there.same; carries = carries }

    -- more units are conveyed through the position that the proof names
    unit_below : (n : ℕ) → ShowsUnits e n proof.pdu.safety.cs → unit < n
    unfolding unit
    unit_below n z =
        let u = settled there.position data_copy.pdu.safety.sn s.own_lag there_sn (own_settles p packets side data_copy s.own_lag s.carried s.own) in
        let v = settled z.at proof.pdu.safety.cs s.lag z.named s.settled in
        let b = behind_at e.made in_run.few in_run.all.mine.held.list.numbered p packets side own there.position z.at data_copy.pdu.safety.sn proof.pdu.safety.cs s.later there_sn z.named s.behind in
        let both : Some z.units ≡ Some v.0 = sym z.conveyed ∙ v.1 in
        let one : z.units ≡ v.0 = cc in
        let both_own : Some (suc conveys.1) ≡ Some u.0 = sym conveys.5 ∙ u.1 in
        let one_own : suc conveys.1 ≡ u.0 = cc in
        omega (arith, one, one_own, z.most, v.2, u.2, b, s.enough)

    content : slice_get (contents e.made) unit ≡ Some (content_of there.m.pdu.body)
    content = (in_run.all.mine.values.contents.carried there.position there.m there.there unit carries).1

    some_offered : e.offered ≡ 0 → ⊥
    some_offered n = omega (arith, n, slice_get_within (contents e.made) unit (content_of there.m.pdu.body) content, in_run.all.mine.values.contents.counted)

    -- it was handed up by then
    pub in_time : HasHandedUpBefore ws w side places unit data_copy proof
    in_time place v next g t =
        let d = member (other_side side) told.peer told.their_sends.sent proof s.shown_by in
        let one : d.place ≡ place = (let a = d.crossed_at in let b = g in cc) in
        let y = end_of v (other_side side) in
        let named : is_kind ConnectionRequest d.first.pdu.safety.kind ≡ false = (let a = d.same in let b = s.confirms in cc) in
        let low : unit < length y.handed = ⊎_elim
        (λ (n : e.offered ≡ 0). absurd (some_offered n))
        (λ (z : ShowsUnits e (length y.handed) d.first.pdu.safety.cs). unit_below (length y.handed) (subst (λ (x : SafetyPdu). ShowsUnits e (length y.handed) x.cs) d.same z))
        (shown_then p ws w side told.own told.peer r told.sends.sent told.their_sends.sent few few_theirs d.index d.first place v next t (omega (arith, d.no_later, one)) d.there named) in
        let up = (handed_then p ws w side told.own told.peer r told.sends.sent told.their_sends.sent few few_theirs t.i v t.here).labels in
        let at = slice_get_some y.handed unit low in
        let n = up.units unit at.0 at.1 in
        let theirs = (in_run.all.mine.values.contents.carried at.0 n.0 n.1 unit n.2).1 in
        let contents_same : Some (content_of n.0.pdu.body) ≡ Some (content_of there.m.pdu.body) = sym theirs ∙ content in
        let content_same : content_of n.0.pdu.body ≡ content_of there.m.pdu.body = cc in
        map_at (λ (x : SafetyPdu). messages_in x.body) y.handed_pdus unit n.0.pdu n.3
        ∙ ap Some (messages_by_content n.0.pdu.body ∙ (ap messages_of content_same ∙ (sym (messages_by_content there.m.pdu.body) ∙ ap (λ (x : SafetyPdu). messages_in x.body) there.same)))
