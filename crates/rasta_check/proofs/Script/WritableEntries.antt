-- Entries of a script that fits have numbers that a certificate can hold.
use Rattle.std.proofs.Common.{◌≡◌, ℕ, ◌+◌, ◌<◌, ◌≤◌, ◌^◌, false, List, [], ◌∷◌, Option, Some, None, length, slice_get, refl, ap, ◌∙◌, arith}
use Rattle.rasta_check.proofs.Prelude.{not, length-map, length_push, slice_get_within, bytes_eq, Side, Packet, Kind, Parameters, SafetyPdu, Entry, Phase, Owed, Why, Made, EndState}
use Rattle.rasta_check.proofs.Prelude.{Makes, start_of, FirstCopy, ScriptCursor, takes_next, makes_next, Leads, at_start, is_kind, MakeRow, content_of, contents, row_of, Data}
use Rattle.std.proofs.lemmas.List.Sums.{count_by-le-length, length-filter}
use Rattle.std.specs.Option.{option_map_or}
use Rattle.rasta_end.specs.declared.why.Why.TheVariants.{Again}
use Rattle.rasta_end.specs.declared.make_row.MakeRow.TheVariants.{Resends}
use Rattle.rasta_cert.specs.Certificate.{AreEntries, IsReason}
use Rattle.rasta_check.proofs.Capture.FaultlessLists.{IsSent}
use Rattle.rasta_check.proofs.Model.MakeRows.{passed, made_by, Making, again}
use Rattle.rasta_check.proofs.Model.TakeRows.{take_leaves}
use Rattle.rasta_check.proofs.Model.Steps.{base, base_small, start_made, made_more}
use Rattle.rasta_check.proofs.Script.ScriptsOfRuns.{ClocksWithin}

-- ---- units of resends

length_contents : (made : List Made) → length (contents made) ≤ length made
length_contents made = simp (length-map, length-filter) (count_by-le-length (λ (n : Made). is_kind Data n.pdu.kind) made)

unit_there : (made : List Made) (unit : ℕ) (content : List ℕ) (o : Option (List ℕ)) → slice_get (contents made) unit ≡ o → not (option_map_or (λ (own : List ℕ). bytes_eq own content) o false) ≡ false → unit < length made
unit_there made unit content None e d = absurd (cc)
unit_there made unit content (Some c) e d = (let a = slice_get_within (contents made) unit c e in let b = length_contents made in omega arith)

again_row : (s : Side) (ph : Phase) (unit : ℕ) (k : Kind) (os : List Owed) (row : MakeRow) → Making s ph (Again unit) k os row → row ≡ Resends unit
again_row s ph unit k os row (again c) = refl

reason_fits : (p : Parameters) (e e' : EndState) (x : SafetyPdu) (clock : ℕ) (why : Why) → Makes p e x clock why e' → length e.made < 2 ^ 32 → IsReason why
reason_fits p e e' x clock (Again unit) mk l =
    let pass = passed p e x clock (Again unit) mk.0 in
    let m = made_by p e x clock (Again unit) pass in
    let row : row_of e x (Again unit) ≡ Some (Resends unit) = m.is ∙ ap Some (again_row e.side e.phase unit x.kind e.owed m.row m.how) in
    let w = unit_there e.made unit (content_of x.body) (slice_get (contents e.made) unit) refl (rw row at pass.same) in
    omega arith
reason_fits p e e' x clock _ mk l = tt

-- ---- entries

-- the greatest clock that a certificate can hold
abbrev pub most_clock : ℕ
most_clock = 18446744073709551615

module _ (p : Parameters) (packets : List Packet) (side other : Side) (own peer : List FirstCopy) (sent : IsSent p packets side own) (theirs : IsSent p packets other peer)
    (few : length packets ≤ 16000000) (short : length own ≤ 1000000) where
  entries_fit : (u v : ScriptCursor) (es : List Entry) → length u.state.made ≡ base p + u.made_count → Leads p (length packets) own peer u es v → ClocksWithin most_clock es → AreEntries es
  entries_fit u v [] n f h = tt
  entries_fit u v (x ∷ es) n (_, takes_next slot position c after a b g d f t, r) h =
      let w = theirs.firsts position c g in
      ((omega arith, w.3.fits.number), entries_fit _ v es (ap (λ (z : EndState). length z.made) t.1 ∙ (ap length (take_leaves p u.state c.pdu.safety).made ∙ n)) r h)
  entries_fit u v (x ∷ es) n (_, makes_next c clock why after a g mk, r) h =
      let w = sent.firsts u.made_count c g in
      let i = slice_get_within packets c.place w.0 w.1 in
      let j = slice_get_within own u.made_count c g in
      let m = made_more p u.state c.pdu.safety clock why after mk in
      let q = base_small p.quiet in
      let k = length_push u.state.made m.new in
      ((omega arith, omega (arith, h.0), reason_fits p u.state after c.pdu.safety clock why mk (omega arith)), entries_fit _ v es (ap length m.made ∙ (k ∙ omega arith)) r h.1)

  pub script_fits : (v : ScriptCursor) (es : List Entry) → Leads p (length packets) own peer (at_start (start_of p side)) es v → ClocksWithin most_clock es → AreEntries es
  script_fits v es f h = entries_fit (at_start (start_of p side)) v es (let z = start_made p.quiet side in omega arith) f h
