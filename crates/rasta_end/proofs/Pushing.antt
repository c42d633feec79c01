-- An end makes one more PDU: what it keeps stays in step.
use Rattle.std.proofs.lemmas.List.{length_push}
use Rattle.std.proofs.Common.{◌≡◌, ℕ, suc, ◌+◌, ◌≤◌, Bool, true, false, List, [], ◌∷◌, ◌++◌, length, ◌<◌, Option, Some, None, slice_get, get_or, refl, ap, sym, ◌∙◌, arith, subst, zero-add}
use Rattle.std.proofs.lemmas.Option.{slice_get-map, slice_get-get_or, slice_get_past}
use Rattle.std.specs.Prelude.{map, option_map}
use Rattle.rasta_pdu.specs.Pdu.{SafetyPdu, value_of, is_kind}
use Rattle.std.specs.Borrow.{Bor}
use Rattle.rasta_pdu.specs.declared.kind.Kind.{Kind}
use Rattle.rasta_pdu.specs.declared.kind.Kind.TheVariants.{ConnectionRequest, ConnectionResponse, RetransmissionRequest, RetransmissionResponse, DisconnectionRequest, Heartbeat, Data, RetransmittedData}
use Rattle.rasta_end.specs.declared.made_pdus.MadePdu.{MadePdu}
use Rattle.rasta_end.specs.declared.made_pdus.QuietPdu.{QuietPdu}
use Rattle.rasta_end.specs.State.{Made, kinds, content_of}
use Rattle.rasta_end.specs.MakeRule.{contents}
use Rattle.rasta_end.specs.Units.{all_units_conveyed, conveyed, units_after, responses_in, responses_after}
use Rattle.rasta_end.specs.Kept.{AreOwn, made_of, made_inside, conveyed_of, quiet_made, quiet_count, quiet_units, OwnPdus}
use Rattle.rasta_end.specs.declared.made_pdus.MadePdus.TheInside.{Inside}
use Rattle.rasta_end.proofs.Conveying.{all_units-push, responses_in-push, more_asks}

append-assoc : {A : Type 0} (xs ys zs : List A) → (xs ++ ys) ++ zs ≡ xs ++ (ys ++ zs)
append-assoc [] ys zs = refl
append-assoc (x ∷ xs) ys zs = ap (λ ws. x ∷ ws) (append-assoc xs ys zs)

map-push : {A B : Type 0} (f : A → B) (xs : List A) (x : A) → map f (xs ++ x ∷ []) ≡ map f xs ++ f x ∷ []
map-push f [] x = refl
map-push f (y ∷ ys) x = ap (λ ws. f y ∷ ws) (map-push f ys x)

pub made-push : (q : Option QuietPdu) (ms : List MadePdu) (m : MadePdu)
    → quiet_made q ++ map made_of (ms ++ m ∷ []) ≡ (quiet_made q ++ map made_of ms) ++ made_of m ∷ []
made-push q ms m = ap (λ ws. quiet_made q ++ ws) (map-push made_of ms m) ∙ sym (append-assoc (quiet_made q) (map made_of ms) (made_of m ∷ []))

pub kinds-push : (ms : List Made) (m : Made) → kinds (ms ++ m ∷ []) ≡ kinds ms ++ m.pdu.kind ∷ []
kinds-push ms m = map-push (λ (n : Made). n.pdu.kind) ms m

units-pushed : (q : Option QuietPdu) (ms : List MadePdu) (m : MadePdu) (asks : List ℕ)
    → quiet_units q ++ map conveyed_of ms ≡ all_units_conveyed asks (kinds (quiet_made q ++ map made_of ms))
    → m.conveyed ≡ units_after asks (all_units_conveyed asks (kinds (quiet_made q ++ map made_of ms))) (conveyed asks (kinds (quiet_made q ++ map made_of ms))).responses (made_of m).pdu.kind
    → quiet_units q ++ map conveyed_of (ms ++ m ∷ []) ≡ all_units_conveyed asks (kinds (quiet_made q ++ map made_of (ms ++ m ∷ [])))
units-pushed q ms m asks h e =
    ap (λ ws. quiet_units q ++ ws) (map-push conveyed_of ms m)
    ∙ (sym (append-assoc (quiet_units q) (map conveyed_of ms) (m.conveyed ∷ []))
    ∙ (ap (λ ws. ws ++ m.conveyed ∷ []) h
    ∙ (ap (λ n. all_units_conveyed asks (kinds (quiet_made q ++ map made_of ms)) ++ n ∷ []) e
    ∙ (sym (all_units-push asks (kinds (quiet_made q ++ map made_of ms)) (made_of m).pdu.kind)
    ∙ ap (all_units_conveyed asks) (sym (kinds-push (quiet_made q ++ map made_of ms) (made_of m)) ∙ ap kinds (sym (made-push q ms m)))))))

responses-pushed : (q : Option QuietPdu) (ms : List MadePdu) (m : MadePdu)
    → responses_in (kinds (quiet_made q ++ map made_of (ms ++ m ∷ []))) ≡ responses_after (responses_in (kinds (quiet_made q ++ map made_of ms))) (made_of m).pdu.kind
responses-pushed q ms m =
    ap (λ ns. responses_in (kinds ns)) (made-push q ms m)
    ∙ (ap responses_in (kinds-push (quiet_made q ++ map made_of ms) (made_of m)) ∙ responses_in-push (kinds (quiet_made q ++ map made_of ms)) (made_of m).pdu.kind)

contents-data : (ms : List Made) (m : Made) → is_kind Data m.pdu.kind ≡ true → contents (ms ++ m ∷ []) ≡ contents ms ++ content_of m.pdu.body ∷ []
contents-data [] m e = rw e refl
contents-data (n ∷ ms) m e = by (is_kind Data n.pdu.kind) refl (contents-data ms m e)
  where
    by : (b : Bool) → is_kind Data n.pdu.kind ≡ b → contents (ms ++ m ∷ []) ≡ contents ms ++ content_of m.pdu.body ∷ []
        → contents (n ∷ (ms ++ m ∷ [])) ≡ contents (n ∷ ms) ++ content_of m.pdu.body ∷ []
    by true h r = rw h (ap (λ ws. content_of n.pdu.body ∷ ws) r)
    by false h r = rw h r

contents-other : (ms : List Made) (m : Made) → is_kind Data m.pdu.kind ≡ false → contents (ms ++ m ∷ []) ≡ contents ms
contents-other [] m e = rw e refl
contents-other (n ∷ ms) m e = by (is_kind Data n.pdu.kind) refl (contents-other ms m e)
  where
    by : (b : Bool) → is_kind Data n.pdu.kind ≡ b → contents (ms ++ m ∷ []) ≡ contents ms → contents (n ∷ (ms ++ m ∷ [])) ≡ contents (n ∷ ms)
    by true h r = rw h (ap (λ ws. content_of n.pdu.body ∷ ws) r)
    by false h r = rw h r

contents-pushed : (q : Option QuietPdu) (ms : List MadePdu) (m : MadePdu) (cs : List (Bor (List ℕ))) (c : Bor (List ℕ))
    → is_kind Data (made_of m).pdu.kind ≡ true → c.now ≡ content_of (made_of m).pdu.body
    → map (λ (b : Bor (List ℕ)). b.now) cs ≡ contents (quiet_made q ++ map made_of ms)
    → map (λ (b : Bor (List ℕ)). b.now) (cs ++ c ∷ []) ≡ contents (quiet_made q ++ map made_of (ms ++ m ∷ []))
contents-pushed q ms m cs c e d h =
    map-push (λ (b : Bor (List ℕ)). b.now) cs c
    ∙ (ap (λ ws. ws ++ c.now ∷ []) h
    ∙ (ap (λ w. contents (quiet_made q ++ map made_of ms) ++ w ∷ []) d
    ∙ (sym (contents-data (quiet_made q ++ map made_of ms) (made_of m) e) ∙ ap contents (sym (made-push q ms m)))))

pub not-response : (n : ℕ) (k : Kind) → is_kind RetransmissionResponse k ≡ false → responses_after n k ≡ n
not-response n RetransmissionResponse e = absurd (cc)
not-response n _ e = refl

pub one-response : (n : ℕ) (k : Kind) → is_kind RetransmissionResponse k ≡ true → responses_after n k ≡ suc n
one-response n RetransmissionResponse e = refl
one-response n _ e = absurd (cc)

data-not-response : (k : Kind) → is_kind Data k ≡ true → is_kind RetransmissionResponse k ≡ false
data-not-response Data e = refl
data-not-response _ e = absurd (cc)

response-not-data : (k : Kind) → is_kind RetransmissionResponse k ≡ true → is_kind Data k ≡ false
response-not-data RetransmissionResponse e = refl
response-not-data _ e = absurd (cc)

contents-stay : (q : Option QuietPdu) (ms : List MadePdu) (m : MadePdu) (cs : List (Bor (List ℕ)))
    → is_kind Data (made_of m).pdu.kind ≡ false
    → map (λ (b : Bor (List ℕ)). b.now) cs ≡ contents (quiet_made q ++ map made_of ms)
    → map (λ (b : Bor (List ℕ)). b.now) cs ≡ contents (quiet_made q ++ map made_of (ms ++ m ∷ []))
contents-stay q ms m cs e h = h ∙ (sym (contents-other (quiet_made q ++ map made_of ms) (made_of m) e) ∙ ap contents (sym (made-push q ms m)))

-- the same of the lists that the calls answer
abbrev units_in_step : Option QuietPdu → List MadePdu → List ℕ → Type 0
units_in_step q ms asks = quiet_units q ++ map conveyed_of ms ≡ all_units_conveyed asks (kinds (quiet_made q ++ map made_of ms))

abbrev contents_in_step : Option QuietPdu → List MadePdu → List (Bor (List ℕ)) → Type 0
contents_in_step q ms cs = map (λ (b : Bor (List ℕ)). b.now) cs ≡ contents (quiet_made q ++ map made_of ms)

units-push : (q : Option QuietPdu) (ms ns : List MadePdu) (m : MadePdu) (o : OwnPdus) (asks : List ℕ) → ns ≡ ms ++ m ∷ []
    → record { quiet = q; made = quiet_made q ++ map made_of ms; asks = asks } ≡ o
    → units_in_step q ms asks
    → (k : Kind) → (made_of m).pdu.kind ≡ k → m.conveyed ≡ units_after o.asks (all_units_conveyed o.asks (kinds o.made)) (conveyed o.asks (kinds o.made)).responses k
    → units_in_step q ns asks
units-push q ms ns m o asks items view h k kind e =
    subst (λ (l : List MadePdu). units_in_step q l asks) (sym items) (units-pushed q ms m asks h now)
  where
    there : m.conveyed ≡ units_after asks (all_units_conveyed asks (kinds (quiet_made q ++ map made_of ms))) (conveyed asks (kinds (quiet_made q ++ map made_of ms))).responses k
    there = subst (λ (v : OwnPdus). m.conveyed ≡ units_after v.asks (all_units_conveyed v.asks (kinds v.made)) (conveyed v.asks (kinds v.made)).responses k) (sym view) e

    now : m.conveyed ≡ units_after asks (all_units_conveyed asks (kinds (quiet_made q ++ map made_of ms))) (conveyed asks (kinds (quiet_made q ++ map made_of ms))).responses (made_of m).pdu.kind
    now = subst (λ (j : Kind). m.conveyed ≡ units_after asks (all_units_conveyed asks (kinds (quiet_made q ++ map made_of ms))) (conveyed asks (kinds (quiet_made q ++ map made_of ms))).responses j) (sym kind) there

contents-push : (q : Option QuietPdu) (ms ns : List MadePdu) (m : MadePdu) (cs ds : List (Bor (List ℕ))) (c : Bor (List ℕ)) → ns ≡ ms ++ m ∷ [] → ds ≡ cs ++ c ∷ []
    → is_kind Data (made_of m).pdu.kind ≡ true → c.now ≡ content_of (made_of m).pdu.body → contents_in_step q ms cs → contents_in_step q ns ds
contents-push q ms ns m cs ds c items stored e d h =
    subst (λ (l : List MadePdu). contents_in_step q l ds) (sym items) (subst (λ (l : List (Bor (List ℕ))). contents_in_step q (ms ++ m ∷ []) l) (sym stored) (contents-pushed q ms m cs c e d h))

contents-kept : (q : Option QuietPdu) (ms ns : List MadePdu) (m : MadePdu) (cs : List (Bor (List ℕ))) → ns ≡ ms ++ m ∷ []
    → is_kind Data (made_of m).pdu.kind ≡ false → contents_in_step q ms cs → contents_in_step q ns cs
contents-kept q ms ns m cs items e h = subst (λ (l : List MadePdu). contents_in_step q l cs) (sym items) (contents-stay q ms m cs e h)

responses-kept : (q : Option QuietPdu) (ms ns : List MadePdu) (m : MadePdu) (n : ℕ) → ns ≡ ms ++ m ∷ []
    → is_kind RetransmissionResponse (made_of m).pdu.kind ≡ false → n ≡ responses_in (kinds (quiet_made q ++ map made_of ms)) → n ≡ responses_in (kinds (quiet_made q ++ map made_of ns))
responses-kept q ms ns m n items e h =
    subst (λ (l : List MadePdu). n ≡ responses_in (kinds (quiet_made q ++ map made_of l))) (sym items)
    (h ∙ sym (responses-pushed q ms m ∙ not-response (responses_in (kinds (quiet_made q ++ map made_of ms))) (made_of m).pdu.kind e))

responses-push : (q : Option QuietPdu) (ms ns : List MadePdu) (m : MadePdu) (n : ℕ) → ns ≡ ms ++ m ∷ []
    → is_kind RetransmissionResponse (made_of m).pdu.kind ≡ true → n ≡ responses_in (kinds (quiet_made q ++ map made_of ms)) → n + 1 ≡ responses_in (kinds (quiet_made q ++ map made_of ns))
responses-push q ms ns m n items e h =
    subst (λ (l : List MadePdu). n + 1 ≡ responses_in (kinds (quiet_made q ++ map made_of l))) (sym items)
    (more ∙ sym (responses-pushed q ms m ∙ one-response (responses_in (kinds (quiet_made q ++ map made_of ms))) (made_of m).pdu.kind e))
  where
    more : n + 1 ≡ suc (responses_in (kinds (quiet_made q ++ map made_of ms)))
    more = omega (arith, h)

-- an end's PDUs with one more, m, which is the PDU x
module _ (i j : Inside) (o : OwnPdus) (m : MadePdu) (x : SafetyPdu) (unit : Option ℕ) (view : record { quiet = i.quiet; made = made_inside i; asks = i.asks.items } ≡ o) (own : AreOwn i)
    (pdu : made_of m ≡ record { pdu = x; unit = unit })
    (values : m.conveyed ≡ units_after o.asks (all_units_conveyed o.asks (kinds o.made)) (conveyed o.asks (kinds o.made)).responses x.kind)
    (quiet : j.quiet ≡ i.quiet) (asks : j.asks ≡ i.asks) (items : j.made.items ≡ i.made.items ++ m ∷ []) where
  kind : (made_of m).pdu.kind ≡ x.kind
  kind = ap (λ (n : Made). n.pdu.kind) pdu

  own_with : contents_in_step i.quiet j.made.items j.contents.items → j.responses ≡ responses_in (kinds (quiet_made i.quiet ++ map made_of j.made.items)) → AreOwn j
  own_with c r =
      let units = units-push i.quiet i.made.items j.made.items m o i.asks.items items view own.units x.kind kind values in
      record { units = rw (quiet, asks) units; contents = rw quiet c; responses = rw quiet r }

  pub data-own : (c : Bor (List ℕ)) → j.contents.items ≡ i.contents.items ++ c ∷ [] → j.responses ≡ i.responses → is_kind Data x.kind ≡ true → c.now ≡ content_of x.body → AreOwn j
  data-own c stored same e d =
      let is : is_kind Data (made_of m).pdu.kind ≡ true = ap (is_kind Data) kind ∙ e in
      let body : c.now ≡ content_of (made_of m).pdu.body = d ∙ sym (ap (λ (n : Made). content_of n.pdu.body) pdu) in
      own_with (contents-push i.quiet i.made.items j.made.items m i.contents.items j.contents.items c items stored is body own.contents)
      (same ∙ responses-kept i.quiet i.made.items j.made.items m i.responses items (data-not-response (made_of m).pdu.kind is) own.responses)

  pub response-own : j.contents ≡ i.contents → j.responses ≡ i.responses + 1 → is_kind RetransmissionResponse x.kind ≡ true → AreOwn j
  response-own same more e =
      let is : is_kind RetransmissionResponse (made_of m).pdu.kind ≡ true = ap (is_kind RetransmissionResponse) kind ∙ e in
      own_with (rw same (contents-kept i.quiet i.made.items j.made.items m i.contents.items items (response-not-data (made_of m).pdu.kind is) own.contents))
      (more ∙ responses-push i.quiet i.made.items j.made.items m i.responses items is own.responses)

  pub other-own : j.contents ≡ i.contents → j.responses ≡ i.responses → is_kind Data x.kind ≡ false → is_kind RetransmissionResponse x.kind ≡ false → AreOwn j
  other-own same kept e f =
      own_with (rw same (contents-kept i.quiet i.made.items j.made.items m i.contents.items items (ap (is_kind Data) kind ∙ e) own.contents))
      (kept ∙ responses-kept i.quiet i.made.items j.made.items m i.responses items (ap (is_kind RetransmissionResponse) kind ∙ f) own.responses)

pub asks-more : (q : Option QuietPdu) (ms : List MadePdu) (o : OwnPdus) (asks more : List ℕ) (ask : ℕ) → more ≡ asks ++ ask ∷ []
    → record { quiet = q; made = quiet_made q ++ map made_of ms; asks = asks } ≡ o → responses_in (kinds o.made) ≤ length o.asks
    → units_in_step q ms asks → units_in_step q ms more
asks-more q ms o asks more ask items view room h =
    subst (λ (l : List ℕ). units_in_step q ms l) (sym items) (h ∙ sym (more_asks asks (ask ∷ []) (kinds (quiet_made q ++ map made_of ms)) here))
  where
    here : responses_in (kinds (quiet_made q ++ map made_of ms)) ≤ length asks
    here = subst (λ (v : OwnPdus). responses_in (kinds v.made) ≤ length v.asks) (sym view) room

after-zero : (n : ℕ) (k : Kind) → responses_after n k ≡ n + responses_after 0 k
after-zero n RetransmissionResponse = omega arith
after-zero n _ = omega arith

-- the responses made and owed stay within the asks
pub responses-made : (ms : List Made) (m : Made) (asks : List ℕ) (owed paid left : ℕ) → responses_in (kinds ms) + owed ≤ length asks
    → responses_after 0 m.pdu.kind ≤ paid → paid + left ≤ owed → responses_in (kinds (ms ++ m ∷ [])) + left ≤ length asks
responses-made ms m asks owed paid left h pays pay =
    let one = ap responses_in (kinds-push ms m) ∙ (responses_in-push (kinds ms) m.pdu.kind ∙ after-zero (responses_in (kinds ms)) m.pdu.kind) in
    omega (arith, one, h, pays, pay)

pub length-made : (ms : List Made) (m : Made) → length (ms ++ m ∷ []) ≡ length ms + 1
length-made ms m = length_push ms m

-- ---- a PDU after the quiet one

after_quiet : (q : Option QuietPdu) (ms : List MadePdu) (i : ℕ) → slice_get (quiet_made q ++ map made_of ms) (quiet_count q + i) ≡ option_map made_of (slice_get ms i)
after_quiet None ms i = ap (slice_get (map made_of ms)) (zero-add i) ∙ slice_get-map made_of ms i
after_quiet (Some q) ms i = ap (slice_get (quiet_made (Some q) ++ map made_of ms)) (let e : 1 + i ≡ suc i = omega arith in e) ∙ slice_get-map made_of ms i

module _ (q : Option QuietPdu) (ms : List MadePdu) (asks : List ℕ) (o : OwnPdus) (i : ℕ) (same : record { quiet = q; made = quiet_made q ++ map made_of ms; asks = asks } ≡ o) where
  there : option_map (λ (m : Made). m.pdu) (slice_get o.made (quiet_count o.quiet + i)) ≡ option_map (λ (m : Made). m.pdu) (option_map made_of (slice_get ms i))
  there =
      ap (λ (p : OwnPdus). option_map (λ (m : Made). m.pdu) (slice_get p.made (quiet_count p.quiet + i))) (sym same)
      ∙ ap (option_map (λ (m : Made). m.pdu)) (after_quiet q ms i)

  pub made_there : (m : MadePdu) → i < length ms → m ≡ get_or ms i m → Some (value_of m.pdu).safety ≡ option_map (λ (n : Made). n.pdu) (slice_get o.made (quiet_count o.quiet + i))
  made_there m within e =
      sym (there ∙ ap (λ (f : Option MadePdu). option_map (λ (n : Made). n.pdu) (option_map made_of f)) (slice_get-get_or ms i m within ∙ ap Some (sym e)))

  pub none_made : length ms ≤ i → None ≡ option_map (λ (n : Made). n.pdu) (slice_get o.made (quiet_count o.quiet + i))
  none_made past = sym (there ∙ ap (λ (f : Option MadePdu). option_map (λ (n : Made). n.pdu) (option_map made_of f)) (slice_get_past ms i past))
