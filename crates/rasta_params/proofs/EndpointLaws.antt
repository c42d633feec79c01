-- The text of an endpoint is read as that endpoint, and no other text is.
use Rattle.std.proofs.Common.{◌≡◌, inl, inr, ℕ, ◌<◌, ◌≤◌, List, [], ◌∷◌, ◌++◌, Bool, true, false, cond, nat_eq, Option, Some, None, IfSome, IfNone, refl, sym, ap, ◌∙◌, arith, append_assoc}
use Rattle.std.proofs.lemmas.Bool.{cases_lt}
use Rattle.std.proofs.lemmas.Bool.Decides.{nat_tests}
use Rattle.std.specs.Fmt.{decimal}
use Rattle.rasta_udp.specs.declared.channel.Endpoint.{Endpoint}
use Rattle.rasta_line.specs.Words.{and_then, cut, decimal_of}
use Rattle.rasta_line.proofs.Numbers.{decimal_of-Some, decimal_of-decimal}
use Rattle.rasta_line.proofs.Cuts.{Lacks, Lacks-append, Lacks-cons, Lacks-decimal, cut-Some, cut-first, gave}
use Rattle.rasta_params.specs.Endpoints.{Four, HasText, IsEndpointText, address_in, endpoint_of, endpoint_text, four_of, octet_of, port_of}

-- four texts with points between them
four_of-texts : (a b c d : List ℕ) → Lacks 46 a → Lacks 46 b → Lacks 46 c
    → four_of (a ++ (46 ∷ (b ++ (46 ∷ (c ++ (46 ∷ d)))))) ≡ Some (record { first = a; second = b; third = c; fourth = d })
unfolding four_of
four_of-texts a b c d la lb lc =
    let Parts : Type 0 = List ℕ × List ℕ in
    let last : Parts → Parts → Parts → Option Four = λ one two three. Some (record { first = one.0; second = two.0; third = three.0; fourth = three.1 }) in
    ap (λ (o : Option Parts). and_then o (λ one. and_then (cut 46 one.1) (λ two. and_then (cut 46 two.1) (last one two))))
    (cut-first 46 a (b ++ (46 ∷ (c ++ (46 ∷ d)))) la)
    ∙ ap (λ (o : Option Parts). and_then o (λ two. and_then (cut 46 two.1) (last (a, b ++ (46 ∷ (c ++ (46 ∷ d)))) two))) (cut-first 46 b (c ++ (46 ∷ d)) lb)
    ∙ ap (λ (o : Option Parts). and_then o (last (a, b ++ (46 ∷ (c ++ (46 ∷ d)))) (b, c ++ (46 ∷ d)))) (cut-first 46 c d lc)

octet-text : (n : ℕ) → n < 256 → octet_of (decimal n) ≡ Some n
octet-text n small = decimal_of-decimal 255 n (decimal n) (omega arith) (omega arith) refl

-- the four numbers of an address
address_in-texts : (a b c d : ℕ) → a < 256 → b < 256 → c < 256 → d < 256
    → address_in (record { first = decimal a; second = decimal b; third = decimal c; fourth = decimal d }) ≡ Some (a ∷ b ∷ c ∷ d ∷ [])
unfolding address_in
address_in-texts a b c d ha hb hc hd =
    ap (λ (o : Option ℕ). and_then o (λ w. and_then (octet_of (decimal b)) (λ x. and_then (octet_of (decimal c)) (λ y. and_then (octet_of (decimal d)) (λ z. Some (w ∷ x ∷ y ∷ z ∷ [])))))) (octet-text a ha)
    ∙ ap (λ (o : Option ℕ). and_then o (λ x. and_then (octet_of (decimal c)) (λ y. and_then (octet_of (decimal d)) (λ z. Some (a ∷ x ∷ y ∷ z ∷ []))))) (octet-text b hb)
    ∙ ap (λ (o : Option ℕ). and_then o (λ y. and_then (octet_of (decimal d)) (λ z. Some (a ∷ b ∷ y ∷ z ∷ [])))) (octet-text c hc)
    ∙ ap (λ (o : Option ℕ). and_then o (λ z. Some (a ∷ b ∷ c ∷ z ∷ []))) (octet-text d hd)

port_of-text : (port : ℕ) → 1 ≤ port → port ≤ 65535 → port_of (decimal port) ≡ Some port
unfolding port_of
port_of-text port from to =
    let some : nat_eq port 0 ≡ false = grind (arith, nat_tests) in
    ap (λ (o : Option ℕ). and_then o (λ n. cond (nat_eq n 0) None (Some n))) (decimal_of-decimal 65535 port (decimal port) (omega arith) to refl)
    ∙ ap (λ (b : Bool). cond b None (Some port)) some

abbrev host_text : (a b c d : ℕ) → List ℕ
host_text a b c d = decimal a ++ (46 ∷ (decimal b ++ (46 ∷ (decimal c ++ (46 ∷ decimal d)))))

-- an endpoint's text is that of its host, a colon, and that of its port
endpoint_text-host : (a b c d port : ℕ) → endpoint_text a b c d port ≡ host_text a b c d ++ (58 ∷ decimal port)
unfolding endpoint_text
endpoint_text-host a b c d port =
    let A = decimal a in let B = decimal b in let C = decimal c in let D = decimal d in let P = decimal port in
    ap (λ (l : List ℕ). A ++ (46 ∷ (B ++ (46 ∷ l)))) (sym (append_assoc C (46 ∷ D) (58 ∷ P)))
    ∙ ap (λ (l : List ℕ). A ++ (46 ∷ l)) (sym (append_assoc B (46 ∷ (C ++ (46 ∷ D))) (58 ∷ P)))
    ∙ sym (append_assoc A (46 ∷ (B ++ (46 ∷ (C ++ (46 ∷ D))))) (58 ∷ P))

-- the text of an endpoint is read as that endpoint
endpoint_of-text : (text : List ℕ) (a b c d port : ℕ) → IsEndpointText text a b c d port
    → endpoint_of text ≡ Some (record { address = a ∷ b ∷ c ∷ d ∷ []; port = port })
unfolding endpoint_of
endpoint_of-text text a b c d port h =
    let A = decimal a in let B = decimal b in let C = decimal c in let D = decimal d in let P = decimal port in
    let ha = h.octets.0 in let hb = h.octets.1 in let hc = h.octets.2 in let hd = h.octets.3 in
    let most = h.to_most in
    let host = host_text a b c d in
    let lacks : (n : ℕ) → n < 256 → Lacks 58 (decimal n) = λ n small. Lacks-decimal 58 n (omega arith) (inr (omega arith)) in
    let point : (xs ys : List ℕ) → Lacks 58 xs → Lacks 58 ys → Lacks 58 (xs ++ (46 ∷ ys)) =
    λ xs ys lx ly. Lacks-append 58 xs (46 ∷ ys) lx (Lacks-cons 58 46 ys refl ly) in
    let no_colon : Lacks 58 host = point A _ (lacks a ha) (point B _ (lacks b hb) (point C D (lacks c hc) (lacks d hd))) in
    let dots : (n : ℕ) → n < 256 → Lacks 46 (decimal n) = λ n small. Lacks-decimal 46 n (omega arith) (inl (omega arith)) in
    let address : and_then (four_of host) address_in ≡ Some (a ∷ b ∷ c ∷ d ∷ []) =
    ap (λ (o : Option Four). and_then o address_in) (four_of-texts A B C D (dots a ha) (dots b hb) (dots c hc)) ∙ address_in-texts a b c d ha hb hc hd in
    let Parts : Type 0 = List ℕ × List ℕ in
    let made : List ℕ → ℕ → Option Endpoint = λ address port. Some (record { address = address; port = port }) in
    ap endpoint_of (h.text_is ∙ endpoint_text-host a b c d port)
    ∙ ap (λ (o : Option Parts). and_then o (λ parts. and_then (and_then (four_of parts.0) address_in) (λ address. and_then (port_of parts.1) (made address)))) (cut-first 58 host P no_colon)
    ∙ ap (λ (o : Option (List ℕ)). and_then o (λ address. and_then (port_of P) (made address))) address
    ∙ ap (λ (o : Option ℕ). and_then o (made (a ∷ b ∷ c ∷ d ∷ []))) (port_of-text port h.from_one most)

some_is : {A : Type 0} {x y : A} → ◌≡◌ {A = Option A} (Some x) (Some y) → x ≡ y
some_is {A} {x} {y} h = cc

no_zero : (n m : ℕ) → cond (nat_eq n 0) None (Some n) ≡ Some m → (n ≡ m) × (1 ≤ n)
no_zero n m h = elim (cases_lt 0 n) [
  | inl some ↦
      let test : nat_eq n 0 ≡ false = grind (arith, nat_tests) in
      (some_is (sym (ap (λ (b : Bool). cond b None (Some n)) test) ∙ h), omega arith)
  | inr none ↦
      let test : nat_eq n 0 ≡ true = grind (arith, nat_tests) in
      let clash : ◌≡◌ {A = Option ℕ} None (Some m) = sym (ap (λ (b : Bool). cond b None (Some n)) test) ∙ h in absurd (cc)
]

-- what is read as an endpoint is its text
endpoint_of-Some : (text : List ℕ) (e : Endpoint) → endpoint_of text ≡ Some e → HasText e text
unfolding endpoint_of four_of address_in port_of
endpoint_of-Some text e h =
    let parts = gave (cut 58 text) _ e h in
    let address = gave _ _ e parts.then_is in
    let port = gave (port_of parts.value.1) _ e address.then_is in
    let four = gave (four_of parts.value.0) address_in address.value address.is in
    let one = gave (cut 46 parts.value.0) _ four.value four.is in
    let two = gave (cut 46 one.value.1) _ four.value one.then_is in
    let three = gave (cut 46 two.value.1) _ four.value two.then_is in
    let w = gave (octet_of four.value.first) _ address.value four.then_is in
    let x = gave (octet_of four.value.second) _ address.value w.then_is in
    let y = gave (octet_of four.value.third) _ address.value x.then_is in
    let z = gave (octet_of four.value.fourth) _ address.value y.then_is in
    let n = gave (decimal_of 65535 parts.value.1) _ port.value port.is in
    let made : ◌≡◌ {A = Endpoint} (record { address = address.value; port = port.value }) e = some_is port.then_is in
    let address_is : w.value ∷ x.value ∷ y.value ∷ z.value ∷ [] ≡ address.value = some_is z.then_is in
    let numbers = no_zero n.value port.value n.then_is in
    let port_is : n.value ≡ e.port = numbers.0 ∙ ap (λ (q : Endpoint). q.port) made in
    let quarters : ◌≡◌ {A = Four} (record { first = one.value.0; second = two.value.0; third = three.value.0; fourth = three.value.1 }) four.value =
    some_is three.then_is in
    let a = decimal_of-Some 255 w.value four.value.first w.is in
    let b = decimal_of-Some 255 x.value four.value.second x.is in
    let c = decimal_of-Some 255 y.value four.value.third y.is in
    let d = decimal_of-Some 255 z.value four.value.fourth z.is in
    let t = decimal_of-Some 65535 n.value parts.value.1 n.is in
    let host : parts.value.0 ≡ host_text w.value x.value y.value z.value =
    (cut-Some 46 parts.value.0 one.value one.is).0
    ∙ ap (λ (l : List ℕ). one.value.0 ++ (46 ∷ l)) ((cut-Some 46 one.value.1 two.value two.is).0
    ∙ ap (λ (l : List ℕ). two.value.0 ++ (46 ∷ l)) ((cut-Some 46 two.value.1 three.value three.is).0))
    ∙ ap (λ (q : Four). q.first ++ (46 ∷ (q.second ++ (46 ∷ (q.third ++ (46 ∷ q.fourth)))))) quarters
    ∙ ap (λ (l : List ℕ). l ++ (46 ∷ (four.value.second ++ (46 ∷ (four.value.third ++ (46 ∷ four.value.fourth)))))) a.0
    ∙ ap (λ (l : List ℕ). decimal w.value ++ (46 ∷ (l ++ (46 ∷ (four.value.third ++ (46 ∷ four.value.fourth)))))) b.0
    ∙ ap (λ (l : List ℕ). decimal w.value ++ (46 ∷ (decimal x.value ++ (46 ∷ (l ++ (46 ∷ four.value.fourth)))))) c.0
    ∙ ap (λ (l : List ℕ). decimal w.value ++ (46 ∷ (decimal x.value ++ (46 ∷ (decimal y.value ++ (46 ∷ l)))))) d.0 in
    let whole : text ≡ endpoint_text w.value x.value y.value z.value e.port =
    (cut-Some 58 text parts.value parts.is).0
    ∙ ap (λ (l : List ℕ). l ++ (58 ∷ parts.value.1)) host
    ∙ ap (λ (l : List ℕ). host_text w.value x.value y.value z.value ++ (58 ∷ l)) (t.0 ∙ ap decimal port_is)
    ∙ sym (endpoint_text-host w.value x.value y.value z.value e.port) in
    let wa = a.1 in let xb = b.1 in let yc = c.1 in let zd = d.1 in let np = t.1 in let some = numbers.1 in
    record {
      a = w.value;
      b = x.value;
      c = y.value;
      d = z.value;
      address = sym (address_is ∙ ap (λ (q : Endpoint). q.address) made);
      is_text = record {
        octets = (omega arith, omega arith, omega arith, omega arith);
        from_one = omega (arith, port_is);
        to_most = omega (arith, port_is);
        text_is = whole;
      };
    }

pub HasText-found : (text : List ℕ) (r : Option Endpoint) → r ≡ endpoint_of text → IfSome r (λ e. HasText e text)
HasText-found text None h = tt
HasText-found text (Some e) h = endpoint_of-Some text e (sym h)

pub no_text : (text : List ℕ) (r : Option Endpoint) → r ≡ endpoint_of text
    → IfNone r ((a b c d port : ℕ) → ¬ (IsEndpointText text a b c d port))
no_text text None h = λ a b c d port is.
    let clash : ◌≡◌ {A = Option Endpoint} None (Some (record { address = a ∷ b ∷ c ∷ d ∷ []; port = port })) = h ∙ endpoint_of-text text a b c d port is in absurd (cc)
no_text text (Some e) h = tt
