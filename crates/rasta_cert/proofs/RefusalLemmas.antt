-- Where a text is refused.
use Rattle.std.proofs.Common.{◌≡◌, ◌≢◌, inl, inr, ℕ, ◌+◌, List, [], ◌∷◌, ◌++◌, length, refl, sym, ap, subst, ◌∙◌, append_assoc}
use Rattle.std.proofs.lemmas.List.{append-nil}
use Rattle.std.specs.List.{concat}
use Rattle.rasta_pcap.specs.declared.fault.Fault.{Fault}
use Rattle.rasta_pcap.specs.Fault.{fault_at, wrong_syntax}
use Rattle.rasta_cert.specs.Certificate.{AreScripts, IsCertificate, Scripts, certificate_text}
use Rattle.rasta_cert.specs.Refusals.{BeginsCertificate, BeginsScripts, IsFaultNumber, IsRefusedText, first_line, lines_of}
use Rattle.rasta_cert.proofs.LineLemmas.{AreLines, AreLines-after, AreLines-front, AreLines-lines_of, GoesOn, splits}
use Rattle.rasta_cert.proofs.ScriptLemmas.{certificate_text-lines}

abbrev Lines : Type 0
Lines = List (List ℕ)

-- lines that scripts begin with are lines
begun_lines : (front : Lines) → BeginsScripts front → AreLines front
begun_lines front b = AreLines-front front b.more (subst AreLines b.lines_are (AreLines-lines_of b.scripts b.entries))

-- lines that go on with a line begin with that line too
goes_on : (front : Lines) (rest : List ℕ) (bs : Lines) → GoesOn front rest bs → BeginsCertificate bs → BeginsCertificate (front ++ first_line rest ∷ [])
goes_on front rest bs g b = (
  record {
    scripts = b.0.scripts;
    entries = b.0.entries;
    more = g.more ++ b.0.more;
    lines_are = b.0.lines_are ∙ ap (λ (l : Lines). l ++ b.0.more) g.is
        ∙ append_assoc front (first_line rest ∷ g.more) b.0.more
        ∙ sym (append_assoc front (first_line rest ∷ []) (g.more ++ b.0.more));
  },
  b.1,
)

-- the number of a fault is determined
one_number : (lines : Lines) (m n : ℕ) → IsFaultNumber lines m → IsFaultNumber lines n → m ≡ n
one_number lines m n (inl a) (inl b) = a.0 ∙ sym b.0
one_number lines m n (inl a) (inr b) = absurd (b.1 a.1)
one_number lines m n (inr a) (inl b) = absurd (a.1 b.1)
one_number lines m n (inr a) (inr b) = a.0 ∙ sym b.0

-- no text is refused by two faults
pub one_refusal : (text : List ℕ) (f g : Fault) → IsRefusedText text f → IsRefusedText text g → f ≡ g
one_refusal text f g a b =
    elim (splits a.front b.front a.rest b.rest (begun_lines a.front a.begins.0) (begun_lines b.front b.begins.0) (sym a.text_is ∙ b.text_is)) [
      | inl same ↦
          let lines : a.front ++ first_line a.rest ∷ [] ≡ b.front ++ first_line b.rest ∷ [] =
          ap (λ (l : Lines). l ++ first_line a.rest ∷ []) same.0 ∙ ap (λ (l : List ℕ). b.front ++ first_line l ∷ []) same.1 in
          let number : f.number ≡ g.number = one_number _ f.number g.number (subst (λ (l : Lines). IsFaultNumber l f.number) lines a.number) b.number in
          a.fault_is
          ∙ ap (λ (n : ℕ). fault_at n (length a.front + 1)) number
          ∙ ap (λ (l : Lines). fault_at g.number (length l + 1)) same.0
          ∙ sym b.fault_is
      | inr other ↦ elim other [
        | inl g ↦ absurd (a.stops (goes_on a.front a.rest b.front g b.begins))
        | inr g ↦ absurd (b.stops (goes_on b.front b.rest a.front g a.begins))
      ]
    ]

-- a text with a line that no certificate has there is no certificate's
no_certificate : (text : List ℕ) (front : Lines) (rest : List ℕ) → text ≡ concat front ++ rest → AreLines front
    → ¬ (BeginsCertificate (front ++ first_line rest ∷ []))
    → (rest ≡ [] → (c : Scripts) → AreScripts c → front ≢ lines_of c)
    → (c : Scripts) → IsCertificate c → text ≢ certificate_text c
no_certificate text front rest e lines stops not_whole c is h =
    let texts : concat front ++ rest ≡ concat (lines_of c) ++ [] = sym e ∙ h ∙ certificate_text-lines c ∙ sym (append-nil (concat (lines_of c))) in
    let whole : BeginsCertificate (lines_of c) = (record { scripts = c; entries = is.0; more = []; lines_are = sym (append-nil (lines_of c)) }, is.1) in
    elim (splits front (lines_of c) rest [] lines (AreLines-lines_of c is.0) texts) [
      | inl same ↦ not_whole same.1 c is.0 same.0
      | inr other ↦ elim other [
        | inl g ↦ stops (goes_on front rest (lines_of c) g whole)
        | inr g ↦ (AreLines-after (lines_of c) (first_line [] ∷ g.more) (subst AreLines g.is lines)).0.some refl
      ]
    ]

-- a text is refused at a line with which no certificate begins
pub refused : (text : List ℕ) (front : Lines) (rest : List ℕ) (fault : Fault) → text ≡ concat front ++ rest → BeginsCertificate front
    → ¬ (BeginsCertificate (front ++ first_line rest ∷ []))
    → (rest ≡ [] → (c : Scripts) → AreScripts c → front ≢ lines_of c)
    → IsFaultNumber (front ++ first_line rest ∷ []) fault.number → fault ≡ fault_at fault.number (length front + 1)
    → IsRefusedText text fault
refused text front rest fault e begins stops not_whole number fault_is = record {
  no_certificate = no_certificate text front rest e (begun_lines front begins.0) stops not_whole;
  front = front;
  rest = rest;
  text_is = e;
  begins = begins;
  stops = stops;
  number = number;
  fault_is = fault_is;
}

-- the same, where the syntax is wrong
pub misspelled : (text : List ℕ) (front : Lines) (rest : List ℕ) (fault : Fault) → text ≡ concat front ++ rest → BeginsCertificate front
    → ¬ (BeginsScripts (front ++ first_line rest ∷ []))
    → (rest ≡ [] → (c : Scripts) → AreScripts c → front ≢ lines_of c)
    → fault ≡ fault_at wrong_syntax (length front + 1) → IsRefusedText text fault
misspelled text front rest fault e begins stops not_whole fault_is =
    let number : fault.number ≡ wrong_syntax = ap (λ (f : Fault). f.number) fault_is in
    refused text front rest fault e begins (λ b. stops b.0) not_whole (inr (number, stops))
    (fault_is ∙ ap (λ (n : ℕ). fault_at n (length front + 1)) (sym number))
