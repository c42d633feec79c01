-- What was sent of a text, piece by piece.
use Rattle.std.proofs.Common.{◌≡◌, ◌∙◌, ℕ, ◌++◌, append_assoc, append-nil, List, [], Option, Result, Ok, Err, OnErr, OnOk, ap, refl, sym}
use Rattle.std.specs.Result.{IsErr}
use Rattle.std.specs.Io.KnownBytes.{Appends}
use Rattle.std.proofs.KnownBytes.{Appends-nil, Appends-trans}
use Rattle.rasta_pcap.specs.declared.fault.Fault.{Fault}
use Rattle.rasta_pcap.specs.Devices.{AppendsBeginning, Writes}

-- what was sent, and then the rest, is the whole
pub record Sent (whole rest : List ℕ) (old new : Option (List ℕ)) : Type 0 where
  pub front : List ℕ
  pub appended : Appends old new front
  pub text : whole ≡ front ++ rest

pub Sent-start : (whole : List ℕ) (w : Option (List ℕ)) → Sent whole whole w w
Sent-start whole w = record { front = []; appended = Appends-nil w; text = refl }

-- a part went out
pub Sent-more : {whole rest : List ℕ} {old mid : Option (List ℕ)} (part more : List ℕ) (new : Option (List ℕ)) → Sent whole rest old mid → rest ≡ part ++ more → Appends mid new part → Sent whole more old new
Sent-more {old = old} {mid = mid} part more new h e out = record {
  front = h.front ++ part;
  appended = Appends-trans old mid new h.front part h.appended out;
  text = h.text ∙ ap (λ (l : List ℕ). h.front ++ l) e ∙ sym (append_assoc h.front part more);
}

-- all went out
pub Sent-all : {whole rest : List ℕ} {old new : Option (List ℕ)} → Sent whole rest old new → rest ≡ [] → Appends old new whole
Sent-all h e = rw (h.text, e, append-nil h.front) h.appended

-- a beginning of a part went out
Sent-begun : {whole rest : List ℕ} {old mid : Option (List ℕ)} (part more : List ℕ) (new : Option (List ℕ)) → Sent whole rest old mid → rest ≡ part ++ more → AppendsBeginning mid new part → AppendsBeginning old new whole
Sent-begun {old = old} {mid = mid} part more new h e (front, missing, out, cut) =
    let text = h.text ∙ ap (λ (l : List ℕ). h.front ++ l) (e ∙ ap (λ (l : List ℕ). l ++ more) cut ∙ append_assoc front missing more) ∙ sym (append_assoc h.front front (missing ++ more)) in
    (h.front ++ front, missing ++ more, Appends-trans old mid new h.front front h.appended out, text)

-- it went out where the call failed
pub Sent-failed : {A : Type 0} (r : Result A Fault) {whole rest : List ℕ} {old mid : Option (List ℕ)} (part more : List ℕ) (new : Option (List ℕ))
    → IsErr r → Sent whole rest old mid → rest ≡ part ++ more → AppendsBeginning mid new part → Writes r old new whole
Sent-failed (Ok x) part more new failed h e begun = absurd (let no = failed in cc)
Sent-failed (Err f) part more new failed h e begun = Sent-begun part more new h e begun

-- the rest went out
pub Sent-rest : {whole rest : List ℕ} {old mid : Option (List ℕ)} (new : Option (List ℕ)) → Sent whole rest old mid → Appends mid new rest → Appends old new whole
Sent-rest {rest = rest} new h out = Sent-all (Sent-more rest [] new h (sym (append-nil rest)) out) refl

-- what a call writes of the rest, it writes of the whole
pub Sent-last : {A : Type 0} (r : Result A Fault) {whole rest : List ℕ} {old mid : Option (List ℕ)} (new : Option (List ℕ)) → Sent whole rest old mid → Writes r mid new rest → Writes r old new whole
Sent-last (Ok x) new h out = Sent-rest new h out
Sent-last (Err f) {rest = rest} new h begun = Sent-begun rest [] new h (sym (append-nil rest)) begun

-- what follows from the beginning that went out, where the call failed
pub where_begun : {A Q : Type 0} (r : Result A Fault) (old new : Option (List ℕ)) (bytes : List ℕ) → (AppendsBeginning old new bytes → Q) → Writes r old new bytes → OnErr r Q
where_begun (Ok x) old new bytes f h = tt
where_begun (Err e) old new bytes f h = f h

-- what holds where the call failed
pub where_failed : {A E : Type 0} {P : Type 0} (r : Result A E) → P → OnErr r P
where_failed (Ok x) p = tt
where_failed (Err e) p = p

-- what follows where the call failed
pub on_err_map : {A E : Type 0} {P Q : Type 0} (r : Result A E) → (P → Q) → OnErr r P → OnErr r Q
on_err_map (Ok x) f h = tt
on_err_map (Err e) f h = f h

-- what holds where the call succeeded
pub where_succeeded : {A E : Type 0} {P : Type 0} (r : Result A E) → P → OnOk r P
where_succeeded (Ok x) p = p
where_succeeded (Err e) p = tt
