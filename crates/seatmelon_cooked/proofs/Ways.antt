-- All records on their way.
use Rattle.std.proofs.Common.{◌≡◌, ◌∙◌, ℕ, suc, Bool, true, false, cond, List, [], ◌++◌, append_assoc, Option, None, Some, IfSome, ap, refl, subst, sym}
use Rattle.std.specs.Io.KnownBytes.{Appends}
use Rattle.std.proofs.KnownBytes.{Appends-nil, Appends-trans}
use Rattle.seatmelon_cooked.specs.declared.form.Form.{Form}
use Rattle.seatmelon_cooked.specs.declared.record.Sent.{Sent}
use Rattle.seatmelon_cooked.specs.Ethernet.{behind, holds_record, next_record, records_of}
use Rattle.seatmelon_cooked.specs.Steps.{Goes, IsOnItsWay}

records-more : (left : ℕ) (form : Form) (bytes : List ℕ) → holds_record form bytes ≡ true
    → records_of (suc left) form bytes ≡ next_record form bytes ++ records_of left form (behind form bytes)
unfolding records_of
records-more left form bytes h = ap (λ (b : Bool). cond b (next_record form bytes ++ records_of left form (behind form bytes)) bytes) h

records-none : (left : ℕ) (form : Form) (bytes : List ℕ) → holds_record form bytes ≡ false → records_of (suc left) form bytes ≡ bytes
unfolding records_of
records-none left form bytes h = ap (λ (b : Bool). cond b (next_record form bytes ++ records_of left form (behind form bytes)) bytes) h

-- nothing was read yet
pub way_none : (form : Form) (most : ℕ) (old start : Option (List ℕ)) → IfSome old (λ bytes. IsOnItsWay most form most bytes old start start)
way_none form most None start = tt
way_none form most (Some bytes) start = record {
  rest = bytes;
  done = [];
  is_left = refl;
  written = Appends-nil start;
  whole = refl;
}

module _ (form : Form) (most left : ℕ) (bytes : List ℕ) (mid start out : Option (List ℕ)) (way : IsOnItsWay (suc left) form most bytes mid start out)
    (new now : Option (List ℕ)) where
  -- one more record
  way_more : (sent : Sent) → IfSome mid (λ rest. Goes form rest new out now (Some sent)) → IsOnItsWay left form most bytes new start now
  way_more sent step =
      let goes : Goes form way.rest new out now (Some sent) = subst (λ (o : Option (List ℕ)). IfSome o (λ rest. Goes form rest new out now (Some sent))) way.is_left step in record {
        rest = behind form way.rest;
        done = way.done ++ next_record form way.rest;
        is_left = goes.1;
        written = Appends-trans start out now way.done (next_record form way.rest) way.written goes.2;
        whole = way.whole ∙ ap (λ l. way.done ++ l) (records-more left form way.rest goes.0)
            ∙ sym (append_assoc way.done (next_record form way.rest) (records_of left form (behind form way.rest)));
      }

  -- no more of them
  way_end : IfSome mid (λ rest. Goes form rest new out now None) → Appends start now (records_of most form bytes)
  way_end step =
      let goes : Goes form way.rest new out now None = subst (λ (o : Option (List ℕ)). IfSome o (λ rest. Goes form rest new out now None)) way.is_left step in
      subst (Appends start now) (sym (way.whole ∙ ap (λ l. way.done ++ l) (records-none left form way.rest goes.0)))
      (Appends-trans start out now way.done way.rest way.written goes.1)

-- the same of what is known
pub way_on : (form : Form) (most left : ℕ) (old mid start out new now : Option (List ℕ)) (sent : Sent) → IfSome old (λ bytes. IsOnItsWay (suc left) form most bytes mid start out)
    → IfSome mid (λ rest. Goes form rest new out now (Some sent)) → IfSome old (λ bytes. IsOnItsWay left form most bytes new start now)
way_on form most left None mid start out new now sent way step = tt
way_on form most left (Some bytes) mid start out new now sent way step = way_more form most left bytes mid start out way new now sent step

pub way_all : (form : Form) (most left : ℕ) (old mid start out new now : Option (List ℕ)) → IfSome old (λ bytes. IsOnItsWay (suc left) form most bytes mid start out)
    → IfSome mid (λ rest. Goes form rest new out now None) → IfSome old (λ bytes. Appends start now (records_of most form bytes))
way_all form most left None mid start out new now way step = tt
way_all form most left (Some bytes) mid start out new now way step = way_end form most left bytes mid start out way new now step
