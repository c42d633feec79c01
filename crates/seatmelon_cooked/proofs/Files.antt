-- Files with a header, and what is written of them.
use Rattle.std.proofs.Common.{◌≡◌, ◌∙◌, ℕ, ◌<◌, ◌≤◌, ◌⊎◌, inl, inr, true, false, nat_le, List, [], ◌++◌, append-nil, length, take, drop, Option, None, Some, IfSome, ap, subst, sym, arith}
use Rattle.std.specs.Io.KnownBytes.{Appends}
use Rattle.std.proofs.KnownBytes.{Appends-trans}
use Rattle.std.proofs.lemmas.Bool.Decides.{leb_tells}
use lib.Seq.{drop_at, take_all, take-append-le, take-append_seam}
use Rattle.rasta_pcap.specs.Filling.{IsFilled}
use Rattle.seatmelon_cooked.specs.declared.form.Form.{Form}
use Rattle.seatmelon_cooked.specs.Ethernet.{by_form, ethernet_header, ethernet_of, most_records, records_of}
use Rattle.seatmelon_cooked.specs.Forms.{form_in, spelled}

-- the header that was read is the file's
front_by : (header rest : List ℕ) → length header ≤ 24 → (length header < 24 → rest ≡ [])
    → ((nat_le 24 (length header) ≡ true) × (24 ≤ length header)) ⊎ ((nat_le 24 (length header) ≡ false) × (length header < 24)) → take 24 (header ++ rest) ≡ header
front_by header rest within end (inr short) = ap (λ (l : List ℕ). take 24 (header ++ l)) (end short.1) ∙ ap (take 24) (append-nil header) ∙ take_all 24 header within
front_by header rest within end (inl long) =
    let size : 24 ≡ length header = omega (arith, long.1) in
    ap (λ (k : ℕ). take k (header ++ rest)) size ∙ take-append_seam header rest

front_of : (header rest : List ℕ) → length header ≤ 24 → (length header < 24 → rest ≡ []) → take 24 (header ++ rest) ≡ header
front_of header rest within end = front_by header rest within end (leb_tells 24 (length header))

-- a file without cooked headers is written as it is
pub file_as_it_is : (old mid start now : Option (List ℕ)) (header : List ℕ) → IsFilled 24 old mid header → form_in header ≡ None
    → IfSome mid (λ rest. Appends start now (header ++ rest)) → IfSome old (λ file. Appends start now (ethernet_of file))
file_as_it_is None mid start now header filled none out = tt
file_as_it_is (Some file) None start now header filled none out = absurd filled.consumed
file_as_it_is (Some file) (Some rest) start now header filled none out =
    let whole : header ++ rest ≡ file = sym filled.consumed in
    let form : form_in (take 24 file) ≡ None =
    ap (λ (l : List ℕ). form_in (take 24 l)) filled.consumed ∙ ap form_in (front_of header rest filled.within filled.at_end) ∙ none in
    subst (Appends start now) (whole ∙ sym (ap (λ (o : Option Form). by_form o file) form)) out

-- the header and the records of one with them
pub file_of_frames : (form : Form) (old mid start out now : Option (List ℕ)) (header : List ℕ) → IsFilled 24 old mid header → form_in header ≡ Some form → 24 ≤ length header
    → Appends start out (ethernet_header form header) → IfSome mid (λ rest. Appends out now (records_of most_records form rest))
    → IfSome old (λ file. Appends start now (ethernet_of file))
file_of_frames form None mid start out now header filled some long front records = tt
file_of_frames form (Some file) None start out now header filled some long front records = absurd filled.consumed
file_of_frames form (Some file) (Some rest) start out now header filled some long front records =
    let size : length header ≡ 24 = omega (arith, long, filled.within) in
    let told : form_in (take 24 file) ≡ Some form =
    ap (λ (l : List ℕ). form_in (take 24 l)) filled.consumed ∙ ap form_in (front_of header rest filled.within filled.at_end) ∙ some in
    let same_front : ethernet_header form file ≡ ethernet_header form header =
    ap (ethernet_header form) filled.consumed ∙ ap (λ (l : List ℕ). l ++ spelled form.order 1) (take-append-le 20 header rest (omega (arith, size))) in
    let same_rest : drop 24 file ≡ rest = ap (drop 24) filled.consumed ∙ drop_at header rest 24 size in
    let whole : ethernet_of file ≡ ethernet_header form header ++ records_of most_records form rest =
    ap (λ (o : Option Form). by_form o file) told ∙ ap (λ (l : List ℕ). l ++ records_of most_records form (drop 24 file)) same_front
    ∙ ap (λ (l : List ℕ). ethernet_header form header ++ records_of most_records form l) same_rest in
    subst (Appends start now) (sym whole) (Appends-trans start out now (ethernet_header form header) (records_of most_records form rest) front records)
