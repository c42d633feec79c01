-- Refusals of a capture are told from out of memory and from a failed read by their numbers.
use Rattle.std.proofs.Common.{◌≡◌, ◌⊎◌, inl, inr, ℕ, ◌≤◌, List, [], ◌++◌, Option, Some, None, Result, Err, IfOk, true, false, refl, ap, sym, subst, arith, nat_le}
use Rattle.std.specs.Prelude.{IsSome}
use Rattle.std.proofs.lemmas.Bool.{leb-false}
use Rattle.rasta_pcap.specs.Devices.{Writes}
use Rattle.rasta_pcap.specs.declared.fault.Fault.{Fault}
use Rattle.rasta_pcap.specs.declared.fault.Side.{Side}
use Rattle.rasta_pcap.specs.Fault.{not_pcap}
use Rattle.rasta_pcap.specs.Stream.{ReadsSo}
use Rattle.rasta_pdu.specs.Params.{Parameters}
use Rattle.rasta_check.specs.Capture.Reading.{crossing_of}
use Rattle.rasta_check.specs.Internals.Storing.{IsFailure, IsRefusedSo}
use Rattle.rasta_check.proofs.Capture.FaultNumbers.{file_sided}
use Rattle.rasta_line.specs.Texts.{refused_line}
use Rattle.rasta_line.specs.Runs.{IsRunFault}
use Rattle.rasta_verdict.specs.Verdict.{WritesVerdict}
use Rattle.rasta_verdict.proofs.Verdicts.{Texts}

abbrev IsOfCapture : Fault → Type 0
IsOfCapture f = not_pcap ≤ f.number

of_file : (p : Parameters) (file : List ℕ) (f : Fault) → crossing_of p file ≡ Err f → IsOfCapture f
of_file p file f e = by f.end refl
  where
    by : (o : Option Side) → f.end ≡ o → IsOfCapture f
    by None none = ((file_sided p file f e).1 none).0
    by (Some side) some = (let low = ((file_sided p file f e).0 (subst IsSome (sym some) refl)).0 in omega arith)

-- ---- why nothing was stored

abbrev pub WhyNone : Parameters → Fault → ℕ → ℕ → Option (List ℕ) → Option (List ℕ) → Type 0
WhyNone p f old_count new_count old new = IsFailure f old_count new_count ⊎ ReadsSo (IsRefusedSo p f) old new

number_of : (f g : Fault) → f ≡ g → f.number ≡ g.number
number_of f g e = ap (λ (h : Fault). h.number) e

-- the capture is refused
pub where_refused : (p : Parameters) (f : Fault) (old_count new_count : ℕ) (old new : Option (List ℕ)) → nat_le not_pcap f.number ≡ true
    → WhyNone p f old_count new_count old new → ReadsSo (IsRefusedSo p f) old new
where_refused p f old_count new_count old new h g = grind arith

-- memory ran out, or the reader failed
pub where_broken : (p : Parameters) (f : Fault) (old_count new_count old_writes new_writes : ℕ) (old new : Option (List ℕ)) → nat_le not_pcap f.number ≡ false
    → WhyNone p f old_count new_count old new → IsRunFault f old_count new_count old_writes new_writes
where_broken p f old_count new_count old_writes new_writes old new h (inl (inl none)) = inl none
where_broken p f old_count new_count old_writes new_writes old new h (inl (inr failed)) = inr (inl failed)
where_broken p f old_count new_count old_writes new_writes old new h (inr refused) =
    let below = leb-false not_pcap f.number h in
    let least = of_file p (refused.bytes ++ []) f (refused.each [] (λ e. refl)).value in absurd (omega (arith, below, least))

-- the refusal is written, and says this of the file
pub refusal_written : (IsText : Texts) (p : Parameters) (f : Fault) (r : Result ℕ Fault) (old_count new_count : ℕ) (oi ni oo on : Option (List ℕ)) → nat_le not_pcap f.number ≡ true
    → WhyNone p f old_count new_count oi ni → ((file : List ℕ) → IsRefusedSo p f file → IsText file (refused_line f) 1)
    → Writes r oo on (refused_line f) → IfOk r (λ s. s ≡ 1) → IfOk r (λ s. WritesVerdict IsText s oi ni oo on)
refusal_written IsText p f r old_count new_count oi ni oo on h g k l m = grind arith
