-- Why nothing is listed of a capture says it of its file.
use Rattle.std.proofs.Common.{◌≡◌, ◌⊎◌, ℕ, List, Option, None, Some, IfSome, option_map, inl, inr, subst, sym}
use Rattle.rasta_pcap.specs.Fault.{no_memory, read_failed, write_failed}
use Rattle.rasta_pcap.specs.Stream.{RefusesHeader}
use Rattle.rasta_pcap.specs.declared.fault.Fault.{Fault}
use Rattle.seatmelon_pcapng.specs.Formats.{capture_of}

-- why nothing is listed of an input
abbrev pub WhyNot : Option (List ℕ) → Fault → Type 0
WhyNot input f = (f ≡ no_memory) ⊎ ((f ≡ read_failed) ⊎ ((f ≡ write_failed) ⊎ ((left : Option (List ℕ)) × RefusesHeader f input left)))

-- what is read is the capture of the file, where that is known
module _ (read : Option (List ℕ)) where
  refuses : (file : Option (List ℕ)) → IfSome file (λ f. read ≡ Some (capture_of f)) → (f : Fault) (left : Option (List ℕ)) → RefusesHeader f read left
      → (left : Option (List ℕ)) × RefusesHeader f (option_map capture_of file) left
  refuses None is f left h = (None, record { bytes = h.bytes; met_end = h.met_end; consumed = tt; at_end = λ met. tt; each = h.each })
  refuses (Some file) is f left h = (left, subst (λ (o : Option (List ℕ)). RefusesHeader f o left) is h)

  why_through : (file : Option (List ℕ)) → IfSome file (λ f. read ≡ Some (capture_of f)) → (f : Fault) → WhyNot read f → WhyNot (option_map capture_of file) f
  why_through file is f (inl memory) = inl memory
  why_through file is f (inr (inl failed)) = inr (inl failed)
  why_through file is f (inr (inr (inl failed))) = inr (inr (inl failed))
  why_through file is f (inr (inr (inr refused))) = inr (inr (inr (refuses file is f refused.0 refused.1)))

  -- the fault that was met may be told as want of memory
  pub why_told : (file : Option (List ℕ)) → IfSome file (λ f. read ≡ Some (capture_of f)) → (f told : Fault) → (told ≡ f) ⊎ (told ≡ no_memory) → WhyNot read f
      → WhyNot (option_map capture_of file) told
  why_told file is f told (inl same) h = subst (WhyNot (option_map capture_of file)) (sym same) (why_through file is f h)
  why_told file is f told (inr memory) h = inl memory
