-- What is noted of bytes that pass one after the other.
use Rattle.std.proofs.Common.{ℕ, List, ◌++◌, Option, append_assoc, subst}
use Rattle.std.proofs.KnownBytes.{Consumes-trans}
use Rattle.rasta_pcap.specs.Noting.{NotesOn, PassesOn}

pub NotesOn-then : {S : Type 0} (notes : S → List ℕ → Type 0) (old mid new : S) (bytes more : List ℕ)
    → NotesOn notes old mid bytes → NotesOn notes mid new more → NotesOn notes old new (bytes ++ more)
NotesOn-then notes old mid new bytes more first next passed noted =
    subst (notes new) (append_assoc passed bytes more) (next (passed ++ bytes) (first passed noted))

pub PassesOn-then : {S : Type 0} (remaining : S → Option (List ℕ)) (notes : S → List ℕ → Type 0) (old mid new : S)
    → PassesOn remaining notes old mid → PassesOn remaining notes mid new → PassesOn remaining notes old new
PassesOn-then remaining notes old mid new first next = (
  first.0 ++ next.0,
  Consumes-trans _ _ _ _ _ first.1 next.1,
  NotesOn-then notes old mid new first.0 next.0 first.2 next.2,
)
