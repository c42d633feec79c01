-- What was read of a capture and added so far, and what that says of every file that begins so.
use Rattle.std.proofs.Common.{◌≡◌, ◌⊎◌, inl, inr, ◌++◌, append_assoc, ℕ, zero, suc, List, [], Option, Result, Ok, Err, false, refl, arith}
use Rattle.rasta_check.proofs.Prelude.{Fault, opening, reading, Parameters, AreParameters, Crossing, after_record, after_records}
use Rattle.rasta_check.proofs.Prelude.{crossing_of, nothing_crossed, crossing_left, OfConnection}
use Rattle.std.specs.Io.KnownBytes.{Consumes}
use Rattle.std.proofs.KnownBytes.{Consumes-nil, Consumes-trans}
use Rattle.rasta_pcap.specs.declared.stream.RecordReader.{RecordReader}
use Rattle.rasta_pcap.specs.Capture.{cursor_at}
use Rattle.rasta_pcap.specs.Stream.{FailsWithin, LacksMemory, MeetsEnd, Opens, ReadsRecord, ReadsSo, RefusesHeader, RefusesRecord, count_in, order_in}
use Rattle.rasta_pcap.proofs.Steps.{next-nil}
use Rattle.rasta_pcap.proofs.Streams.{ReadsSo-after}
use Rattle.rasta_check.specs.Internals.Storing.{AddsRecord, IsFailure, IsRefusedSo, IsStored}
use Rattle.rasta_check.proofs.Capture.FaultNumbers.{NamesSide, file_names_side}
use Rattle.rasta_check.proofs.Capture.FaultlessCaptures.{read_is_faultless}
use Rattle.rasta_check.proofs.Capture.RefusedCaptures.{opening_faulty, read_is_faulty}
use Rattle.rasta_check.proofs.Capture.Readings.{after-next, after-opened, after-refused}
use Rattle.rasta_check.proofs.Capture.DefiniteFaults.{is_definite, opening_definite}

-- bytes were read: of every input that begins so, what crosses is what crosses by the rest
pub record IsUnderway (whole rest : List ℕ → Result Crossing Fault) (old new : Option (List ℕ)) : Type 0 where
  pub bytes : List ℕ
  pub consumed : Consumes old new bytes
  pub each : (more : List ℕ) → whole (bytes ++ more) ≡ rest more

-- after a header what crosses by a file crosses by the bytes that are left
pub Underway-opened : (p : Parameters) (k : Crossing) (r : RecordReader) (last : ℕ) (old new : Option (List ℕ)) → Opens (order_in r) old new
    → count_in r ≡ 0 → k ≡ nothing_crossed p → last ≡ p.last_record → IsUnderway (crossing_of p) (crossing_left k r last) old new
Underway-opened p k r last old new h none nothing all = grind (arith, after-opened)

-- ---- a record more

pub Underway-record : (whole : List ℕ → Result Crossing Fault) (k next : Crossing) (r n : RecordReader) (left : ℕ) (old mid new : Option (List ℕ))
    → IsUnderway whole (crossing_left k r (suc left)) old mid → AddsRecord k next r n mid new → IsUnderway whole (crossing_left next n left) old new
unfolding after_records
Underway-record whole k next r n left old mid new h a =
    let next_bytes = λ (more : List ℕ). after-next k left (cursor_at (order_in r) (a.read.bytes ++ more) (count_in r)) _ (a.read.each more).0 in
    let consumed = Consumes-trans old mid new h.bytes a.read.bytes h.consumed a.read.consumed in
    grind (arith, append_assoc)

-- ---- the reading ends

-- what holds of every input that begins so
pub ReadsSo-then : {P Q : List ℕ → Type 0} (old new : Option (List ℕ)) → ((bytes : List ℕ) → P bytes → Q bytes) → ReadsSo P old new → ReadsSo Q old new
ReadsSo-then {P = P} {Q = Q} old new lift h = ReadsSo-after P Q [] old old new (Consumes-nil old) lift h

pub Underway-ends : (whole rest : List ℕ → Result Crossing Fault) (answer : Result Crossing Fault) (old mid new : Option (List ℕ))
    → IsUnderway whole rest old mid → ReadsSo (λ bytes. rest bytes ≡ answer) mid new → ReadsSo (λ bytes. whole bytes ≡ answer) old new
Underway-ends whole rest answer old mid new h e = grind (arith, ReadsSo-after)

pub Underway-begun : (whole rest : List ℕ → Result Crossing Fault) (old mid new : Option (List ℕ))
    → IsUnderway whole rest old mid → (bs : List ℕ) × Consumes mid new bs → (bs : List ℕ) × Consumes old new bs
Underway-begun whole rest old mid new h more = (h.bytes ++ more.0, Consumes-trans old mid new h.bytes more.0 h.consumed more.1)

pub all_at_end : (k : Crossing) (r : RecordReader) (left : ℕ) (old new : Option (List ℕ)) → MeetsEnd old new
    → ReadsSo (λ rest. crossing_left k r (suc left) rest ≡ Ok k) old new
unfolding after_records
all_at_end k r left old new h = grind (arith, after-next, next-nil)

pub all_with_window : (k : Crossing) (r : RecordReader) (i : Option (List ℕ)) → ReadsSo (λ rest. crossing_left k r zero rest ≡ Ok k) i i
unfolding after_records reading
all_with_window k r i = record { bytes = []; met_end = false; consumed = Consumes-nil i; at_end = λ e. absurd (cc); each = λ more follows. refl }

-- ---- the next record has a fault

-- every input that begins so has this fault at its next record
abbrev pub FaultsNext : Crossing → RecordReader → Fault → Option (List ℕ) → Option (List ℕ) → Type 0
FaultsNext k r f old new = ReadsSo (λ rest. (left : ℕ) → crossing_left k r (suc left) rest ≡ Err f) old new

pub next_faulty : (k : Crossing) (r : RecordReader) (number : ℕ) (bytes : List ℕ) (f : Fault) (old new : Option (List ℕ))
    → ReadsRecord (order_in r) (count_in r) (number, bytes) old new → after_record k (number, bytes) ≡ Err f → FaultsNext k r f old new
unfolding after_records
next_faulty k r number bytes f old new h e = grind (arith, after-next)

-- why there was no record
abbrev pub WhyNone : ℕ → RecordReader → ℕ → Fault → ℕ → ℕ → Option (List ℕ) → Option (List ℕ) → Type 0
WhyNone most r room f old_count new_count old new = FailsWithin most f old_count new_count old new
    ⊎ (LacksMemory (order_in r) room f old new ⊎ RefusesRecord (order_in r) (count_in r) f old new)

-- bytes were read; it is a failure, or the next record has this fault
pub why : (k : Crossing) (most : ℕ) (r : RecordReader) (room : ℕ) (f : Fault) (old_count new_count : ℕ) (old new : Option (List ℕ))
    → WhyNone most r room f old_count new_count old new → ((bs : List ℕ) × Consumes old new bs) × (IsFailure f old_count new_count ⊎ FaultsNext k r f old new)
unfolding after_records
why k most r room f old_count new_count old new (inl failed) = grind arith
why k most r room f old_count new_count old new (inr w) = grind (arith, after-next)

-- ---- a whole file

file_refused : (p : Parameters) (file : List ℕ) (f : Fault) → OfConnection p → crossing_of p file ≡ Err f → IsRefusedSo p f file
file_refused p file f h e = record {
  value = e;
  only = λ are. read_is_faulty p file f h are e;
  definite = λ are is. (is_definite p file f h are e is).impossible;
}

header_refused : (p : Parameters) (file : List ℕ) (f : Fault) → AreParameters p → opening file ≡ Err f → IsRefusedSo p f file
header_refused p file f valid e = (let v = after-refused p file f e in let only = opening_faulty p file f valid e in let definite = opening_definite p file f e in grind arith)

module _ (p : Parameters) (h : OfConnection p) (rest : List ℕ → Result Crossing Fault) (old mid new : Option (List ℕ))
    (u : IsUnderway (crossing_of p) rest old mid) where
  pub stored : (k : Crossing) → ReadsSo (λ bytes. rest bytes ≡ Ok k) mid new → ReadsSo (IsStored p k) old new
  stored k e = ReadsSo-then old new (λ bytes e. record { value = e; read = λ are. read_is_faultless p bytes k h are e }) (Underway-ends (crossing_of p) rest (Ok k) old mid new u e)

  pub refused : (f : Fault) → ReadsSo (λ bytes. rest bytes ≡ Err f) mid new → ReadsSo (IsRefusedSo p f) old new
  refused f e = ReadsSo-then old new (λ bytes. file_refused p bytes f h) (Underway-ends (crossing_of p) rest (Err f) old mid new u e)

pub header_answer : (p : Parameters) (most : ℕ) (f : Fault) (old_count new_count : ℕ) (old new : Option (List ℕ)) → AreParameters p
    → FailsWithin most f old_count new_count old new ⊎ RefusesHeader f old new
    → ((bs : List ℕ) × Consumes old new bs) × (IsFailure f old_count new_count ⊎ ReadsSo (IsRefusedSo p f) old new)
header_answer p most f old_count new_count old new valid (inl failed) = ((failed.2.0, failed.2.1), inl (inr (failed.0, failed.1)))
header_answer p most f old_count new_count old new valid (inr h) = ((h.bytes, h.consumed), inr (ReadsSo-then old new (λ bytes is. header_refused p bytes f valid is) h))

-- ---- the fault speaks of a side where its number says so

pub refused_names_side : (p : Parameters) (f : Fault) (old_count new_count : ℕ) (old new : Option (List ℕ))
    → IsFailure f old_count new_count ⊎ ReadsSo (IsRefusedSo p f) old new → NamesSide f
refused_names_side p f old_count new_count old new (inl failed) = grind arith
refused_names_side p f old_count new_count old new (inr e) = file_names_side p (e.bytes ++ []) f (e.each [] (λ met. refl)).value
