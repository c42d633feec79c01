-- A capture that is read record by record, and why no further record is read.
use Rattle.std.proofs.Common.{◌≡◌, ◌⊎◌, ◌+◌, ◌≤◌, ◌++◌, ℕ, [], List, Option, Err, Bool, true, false, ap, arith, inl, inr, length, nat_eq, nat_le, nat_lt, refl, subst, sym}
use Rattle.std.proofs.lemmas.Bool.{leb-false}
use Rattle.rasta_pcap.specs.declared.fault.Fault.{Fault}
use Rattle.rasta_pcap.specs.declared.pcap.Endianness.{Endianness}
use Rattle.rasta_pcap.specs.Capture.{FileCursor, Numbered, cursor_at, max_captured, max_records, next, next_bytes, next_length}
use Rattle.rasta_pcap.specs.Devices.{HasFailed}
use Rattle.rasta_pcap.specs.Extent.{HasRead}
use Rattle.rasta_pcap.specs.Fault.{cut_record, fault_at, no_memory, not_pcap, read_failed, record_too_long, too_many}
use Rattle.rasta_pcap.specs.Stream.{FailsWithin, LacksMemory, ReadsRecord, RefusesHeader, RefusesRecord}
use Rattle.rasta_pcap.proofs.Steps.{Outcome, tested}
use Rattle.seatmelon_survey.specs.Extents.{RefusesNext}

-- a record's number is that of the record before it and one
pub record-number : (order : Endianness) (count : ℕ) (r : Numbered) (old new : Option (List ℕ)) → ReadsRecord order count r old new
    → r.0 ≡ count + 1
record-number order count r old new found = sym (ap (λ (c : FileCursor). c.count) (found.each []).1)

-- ---- the number of a record's fault

abbrev faulty : Fault → Outcome
faulty f = Err f

number_of : (f : Fault) (number place : ℕ) → faulty (fault_at number place) ≡ faulty f → 10 ≤ number → 10 ≤ f.number
number_of f number place h least = let e : fault_at number place ≡ f = cc in rw (← e) least

tested-number : (ended full short long cut : Bool) (place : ℕ) (r : Numbered) (f : Fault) → tested ended full short long cut place r ≡ Err f
    → 10 ≤ f.number
tested-number true full short long cut place r f h = absurd (cc)
tested-number false true short long cut place r f h = number_of f too_many place h (omega arith)
tested-number false false true long cut place r f h = number_of f cut_record place h (omega arith)
tested-number false false false true cut place r f h = number_of f record_too_long place h (omega arith)
tested-number false false false false true place r f h = number_of f cut_record place h (omega arith)
tested-number false false false false false place r f h = absurd (cc)

next-number : (c : FileCursor) (f : Fault) → next c ≡ Err f → 10 ≤ f.number
next-number c f h =
    let size = length c.rest in
    let captured = next_length c in
    tested-number (nat_eq size 0) (nat_le max_records c.count) (nat_lt size 16) (nat_lt max_captured captured)
    (nat_lt size (16 + captured)) (c.count + 1) (c.count + 1, next_bytes c) f h

-- ---- why no further record is read

abbrev WhyNone : Endianness → ℕ → ℕ → ℕ → Fault → ℕ → ℕ → Option (List ℕ) → Option (List ℕ) → Type 0
WhyNone order count room most f old_count new_count old new =
    FailsWithin most f old_count new_count old new ⊎ (LacksMemory order room f old new ⊎ RefusesRecord order count f old new)

-- a fault that is none of the capture: memory or the reader failed
pub failed : (f : Fault) (order : Endianness) (count room most first_count old_count new_count : ℕ) (first old new : Option (List ℕ))
    → nat_le not_pcap f.number ≡ false → old_count ≡ first_count → WhyNone order count room most f old_count new_count old new
    → (f ≡ no_memory) ⊎ (((f ≡ read_failed) × HasFailed first_count new_count) ⊎ RefusesHeader f first new)
failed f order count room most first_count old_count new_count first old new is same (inl why) =
    inr (inl (why.0, subst (λ n. HasFailed n new_count) same why.1))
failed f order count room most first_count old_count new_count first old new is same (inr (inl lacking)) = inl lacking.0
failed f order count room most first_count old_count new_count first old new is same (inr (inr refused)) =
    let below = leb-false not_pcap f.number is in
    let least = next-number (cursor_at order (refused.bytes ++ []) count) f (refused.each [] (λ e. refl)) in absurd (omega (arith, below, least))

no_fault_of_reading : (f : Fault) → f ≡ read_failed → nat_le not_pcap f.number ≡ true → ⊥
no_fault_of_reading f same is = let e = subst (λ (g : Fault). nat_le not_pcap g.number ≡ true) same is in absurd cc

no_fault_of_memory : (f : Fault) → f ≡ no_memory → nat_le not_pcap f.number ≡ true → ⊥
no_fault_of_memory f same is = let e = subst (λ (g : Fault). nat_le not_pcap g.number ≡ true) same is in absurd cc

-- a fault of the capture: the next record has it
pub refused : (f : Fault) (order : Endianness) (count room most old_count new_count : ℕ) (first old new : Option (List ℕ))
    → nat_le not_pcap f.number ≡ true → HasRead order count first old → WhyNone order count room most f old_count new_count old new
    → RefusesNext f count first new
refused f order count room most old_count new_count first old new is read (inl why) = absurd (no_fault_of_reading f why.0 is)
refused f order count room most old_count new_count first old new is read (inr (inl lacking)) = absurd (no_fault_of_memory f lacking.0 is)
refused f order count room most old_count new_count first old new is read (inr (inr why)) = record { order = order; middle = old; read = read; refused = why }
