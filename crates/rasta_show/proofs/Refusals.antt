-- Refusals of a capture are told from faults of memory and of its reader by their numbers.
use Rattle.std.proofs.Common.{◌≡◌, ◌⊎◌, inl, inr, ◌+◌, ◌≤◌, ◌++◌, ℕ, List, [], Option, Some, None, Result, Ok, Err, Bool, true, false, cond, length, nat_eq, nat_le, nat_lt, refl, ap, subst, arith}
use Rattle.std.proofs.lemmas.Bool.{leb-true, leb-false}
use Rattle.std.specs.Io.KnownBytes.{Consumes}
use Rattle.rasta_pcap.specs.declared.fault.Fault.{Fault}
use Rattle.rasta_pcap.specs.declared.pcap.Endianness.{Endianness}
use Rattle.rasta_pcap.specs.Capture.{FileCursor, Numbered, next_bytes, cursor_at, next_length, max_captured, max_records, next, opening, opening_in, order_of}
use Rattle.rasta_pcap.specs.Devices.{HasFailed}
use Rattle.rasta_pcap.specs.Fault.{fault_at, cut_header, cut_record, no_memory, not_pcap, read_failed, record_too_long, too_many, wrong_link_type, wrong_version}
use Rattle.rasta_pcap.specs.Stream.{FailsWithin, LacksMemory, RefusesHeader, RefusesRecord}
use Rattle.rasta_pcap.proofs.Steps.{Outcome, tested}
use Rattle.rasta_line.specs.Runs.{IsRunFault}

abbrev faulty : Fault → Outcome
faulty f = Err f

-- the fault of a test has its number
number_of : (f : Fault) (number place : ℕ) → faulty (fault_at number place) ≡ faulty f → 10 ≤ number → 10 ≤ f.number
number_of f number place h least = let e : fault_at number place ≡ f = cc in rw (← e) least

tested-number : (ended full short long cut : Bool) (place : ℕ) (r : Numbered) (f : Fault) → tested ended full short long cut place r ≡ Err f
    → 10 ≤ f.number
tested-number true full short long cut place r f h = absurd (cc)
tested-number false true short long cut place r f h = number_of f too_many place h (omega arith)
tested-number false false true long cut place r f h = number_of f cut_record place h (omega arith)
tested-number false false false true cut place r f h = number_of f record_too_long place h (omega arith)
tested-number false false false false true place r f h = number_of f cut_record place h (omega arith)
tested-number false false false false false place r f h = absurd (cc)

pub next-number : (c : FileCursor) (f : Fault) → next c ≡ Err f → 10 ≤ f.number
next-number c f h =
    let size = length c.rest in
    let captured = next_length c in
    tested-number (nat_eq size 0) (nat_le max_records c.count) (nat_lt size 16) (nat_lt max_captured captured)
    (nat_lt size (16 + captured)) (c.count + 1) (c.count + 1, next_bytes c) f h

abbrev unopened : Fault → Result FileCursor Fault
unopened f = Err f

header_number_of : (f : Fault) (number : ℕ) → unopened (fault_at number 0) ≡ unopened f → 10 ≤ number → 10 ≤ f.number
header_number_of f number h least = let e : fault_at number 0 ≡ f = cc in rw (← e) least

judged-number : (version link : Bool) (c : FileCursor) (f : Fault)
    → cond version (cond link (Ok c) (Err (fault_at wrong_link_type 0))) (Err (fault_at wrong_version 0)) ≡ Err f → 10 ≤ f.number
judged-number true true c f h = absurd (cc)
judged-number true false c f h = header_number_of f wrong_link_type h (omega arith)
judged-number false link c f h = header_number_of f wrong_version h (omega arith)

opened-number : (short : Bool) (order : Option Endianness) (file : List ℕ) (f : Fault)
    → cond short (Err (fault_at cut_header 0)) (opening_in order file) ≡ Err f → 10 ≤ f.number
opened-number true order file f h = header_number_of f cut_header h (omega arith)
opened-number false None file f h = header_number_of f not_pcap h (omega arith)
opened-number false (Some order) file f h = judged-number _ _ _ f h

pub opening-number : (file : List ℕ) (f : Fault) → opening file ≡ Err f → 10 ≤ f.number
opening-number file f h = opened-number (nat_lt (length file) 24) (order_of file) file f h

-- some bytes were read when memory ran out, or the reader failed
abbrev pub Breaks : Fault → ℕ → ℕ → Option (List ℕ) → Option (List ℕ) → Type 0
Breaks f old_count new_count old new = (bytes : List ℕ) × Consumes old new bytes
    × ((f ≡ no_memory) ⊎ ((f ≡ read_failed) × HasFailed old_count new_count))

-- such a fault is one of a run, whose reader had not failed before
pub broken_run : (f : Fault) (first_reads old_reads new_reads old_writes new_writes : ℕ) → old_reads ≡ first_reads
    → (f ≡ no_memory) ⊎ ((f ≡ read_failed) × HasFailed old_reads new_reads) → IsRunFault f first_reads new_reads old_writes new_writes
broken_run f first_reads old_reads new_reads old_writes new_writes e (inl is) = inl is
broken_run f first_reads old_reads new_reads old_writes new_writes e (inr failed) =
    inr (inl (failed.0, subst (λ n. HasFailed n new_reads) e failed.1))

failed_number : (f g : Fault) → f ≡ g → f.number ≡ g.number
failed_number f g e = ap (λ (h : Fault). h.number) e

-- ---- a record

abbrev pub WhyNone : Endianness → ℕ → ℕ → ℕ → Fault → ℕ → ℕ → Option (List ℕ) → Option (List ℕ) → Type 0
WhyNone order count room most f old_count new_count old new = FailsWithin most f old_count new_count old new
    ⊎ (LacksMemory order room f old new ⊎ RefusesRecord order count f old new)

pub where_refused : (order : Endianness) (count room most : ℕ) (f : Fault) (old_count new_count : ℕ) (old new : Option (List ℕ))
    → nat_le not_pcap f.number ≡ true → WhyNone order count room most f old_count new_count old new → RefusesRecord order count f old new
where_refused order count room most f old_count new_count old new h (inl failed) =
    let least = leb-true not_pcap f.number h in
    let is = failed_number f read_failed failed.0 in absurd (omega (arith, least, is))
where_refused order count room most f old_count new_count old new h (inr (inl lacking)) =
    let least = leb-true not_pcap f.number h in
    let is = failed_number f no_memory lacking.0 in absurd (omega (arith, least, is))
where_refused order count room most f old_count new_count old new h (inr (inr refused)) = refused

pub where_broken : (order : Endianness) (count room most : ℕ) (f : Fault) (old_count new_count : ℕ) (old new : Option (List ℕ))
    → nat_le not_pcap f.number ≡ false → WhyNone order count room most f old_count new_count old new → Breaks f old_count new_count old new
where_broken order count room most f old_count new_count old new h (inl failed) =
    (failed.2.0, failed.2.1, inr (failed.0, failed.1))
where_broken order count room most f old_count new_count old new h (inr (inl lacking)) =
    (lacking.1.bytes, lacking.1.consumed, inl lacking.0)
where_broken order count room most f old_count new_count old new h (inr (inr refused)) =
    let below = leb-false not_pcap f.number h in
    let least = next-number (cursor_at order (refused.bytes ++ []) count) f (refused.each [] (λ e. refl)) in absurd (omega (arith, below, least))

-- ---- a header

pub header_refused : (most : ℕ) (f : Fault) (old_count new_count : ℕ) (old new : Option (List ℕ)) → nat_le not_pcap f.number ≡ true
    → FailsWithin most f old_count new_count old new ⊎ RefusesHeader f old new → RefusesHeader f old new
header_refused most f old_count new_count old new h (inl failed) =
    let least = leb-true not_pcap f.number h in
    let is = failed_number f read_failed failed.0 in absurd (omega (arith, least, is))
header_refused most f old_count new_count old new h (inr refused) = refused

pub header_broken : (most : ℕ) (f : Fault) (old_count new_count : ℕ) (old new : Option (List ℕ)) → nat_le not_pcap f.number ≡ false
    → FailsWithin most f old_count new_count old new ⊎ RefusesHeader f old new → Breaks f old_count new_count old new
header_broken most f old_count new_count old new h (inl failed) = (failed.2.0, failed.2.1, inr (failed.0, failed.1))
header_broken most f old_count new_count old new h (inr refused) =
    let below = leb-false not_pcap f.number h in
    let least = opening-number (refused.bytes ++ []) f (refused.each [] (λ e. refl)) in absurd (omega (arith, below, least))
