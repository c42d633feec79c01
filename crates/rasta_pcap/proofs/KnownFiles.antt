-- What a step of a reader says of a file that is known.
use Rattle.std.proofs.Common.{◌≡◌, ◌∙◌, ℕ, ◌+◌, ◌-◌, ◌≤◌, List, ◌++◌, length, length-append, length-drop, length-take, min, take, drop, Option, Some, None, Ok, Err, refl, sym, ap, subst, arith}
use lib.Seq.{take-append-le, take-append_seam}
use Rattle.std.specs.Io.KnownBytes.{Consumes, IsAtEnd}
use Rattle.rasta_pcap.specs.declared.fault.Fault.{Fault}
use Rattle.rasta_pcap.specs.declared.pcap.Endianness.{Endianness}
use Rattle.rasta_pcap.specs.declared.time.CaptureTime.{CaptureTime}
use Rattle.rasta_pcap.specs.declared.time.FractionUnit.{FractionUnit}
use Rattle.rasta_pcap.specs.Capture.{FileCursor, Numbered, cursor_after, cursor_at, next, next_length, opening}
use Rattle.rasta_pcap.specs.Stream.{MeetsEnd, Opens, ReadsRecord, RefusesHeader, RefusesRecord}
use Rattle.rasta_pcap.specs.Times.{TellsTime, TellsUnit, time_of, unit_of}
use Rattle.rasta_pcap.proofs.Headers.{opening-is_header}
use Rattle.rasta_pcap.proofs.Steps.{next-is_next_entry, next-nil}

-- what follows in a file after some bytes
pub record IsRest (file bytes : List ℕ) (new : Option (List ℕ)) : Type 0 where
  pub more : List ℕ
  pub left : new ≡ Some more
  pub whole : file ≡ bytes ++ more

pub rest_after : (file bytes : List ℕ) (new : Option (List ℕ)) → Consumes (Some file) new bytes → IsRest file bytes new
rest_after file bytes None e = absurd e
rest_after file bytes (Some more) e = record { more = more; left = refl; whole = e }

abbrev some : List ℕ → Option (List ℕ)
some l = Some l

same_rest : (a b : List ℕ) → some a ≡ some b → a ≡ b
same_rest a b e = cc

-- what is left after one read is left after the other
same_more : (file first other : List ℕ) (new : Option (List ℕ)) (a : IsRest file first new) (b : IsRest file other new) → b.more ≡ a.more
same_more file first other new a b = same_rest b.more a.more (sym b.left ∙ a.left)

-- ---- the header

pub record OpensTo (order : Endianness) (unit : FractionUnit) (file : List ℕ) (new : Option (List ℕ)) : Type 0 where
  pub rest : List ℕ
  pub left : new ≡ Some rest
  pub is : opening file ≡ Ok (cursor_at order rest 0)
  pub told : unit ≡ unit_of order (take 24 file)

abbrev rest_of : FileCursor → List ℕ
rest_of c = c.rest

-- the bytes that were read are those of the header
front_is : (file bytes more : List ℕ) → file ≡ bytes ++ more → 24 ≤ length file → more ≡ drop 24 file → take 24 file ≡ bytes
front_is file bytes more whole long after =
    let sum : length file ≡ length bytes + length more = ap length whole ∙ length-append bytes more in
    let rest : length more ≡ length file - 24 = ap length after ∙ length-drop 24 file in
    let size : length bytes ≡ 24 = omega arith in
    ap (take 24) whole ∙ ap (λ n. take n (bytes ++ more)) (sym size) ∙ take-append_seam bytes more

pub known_header : (order : Endianness) (unit : FractionUnit) (file : List ℕ) (new : Option (List ℕ))
    → Opens order (Some file) new → TellsUnit order unit (Some file) new → OpensTo order unit file new
known_header order unit file new h t =
    let rest = rest_after file h.bytes new h.consumed in
    let is = subst (λ l. opening l ≡ Ok (cursor_at order rest.more 0)) (sym rest.whole) (h.each rest.more) in
    let header = opening-is_header file (cursor_at order rest.more 0) is in
    let other = rest_after file t.0 new t.1 in
    let after : rest.more ≡ drop 24 file = ap rest_of header.1 in
    let size = header.0.size in
    let long : 24 ≤ length file = (let s : min 24 (length file) ≡ 24 = rw (← length-take) size in omega arith) in record {
      rest = rest.more;
      left = rest.left;
      is = is;
      told = t.2 ∙ ap (unit_of order) (sym (front_is file t.0 other.more other.whole long (same_more file h.bytes t.0 new rest other ∙ after)));
    }

pub known_header_refusal : (f : Fault) (file : List ℕ) (new : Option (List ℕ)) → RefusesHeader f (Some file) new → opening file ≡ Err f
known_header_refusal f file new h =
    let rest = rest_after file h.bytes new h.consumed in
    subst (λ l. opening l ≡ Err f) (sym rest.whole) (h.each rest.more (λ met. subst (λ (o : Option (List ℕ)). IsAtEnd o) rest.left (h.at_end met)))

-- ---- a record

-- the record that was read is the next one of the file
pub record NextOf (order : Endianness) (unit : FractionUnit) (count : ℕ) (r : Numbered) (time : Option CaptureTime) (file : List ℕ) (new : Option (List ℕ)) : Type 0 where
  pub rest : List ℕ
  pub left : new ≡ Some rest
  pub is : next (cursor_at order file count) ≡ Ok (Some r)
  pub after : cursor_after (cursor_at order file count) ≡ cursor_at order rest r.0
  pub timed : time ≡ Some (time_of order unit (take 16 file))

abbrev rest_size : FileCursor → ℕ
rest_size c = length c.rest

-- the header of a record stands in the bytes that were read
header_is : (file bytes more : List ℕ) (captured : ℕ) → file ≡ bytes ++ more → 16 + captured ≤ length file → more ≡ drop captured (drop 16 file)
    → take 16 file ≡ take 16 bytes
header_is file bytes more captured whole long after =
    let sum : length file ≡ length bytes + length more = ap length whole ∙ length-append bytes more in
    let rest : length more ≡ (length file - 16) - captured = ap length after ∙ length-drop captured (drop 16 file) ∙ ap (λ n. n - captured) (length-drop 16 file) in
    ap (take 16) whole ∙ take-append-le 16 bytes more (omega arith)

abbrev timed : CaptureTime → Option CaptureTime
timed t = Some t

pub known_record : (order : Endianness) (unit : FractionUnit) (count : ℕ) (r : Numbered) (time : Option CaptureTime) (file : List ℕ) (new : Option (List ℕ))
    → ReadsRecord order count r (Some file) new → TellsTime order unit time (Some file) new → NextOf order unit count r time file new
known_record order unit count r time file new h t =
    let rest = rest_after file h.bytes new h.consumed in
    let c = cursor_at order file count in
    let is = subst (λ l. next (cursor_at order l count) ≡ Ok (Some r)) (sym rest.whole) (h.each rest.more).0 in
    let after = subst (λ l. cursor_after (cursor_at order l count) ≡ cursor_at order rest.more r.0) (sym rest.whole) (h.each rest.more).1 in
    let entry = next-is_next_entry c r is in
    let other = rest_after file t.0 new t.1 in
    let left : other.more ≡ drop (next_length c) (drop 16 file) = same_more file h.bytes t.0 new rest other ∙ sym (ap rest_of after) in record {
      rest = rest.more;
      left = rest.left;
      is = is;
      after = after;
      timed = t.2 ∙ ap (λ l. timed (time_of order unit l)) (sym (header_is file t.0 other.more (next_length c) other.whole entry.whole left));
    }

-- nothing is read at the end of the file
pub known_end : (order : Endianness) (count : ℕ) (file : List ℕ) (new : Option (List ℕ)) → MeetsEnd (Some file) new → next (cursor_at order file count) ≡ Ok None
known_end order count file None h = absurd h.0
known_end order count file (Some more) h = next-nil (cursor_at order file count) (h.0 ∙ h.1)

pub known_refusal : (order : Endianness) (count : ℕ) (f : Fault) (file : List ℕ) (new : Option (List ℕ))
    → RefusesRecord order count f (Some file) new → next (cursor_at order file count) ≡ Err f
known_refusal order count f file new h =
    let rest = rest_after file h.bytes new h.consumed in
    subst (λ l. next (cursor_at order l count) ≡ Err f) (sym rest.whole) (h.each rest.more (λ met. subst (λ (o : Option (List ℕ)). IsAtEnd o) rest.left (h.at_end met)))
