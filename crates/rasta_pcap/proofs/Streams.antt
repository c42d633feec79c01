-- What was read of a capture, and the reading of every file that begins so.
use Rattle.std.proofs.Common.{◌≡◌, ◌∙◌, ℕ, suc, List, [], ◌++◌, Option, Some, None, refl, sym, ap, subst, append_assoc}
use Rattle.std.specs.Io.KnownBytes.{Consumes}
use Rattle.std.proofs.KnownBytes.{Consumes-trans}
use Rattle.rasta_pcap.specs.declared.fault.Fault.{Fault}
use Rattle.rasta_pcap.specs.declared.pcap.Endianness.{Endianness}
use Rattle.rasta_pcap.specs.Capture.{Numbered, cursor_at, reading, reading_of, with_record}
use Rattle.rasta_pcap.specs.Stream.{MayFollow, ReadsSo, ReadsJust, Opens, RefusesHeader, ReadsRecord, RefusesRecord}
use Rattle.rasta_pcap.proofs.Steps.{next-nil, reading-end, reading-fault, reading-record, reading_of-opened, reading_of-refused}

-- after a header, the file's reading goes on from its cursor
pub reading_of-Opens : (limit : ℕ) (order : Endianness) (old new : Option (List ℕ)) (h : Opens order old new) (more : List ℕ)
    → reading_of limit (h.bytes ++ more) ≡ reading limit (cursor_at order more 0)
reading_of-Opens limit order old new h more = reading_of-opened limit (h.bytes ++ more) (cursor_at order more 0) (h.each more)

pub reading_of-RefusesHeader : (limit : ℕ) (f : Fault) (old new : Option (List ℕ)) (h : RefusesHeader f old new) (more : List ℕ)
    → MayFollow h.met_end more → reading_of limit (h.bytes ++ more) ≡ record { records = []; fault = Some f }
reading_of-RefusesHeader limit f old new h more follows = reading_of-refused limit (h.bytes ++ more) f (h.each more follows)

-- a record that was read is the first of the reading
pub reading-ReadsRecord : (left : ℕ) (order : Endianness) (count : ℕ) (r : Numbered) (old new : Option (List ℕ)) (h : ReadsRecord order count r old new)
    (more : List ℕ) → reading (suc left) (cursor_at order (h.bytes ++ more) count) ≡ with_record r (reading left (cursor_at order more r.0))
reading-ReadsRecord left order count r old new h more =
    reading-record left (cursor_at order (h.bytes ++ more) count) r (h.each more).0
    ∙ ap (λ c. with_record r (reading left c)) (h.each more).1

pub reading-RefusesRecord : (left : ℕ) (order : Endianness) (count : ℕ) (f : Fault) (old new : Option (List ℕ)) (h : RefusesRecord order count f old new)
    (more : List ℕ) → MayFollow h.met_end more
    → reading (suc left) (cursor_at order (h.bytes ++ more) count) ≡ record { records = []; fault = Some f }
reading-RefusesRecord left order count f old new h more follows =
    reading-fault left (cursor_at order (h.bytes ++ more) count) f (h.each more follows)

-- nothing is read at the exact end
pub reading-at_end : (left : ℕ) (order : Endianness) (count : ℕ) → reading (suc left) (cursor_at order [] count) ≡ record { records = []; fault = None }
reading-at_end left order count = let c = cursor_at order [] count in reading-end left c (next-nil c refl)

-- what holds of every input that begins so holds with what was read before
pub ReadsSo-after : (P Q : List ℕ → Type 0) (front : List ℕ) (old mid new : Option (List ℕ)) → Consumes old mid front
    → ((rest : List ℕ) → P rest → Q (front ++ rest)) → ReadsSo P mid new → ReadsSo Q old new
ReadsSo-after P Q front old mid new consumed lift h = record {
  bytes = front ++ h.bytes;
  met_end = h.met_end;
  consumed = Consumes-trans old mid new front h.bytes consumed h.consumed;
  at_end = h.at_end;
  each = λ more follows. subst Q (sym (append_assoc front h.bytes more)) (lift (h.bytes ++ more) (h.each more follows));
}

pub ReadsJust-after : (P Q : List ℕ → List ℕ → Type 0) (front : List ℕ) (old mid new : Option (List ℕ)) → Consumes old mid front
    → ((rest after : List ℕ) → P rest after → Q (front ++ rest) after) → ReadsJust P mid new → ReadsJust Q old new
ReadsJust-after P Q front old mid new consumed lift h = record {
  bytes = front ++ h.bytes;
  consumed = Consumes-trans old mid new front h.bytes consumed h.consumed;
  each = λ more. subst (λ l. Q l more) (sym (append_assoc front h.bytes more)) (lift (h.bytes ++ more) more (h.each more));
}
