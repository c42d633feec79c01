-- What was seen of a walk is the listing of its file.
use Rattle.std.proofs.Common.{◌≡◌, ◌∙◌, ℕ, List, [], ◌∷◌, ◌++◌, map, Option, None, Some, IfSome, Result, Ok, Err, OnOk, ap, subst, sym}
use Rattle.std.proofs.lemmas.List.{map-append}
use Rattle.rasta_pcap.specs.declared.fault.Fault.{Fault}
use Rattle.rasta_pcap.specs.declared.stream.RecordReader.{RecordReader}
use Rattle.rasta_pcap.specs.Capture.{Numbered, Reading}
use Rattle.rasta_pcap.specs.Captured.{Captured, numbered, walk_of}
use Rattle.rasta_pcap.specs.Stream.{Opens, count_in, order_in, unit_in}
use Rattle.rasta_pcap.specs.Times.{TellsUnit}
use Rattle.rasta_pcap.specs.Walk.{IsOpened, IsSeen}
use Rattle.rasta_pcap.proofs.Walks.{header_read, seen_through, walk-is_reading}
use Rattle.rasta_pdu.specs.Params.{Parameters}
use Rattle.seatmelon_show.specs.Counted.{AreCounts, IsListing}
use Rattle.seatmelon_show.specs.declared.choice.Choice.{Choice}
use Rattle.seatmelon_show.specs.declared.counts.Counts.{Counts}
use Rattle.seatmelon_show.specs.declared.listing.Listing.{Listing}

abbrev pub AreCounted : Parameters → Choice → List Captured → Counts → Type 0
AreCounted p c records n = AreCounts p c (map numbered records) n

-- by other names for the same parameters and the same choice
pub counted_as : (p q : Parameters) (c d : Choice) (records : List Captured) (n : Counts) → p ≡ q → c ≡ d → AreCounted p c records n → AreCounted q d records n
counted_as p q c d records n e f h = subst (λ (x : Choice). AreCounted q x records n) f (subst (λ (x : Parameters). AreCounted x c records n) e h)

-- one record more
pub counted_more : (p : Parameters) (c : Choice) (done : List Captured) (q : Captured) (r : Numbered) (n : Counts) → numbered q ≡ r
    → AreCounts p c (map numbered done ++ r ∷ []) n → AreCounted p c (done ++ q ∷ []) n
counted_more p c done q r n is h =
    subst (λ l. AreCounts p c l n) (ap (λ (x : Numbered). map numbered done ++ x ∷ []) (sym is) ∙ sym (map-append numbered done (q ∷ []))) h

module _ (p : Parameters) (c : Choice) (l : Listing) where
  is_listing : (file : List ℕ) → AreCounted p c (walk_of p.last_record file).records l.counts → l.fault ≡ (walk_of p.last_record file).fault → IsListing p c file l
  is_listing file counts fault =
      let same = walk-is_reading p.last_record file in record {
        counts = subst (λ r. AreCounts p c r l.counts) (ap (λ (g : Reading). g.records) same) counts;
        fault = fault ∙ ap (λ (g : Reading). g.fault) same;
      }

  abbrev IsTold : List Captured → Option Fault → Type 0
  IsTold records fault = AreCounted p c records l.counts × (l.fault ≡ fault)

  pub capture_listed : {V Start : Type 0} (seen : V → List Captured → Type 0) (ended : V → List Captured → Fault → Type 0) (new : V) (most : ℕ) → most ≡ p.last_record
      → ((done : List Captured) → seen new done → IsTold done None) → ((done : List Captured) (f : Fault) → ended new done f → IsTold done (Some f)) → Start
      → (input after : Option (List ℕ)) (records : RecordReader) → Opens (order_in records) input after → TellsUnit (order_in records) (unit_in records) input after → count_in records ≡ 0
      → ((file : List ℕ) → IsOpened file most records after → Start → IsSeen seen ended (walk_of most file) new)
      → IfSome input (λ file. IsListing p c file l)
  capture_listed seen ended new most is all to begun None after records opens tells none read = tt
  capture_listed seen ended new most is all to begun (Some file) after records opens tells none read =
      let w = walk_of most file in
      let told = seen_through seen ended IsTold new all to w.records w.fault (read file (header_read file most records after opens tells none) begun) in
      is_listing file (subst (λ n. AreCounted p c (walk_of n file).records l.counts) is told.0) (told.1 ∙ ap (λ n. (walk_of n file).fault) is)

pub where_ok : {A : Type 0} (r : Result A Fault) (P Q : Type 0) → OnOk r P → (P → Q) → OnOk r Q
where_ok (Ok x) P Q h then = then h
where_ok (Err f) P Q h then = tt
