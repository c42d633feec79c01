-- Where a file was read, each connection stands as an audit of the file for it alone has it.
use Rattle.std.proofs.Common.{◌≡◌, ℕ, ◌<◌, List, length, get_or, cond, Bool, true, false, nat_lt, Option, None, Some, Result, Ok, Err, refl, sym, subst, arith}
use Rattle.rasta_pcap.specs.declared.fault.Fault.{Fault}
use Rattle.rasta_pcap.specs.Captured.{Captured, captured_in}
use Rattle.rasta_pdu.specs.Params.{Parameters}
use Rattle.rasta_check.specs.Capture.Building.{crossed_in}
use Rattle.rasta_check.specs.Capture.Crossing.{Crossing}
use Rattle.rasta_check.specs.Capture.Reading.{then_crossing, at_end}
use Rattle.seatmelon_audit.specs.Ends.{AreEnded, IsEnded, fault_behind}
use Rattle.seatmelon_audit.specs.Files.{AreThrough, IsWhole, StandsThrough}
use Rattle.seatmelon_audit.specs.Lines.{AreLines, IsLine}
use Rattle.seatmelon_audit.specs.Records.{IsStanding, crossed_by}
use Rattle.seatmelon_audit.specs.declared.line.Line.{Line}
use Rattle.seatmelon_audit.proofs.Files.{crossing_whole}

abbrev Outcome : Type 0
Outcome = Result Crossing Fault

ends_well : (b : Bool) (k : Crossing) → at_end k (cond b None None) ≡ Ok k
ends_well true k = refl
ends_well false k = refl

unended : (p : Parameters) (records : List Captured) (s : Outcome) → then_crossing s (λ (k : Crossing). at_end k (fault_behind p records None)) ≡ s
unended p records (Ok k) = ends_well (nat_lt (length records) p.last_record) k
unended p records (Err f) = refl

-- no fault ended them
stands_unended : (records : List Captured) (l : Line) → IsLine records l → IsEnded records None l
stands_unended records l h = record {
  standing = subst (λ (s : Outcome). IsStanding l.standing s records l.params (crossed_in l.builder) l.packets.items) (sym (unended l.params records (crossed_by l.params records))) h.stands.standing;
  opens = h.opens;
  span = h.span;
  shown = h.stands.shown;
}

stands_through : (file : List ℕ) (done : List Captured) (fault : Option Fault) (l : Line) → IsWhole file done fault → IsEnded done fault l → StandsThrough file l
stands_through file done fault l whole h =
    let some : 0 < l.params.last_record = (let from = l.window.from_one in let order = l.window.in_order in omega (arith, from, order)) in
    let ended = subst (λ (f : Option Fault). IsEnded (captured_in file) f l) whole.fault (subst (λ r. IsEnded r fault l) whole.captured h) in record {
      standing = subst (λ (s : Outcome). IsStanding l.standing s (captured_in file) l.params (crossed_in l.builder) l.packets.items) (sym (crossing_whole l.params file some l.window.last_most)) ended.standing;
      opens = ended.opens;
      span = ended.span;
      shown = ended.shown;
    }

pub all_unended : (file : List ℕ) (done : List Captured) (lines : List Line) → IsWhole file done None → AreLines done lines → AreThrough file lines
all_unended file done lines whole h i d inside =
    let l = get_or lines i d in
    stands_through file done None l whole (stands_unended done l (h i d inside))

pub all_ended_by : (file : List ℕ) (done : List Captured) (fault : Fault) (lines : List Line) → IsWhole file done (Some fault) → AreEnded done fault lines → AreThrough file lines
all_ended_by file done fault lines whole h i d inside = stands_through file done (Some fault) (get_or lines i d) whole (h i d inside)
