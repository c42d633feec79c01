-- Scripts of takes and makes for one end: when a script fits what crossed, and which is the first fault of one that
-- doesn't.
use Rattle.std.specs.Prelude.{◌≡◌, ℕ, suc, ◌<◌, ◌≤◌, Bool, ◌||◌, not, nat_lt, fold, List, [], ◌∷◌, ◌++◌, length, Option}
use Rattle.std.specs.Prelude.{Some, None, is_none, false, ⊤}
use Rattle.std.specs.Option.{option_map_or, option_or}
use Rattle.rasta_pcap.specs.declared.fault.Fault.{Fault}
use Rattle.rasta_pcap.specs.declared.fault.Side.{Side}
use Rattle.rasta_pcap.specs.Fault.{fault_of_end, slot_order, not_first_copy, make_missing, not_yet_crossed, not_rising}
use Rattle.rasta_pdu.specs.Params.{Parameters}
use Rattle.rasta_cert.specs.declared.entry.Entry.{Entry}
use Rattle.rasta_cert.specs.declared.entry.Entry.TheVariants.{Take, Make}
use Rattle.rasta_end.specs.State.{EndState}
use Rattle.rasta_end.specs.MakeRule.{Makes, make_fault, first_that_holds, is_there}
use Rattle.rasta_end.specs.TakeRule.{Takes, take_fault}
use Rattle.rasta_end.specs.Starts.{start_of}
use Rattle.rasta_check.specs.Capture.SentLists.{FirstCopy}
use Rattle.rasta_check.specs.Capture.PacketFaults.{copy_with}
use Rattle.rasta_check.specs.Capture.Lists.{places_of, position_of_number, position_of_place}

-- ---- a script that fits

-- the places that the makes name, in order
abbrev pub places_made : List Entry → List ℕ
places_made [] = []
places_made (Take slot number ∷ entries) = places_made entries
places_made (Make place clock why ∷ entries) = place ∷ places_made entries

-- from this level on slots don't fall, and none is above the number of packets; each lies after the place of the make
-- before it, and not after that of the make after it
abbrev pub AreInOrder : ℕ → ℕ → List Entry → Type 0
AreInOrder packets level [] = ⊤
AreInOrder packets level (Take slot number ∷ entries) = (level ≤ slot) × (slot ≤ packets)
    × AreInOrder packets slot entries
AreInOrder packets level (Make place clock why ∷ entries) = (level ≤ place) × AreInOrder packets (suc place) entries

-- each take names a first copy of the peer that crossed before its slot, at these positions, which rise from this one
-- on
abbrev pub AreNamed : List FirstCopy → ℕ → List Entry → List ℕ → Type 0
AreNamed peer low [] [] = ⊤
AreNamed peer low (Take slot number ∷ entries) (position ∷ positions) = (low ≤ position)
    × (position_of_number peer number ≡ Some position)
    × ((c : FirstCopy) × (copy_with peer number ≡ Some c) × (c.place < slot))
    × AreNamed peer (suc position) entries positions
AreNamed peer low (Make place clock why ∷ entries) positions = AreNamed peer low entries positions
AreNamed peer low _ _ = ⊥

-- the entries lead an end from here to there: each take by the take rule at the clock of the last make, with the PDU
-- that it names, and each make by the make rule at its clock and for its reason, with the next of these PDUs
abbrev pub Joins : Parameters → List FirstCopy → EndState → List Entry → List FirstCopy → EndState → Type 0
Joins p peer e [] made e' = e ≡ e'
Joins p peer e (Take slot number ∷ entries) made e' =
    (c : FirstCopy) × (after : EndState) × (copy_with peer number ≡ Some c) × Takes p e c.pdu.safety e.clock after
    × Joins p peer after entries made e'
Joins p peer e (Make place clock why ∷ entries) (c ∷ made) e' = (after : EndState)
    × Makes p e c.pdu.safety clock why after × Joins p peer after entries made e'
Joins p peer e (Make place clock why ∷ entries) [] e' = ⊥

-- the script fits, and its end is this one, where so many packets crossed and these are the sent lists of its side and
-- of the peer
pub record Fits (p : Parameters) (side : Side) (packets : ℕ) (own peer : List FirstCopy) (script : List Entry)
    (e : EndState) : Type 0 where
  -- its makes name exactly the places of the own list, in order
  pub makes : places_made script ≡ places_of own
  -- slots and places are in order
  pub slots : AreInOrder packets 0 script
  -- its takes name first copies of the peer that crossed before their slots, at positions that rise
  pub positions : List ℕ
  pub takes : AreNamed peer 0 script positions
  -- each step is one of the end
  pub ends : Joins p peer (start_of p side) script own e

-- ---- the first fault of a script

-- how many packets have crossed at least after these entries
abbrev pub level_after : ℕ → List Entry → ℕ
level_after level [] = level
level_after level (Take slot number ∷ entries) = level_after slot entries
level_after level (Make place clock why ∷ entries) = level_after (suc place) entries

-- the position after the last of these; this one, where there are none
abbrev pub position_after : ℕ → List ℕ → ℕ
position_after low positions = fold (λ (last position : ℕ). suc position) low positions

-- why an entry may not follow, but for the rules of the end, in the order in which it is judged: at this level, after
-- so many makes, and with this position of the peer the next
abbrev pub entry_tests : ℕ → List FirstCopy → List FirstCopy → ℕ → ℕ → ℕ → Entry → List (Bool × ℕ)
entry_tests packets own peer level made next (Take slot number) =
    (nat_lt slot level || nat_lt packets slot, slot_order)
    ∷ (not (option_map_or (λ (c : FirstCopy). nat_lt c.place slot) (copy_with peer number) false), not_yet_crossed)
    ∷ (option_map_or (λ (position : ℕ). nat_lt position next) (position_of_number peer number) false, not_rising)
    ∷ []
entry_tests packets own peer level made next (Make place clock why) =
    (nat_lt place level, slot_order)
    ∷ (is_none (position_of_place own place), not_first_copy)
    ∷ (not (is_there (position_of_place own place) made), make_missing)
    ∷ []

-- why it may not by the rules of the end, where these own PDUs are left to make
abbrev pub end_fault : Parameters → EndState → List FirstCopy → Entry → Option ℕ
end_fault p e left (Take slot number) = take_fault p e e.clock
end_fault p e (c ∷ left) (Make place clock why) = make_fault p e c.pdu.safety clock why
end_fault p e [] (Make place clock why) = None

-- the first fault of a script: the entries before it fit the beginning of the own list that they make, and the first
-- test that holds of the next entry says this fault; or the whole script fits so, and an own PDU is left
pub data FirstFault (p : Parameters) (side : Side) (packets : ℕ) (own peer : List FirstCopy)
    (script : List Entry) : Fault → Type 0 where
  at_entry : (front behind : List Entry) (x : Entry) (made left : List FirstCopy) (e : EndState)
      (before : Fits p side packets made peer front e) (number : ℕ)
      → script ≡ front ++ x ∷ behind → own ≡ made ++ left → option_or (first_that_holds
      (entry_tests packets own peer (level_after 0 front) (length made) (position_after 0 before.positions) x))
      (end_fault p e left x) ≡ Some number
      → FirstFault p side packets own peer script (fault_of_end number (suc (length front)) side)
  after_last : (made left : List FirstCopy) (c : FirstCopy) (e : EndState)
      → Fits p side packets made peer script e → own ≡ made ++ c ∷ left
      → FirstFault p side packets own peer script (fault_of_end make_missing (suc (length script)) side)
