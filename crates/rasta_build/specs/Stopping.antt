-- What stops a pass over both sent lists, and the obstacle that a walk beside the verdict meets.
use Rattle.std.specs.Prelude.{◌≡◌, ℕ, List, Option, Some, None, Result, Err, ⊤}
use Rattle.rasta_pcap.specs.Fault.{no_memory}
use Rattle.rasta_pcap.specs.declared.fault.Fault.{Fault}
use Rattle.rasta_pcap.specs.declared.fault.Side.{Side}
use Rattle.rasta_pcap.specs.declared.fault.Side.TheVariants.{Client, Server}
use Rattle.rasta_pdu.specs.Params.{Parameters}
use Rattle.rasta_check.specs.Capture.SentLists.{FirstCopy}
use Rattle.rasta_build.specs.declared.obstacles.Obstacle.{Obstacle}
use Rattle.rasta_build.specs.declared.obstacles.Stop.{Stop}
use Rattle.rasta_build.specs.declared.obstacles.Stop.TheVariants.{OutOfMemory, Blocked}
use Rattle.rasta_build.specs.declared.stuck.Stuck.{Stuck}
use Rattle.rasta_build.specs.declared.stuck.Stuck.TheVariants.{Unexplained, NoMemory}
use Rattle.rasta_build.specs.Choices.{fault_of_stuck, IsUnexplained}
use Rattle.rasta_build.specs.Completeness.{IsNotFound}
use Rattle.rasta_build.specs.Proposing.{Pass, one_more, passes, all_copies, proposal}

-- the fault by which nothing is proposed
abbrev pub fault_of_stop : Stop → Fault
fault_of_stop OutOfMemory = no_memory
fault_of_stop (Blocked met) = fault_of_stuck Unexplained met.place

-- a script that can't go on at the packet of this side and place stops the pass there
abbrev pub IsHaltAt : Stuck → Side → ℕ → Stop → Type 0
IsHaltAt NoMemory side place stop = stop ≡ OutOfMemory
IsHaltAt Unexplained side place OutOfMemory = ⊥
IsHaltAt Unexplained side place (Blocked met) = (met.side ≡ side) × (met.place ≡ place)

-- a step of this side stops where nothing explains its copy
abbrev pub IsPassStop : Side → Result Pass ℕ → Stop → Type 0
IsPassStop side pass OutOfMemory = ⊤
IsPassStop side pass (Blocked met) = (met.side ≡ side) × (pass ≡ Err met.place)

-- the sent list of a side
abbrev pub list_of : Side → List FirstCopy → List FirstCopy → List FirstCopy
list_of Client c s = c
list_of Server c s = s

-- nothing explains this copy, which is in the sent list of its side
abbrev pub IsOfList : List FirstCopy → List FirstCopy → Obstacle → Type 0
IsOfList c s met = IsUnexplained (list_of met.side c s) (fault_of_stuck Unexplained met.place)

-- the next step stops
abbrev pub IsNextStop : List FirstCopy → List FirstCopy → Pass → Stop → Type 0
IsNextStop c s t OutOfMemory = ⊤
IsNextStop c s t (Blocked met) = (one_more c s t ≡ Err met.place) × IsOfList c s met

-- the whole pass stops
abbrev pub IsStopped : Parameters → List FirstCopy → List FirstCopy → Stop → Type 0
IsStopped p c s OutOfMemory = ⊤
IsStopped p c s (Blocked met) = (passes p c s (all_copies c s) ≡ Err met.place) × IsOfList c s met

-- what a walk over the same lists meets: the copy at the place at which nothing is found, with its side; or nothing,
-- where no place is one at which nothing is found
abbrev pub IsMet : Parameters → List FirstCopy → List FirstCopy → Option Obstacle → Type 0
IsMet p c s None = (place : ℕ) → IsNotFound (proposal p c s) place → ⊥
IsMet p c s (Some met) = (proposal p c s ≡ Err (fault_of_stuck Unexplained met.place)) × IsOfList c s met
