-- A source of a classic capture over one of a pcapng file.
use Rattle.std.specs.Prelude.{◌≡◌, ℕ, List, [], ◌++◌, Option, Some, IfSome, option_map}
use Rattle.std.specs.Io.KnownBytes.{prepend_known}
use Rattle.seatmelon_pcapng.specs.Memory.{bytes_held, bytes_of}
use Rattle.seatmelon_pcapng.specs.Progress.{IsReading, refusal_by}
use Rattle.seatmelon_pcapng.specs.Readings.{Next, State, behind, next_of, reading_left, records_bytes, remarks_by, remarks_of}
use Rattle.seatmelon_pcapng.specs.Sections.{interfaces_in, link_types_met, order_in}
use Rattle.seatmelon_pcapng.specs.declared.classic.Classic.{Classic}
use Rattle.seatmelon_pcapng.specs.declared.classic.Progress.{Progress}
use Rattle.seatmelon_pcapng.specs.declared.classic.Progress.TheVariants.{Going, Ended}
use Rattle.seatmelon_pcapng.specs.declared.interface.Interface.{Interface}
use Rattle.seatmelon_pcapng.specs.declared.link_types.LinkTypes.{LinkTypes}
use Rattle.seatmelon_pcapng.specs.declared.order.Order.{Order}
use Rattle.seatmelon_pcapng.specs.declared.order.Order.TheVariants.{Little}
use Rattle.seatmelon_pcapng.specs.declared.refusal.Refusal.{Refusal}
use Rattle.seatmelon_pcapng.specs.declared.remarks.Remarks.{Remarks}

abbrev pub source_of : {S : Type 0} → Classic S → S
source_of c = c.source

-- how many reads of it have failed
abbrev pub failures_of : {S : Type 0} → Classic S → ℕ
failures_of c = c.failures

-- why the file is refused, once its end was met
abbrev pub refusal_in : {S : Type 0} → Classic S → Option Refusal
refusal_in c = refusal_by c.progress

-- what is told of the file beside the packets that were read
abbrev pub remarks_in : {S : Type 0} → Classic S → Remarks
remarks_in c = remarks_by (refusal_in c) (link_types_met c.section)

-- ---- what it will give

-- these bytes, and the records of what follows
abbrev pub given_by : Option Order → List Interface → ℕ → List ℕ → List ℕ → List ℕ
given_by order interfaces at held rest =
    held ++ records_bytes (reading_left (record { order = order; interfaces = interfaces; at = at; rest = rest }))

-- what it holds, and the records of what follows
abbrev pub given_with : {S : Type 0} → Classic S → List ℕ → List ℕ
given_with c rest = given_by (order_in c.section) (interfaces_in c.section) c.at (bytes_held c.held) rest

-- what was read and not yet passed, and what its source will give
abbrev pub rest_in : {S : Type 0} → (S → Option (List ℕ)) → Classic S → Option (List ℕ)
rest_in remaining c = prepend_known (bytes_of c.blocks) (remaining c.source)

-- once it has ended, what it holds alone
abbrev pub left_by : List ℕ → Option (List ℕ) → Progress → Option (List ℕ)
left_by held known Going = known
left_by held known (Ended refusal) = Some held

abbrev pub left_in : {S : Type 0} → (S → Option (List ℕ)) → Classic S → Option (List ℕ)
left_in remaining c = left_by (bytes_held c.held) (option_map (given_with c) (rest_in remaining c)) c.progress

-- ---- on the way

-- where it stands, before these bytes
abbrev pub state_with : {S : Type 0} → Classic S → List ℕ → State
state_with c rest = record { order = order_in c.section; interfaces = interfaces_in c.section; at = c.at; rest = rest }

-- what is told beside all packets, where these bytes follow
abbrev pub remarks_with : {S : Type 0} → Classic S → List ℕ → Remarks
remarks_with c rest = behind (link_types_met c.section) (remarks_of (reading_left (state_with c rest)))

-- once it has ended, what it met
abbrev pub remarks_left_by : LinkTypes → Option Remarks → Progress → Option Remarks
remarks_left_by met known Going = known
remarks_left_by met known (Ended refusal) = Some (remarks_by refusal met)

-- what is told beside all packets in the end, where it is known what is left
abbrev pub remarks_left : {S : Type 0} → (S → Option (List ℕ)) → Classic S → Option Remarks
remarks_left remaining c =
    remarks_left_by (link_types_met c.section) (option_map (remarks_with c) (rest_in remaining c)) c.progress

-- where it was known, it is still the same
abbrev pub Stays : Option Remarks → Option Remarks → Type 0
Stays old new = IfSome old (λ remarks. new ≡ Some remarks)

-- this comes next, where it is known what follows
abbrev pub Comes : {S : Type 0} → (S → Option (List ℕ)) → Classic S → Next → Type 0
Comes remaining c next = IfSome (rest_in remaining c) (λ rest. next_of (state_with c rest) ≡ next)

-- records may be given right from its blocks: it holds none, and blocks of its section have the lowest byte first
abbrev pub CanFill : {S : Type 0} → Classic S → Type 0
CanFill c = (bytes_held c.held ≡ []) × IsReading c.progress × (order_in c.section ≡ Some Little)
