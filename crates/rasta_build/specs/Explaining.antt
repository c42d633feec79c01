-- What explains a first copy: the builder of a script as a function. It takes what the PDU's CS says was accepted, then
-- what its type wants to be owed, and makes the PDU.
use Rattle.std.specs.Prelude.{ℕ, zero, suc, ◌+◌, ◌-◌, ◌*◌, Bool, true, false, ◌||◌, not, nat_lt, ◌==◌, if◌then◌else◌}
use Rattle.std.specs.Prelude.{◌^◌, max, List, Option, Some, None}
use Rattle.rasta_pcap.specs.Fault.{too_early_timeout}
use Rattle.rasta_pdu.specs.Params.{Parameters}
use Rattle.rasta_pdu.specs.Pdu.{SafetyPdu, RedundancyPdu}
use Rattle.rasta_pdu.specs.declared.kind.Kind.{Kind}
use Rattle.rasta_end.specs.declared.why.Why.{Why}
use Rattle.rasta_end.specs.declared.take_row.TakeRow.{TakeRow}
use Rattle.rasta_end.specs.State.{is_owing, is_retr_req}
use Rattle.rasta_end.specs.Starts.{start_of}
use Rattle.rasta_end.specs.MakeRule.{make_fault, after_make}
use Rattle.rasta_end.specs.TakeRule.{effect, take_row, take_fault}
use Rattle.rasta_cert.specs.declared.entry.Entry.TheVariants.{Make}
use Rattle.rasta_check.specs.Capture.SentLists.{FirstCopy}
use Rattle.rasta_build.specs.Clock.{clock_of}
use Rattle.rasta_build.specs.Choices.{copy_at, position_named, is_before, is_response, is_trigger, wants_trigger}
use Rattle.rasta_build.specs.Choices.{has_to_take, why_of}
use Rattle.rasta_build.specs.Built.{Built, note, lead, progress_of, note_take}

-- a second step, where the first one succeeds
abbrev pub then_built : Option Built → (Built → Option Built) → Option Built
then_built None f = None
then_built (Some b) f = f b

-- ---- a take

-- a take by a row of the take table has an effect, and stands in the script; a take by none changes nothing
abbrev pub taken_by : Option TakeRow → ℕ → ℕ → RedundancyPdu → Built → Built
taken_by None slot position x b = b
taken_by (Some row) slot position x b =
    note_take (progress_of b.end.state) slot position x (lead (effect b.end.params row b.end.state x.safety) b)

-- where there is no fault
abbrev pub built_unless : Option ℕ → Built → Option Built
built_unless None b = Some b
built_unless (Some fault) b = None

-- the PDU at a position that may still be taken is taken
abbrev pub take_step : ℕ → ℕ → RedundancyPdu → Built → Option Built
take_step slot position x b =
    if nat_lt position b.next_take then None
    else built_unless (take_fault b.end.params b.end.state b.end.state.clock)
    (taken_by (take_row b.end.params b.end.state x.safety) slot position x b)

-- ---- acceptance

-- where this position is now the last that was accepted
abbrev pub if_accepted : ℕ → Option Built → Option Built
if_accepted position None = None
if_accepted position (Some b) = if b.end.state.accepted == suc position then Some b else None

abbrev pub accept_there : ℕ → ℕ → Option FirstCopy → Built → Option Built
accept_there slot position None b = None
accept_there slot position (Some c) b = if_accepted position (take_step slot position c.pdu b)

-- the PDU at a position is taken, and has to be accepted
abbrev pub accept_step : List FirstCopy → ℕ → ℕ → Built → Option Built
accept_step sent slot position b = accept_there slot position (copy_at b.peer.quiet_sn sent position) b

-- so many PDUs from a position on, one after the other
abbrev pub accept_from : List FirstCopy → ℕ → ℕ → ℕ → Built → Option Built
accept_from sent slot first zero b = Some b
accept_from sent slot first (suc n) b = then_built (accept_from sent slot first n b) (accept_step sent slot (first + n))

-- the last retransmission response among so many PDUs from a position on
abbrev pub last_response : Option ℕ → List FirstCopy → ℕ → ℕ → Option ℕ
last_response quiet_sn sent next zero = None
last_response quiet_sn sent next (suc n) = if is_response (copy_at quiet_sn sent (next + n)) then Some (next + n)
    else last_response quiet_sn sent next n

-- where acceptance begins: an end that waits for a retransmission accepts the last response first, any other the next
-- PDU
abbrev pub first_acceptable : Bool → Option ℕ → List FirstCopy → ℕ → ℕ → Option ℕ
first_acceptable true quiet_sn sent next n = last_response quiet_sn sent next n
first_acceptable false quiet_sn sent next n = Some next

-- acceptance from there on, up to before a position
abbrev pub accept_range : List FirstCopy → ℕ → ℕ → Built → Option ℕ → Option Built
accept_range sent slot bound b None = None
accept_range sent slot bound b (Some first) = accept_from sent slot first (bound - first) b

-- the end accepts up to before a position
abbrev pub catch_up : List FirstCopy → ℕ → ℕ → Built → Option Built
catch_up sent slot bound b =
    if bound == b.end.state.accepted then Some b
    else accept_range sent slot bound b
    (first_acceptable (is_retr_req b.end.state.phase) b.peer.quiet_sn sent b.end.state.accepted
    (bound - b.end.state.accepted))

-- the end accepts through the position that a CS names: it has accepted no more, and the PDU there has crossed
abbrev pub accept_through : List FirstCopy → ℕ → Built → Option ℕ → Option Built
accept_through sent place b None = None
accept_through sent place b (Some last) =
    if suc last == b.end.state.accepted then Some b
    else if nat_lt (suc last) b.end.state.accepted
    || not (is_before (copy_at b.peer.quiet_sn sent last) place) then None
    else catch_up sent place (suc last) b

-- ---- what is owed

-- a PDU that can be what is answered, or asked for, is taken; any other is passed over
abbrev pub try_at : Bool → ℕ → ℕ → RedundancyPdu → Built → Option Built
try_at true slot position x b = take_step slot position x b
try_at false slot position x b = Some b

-- where it has crossed
abbrev pub try_there : ℕ → Kind → ℕ → Built → Option FirstCopy → Option Built
try_there slot made position b None = None
try_there slot made position b (Some c) =
    if nat_lt c.place slot then try_at (is_trigger made c.pdu.safety.kind) slot position c.pdu b else None

-- the PDU at a position is tried
abbrev pub try_step : List FirstCopy → ℕ → Kind → ℕ → Built → Option Built
try_step sent slot made position b = try_there slot made position b (copy_at b.peer.quiet_sn sent position)

-- the search ends where something is owed
abbrev pub go_on : (Built → Option Built) → Option Built → Option Built
go_on rest None = None
go_on rest (Some b) = if is_owing b.end.state.owed then Some b else rest b

-- of so many PDUs from a position on, the first that makes something owed is taken
abbrev pub scan : List FirstCopy → ℕ → Kind → ℕ → ℕ → Built → Option Built
scan sent slot made position zero b = None
scan sent slot made position (suc n) b =
    go_on (scan sent slot made (suc position) n) (try_step sent slot made position b)

-- the search begins ahead of the next PDU in sequence, and not before what may still be taken
abbrev pub first_tried : Built → ℕ
first_tried b = max (suc b.end.state.accepted) b.next_take

-- it goes on to ten times N_sendmax ahead
abbrev pub positions_tried : Built → ℕ
positions_tried b = suc (b.end.state.accepted + 10 * b.end.params.n_sendmax) - first_tried b

-- what the type of a PDU wants to be owed is made so
abbrev pub take_trigger : List FirstCopy → ℕ → Kind → Built → Option Built
take_trigger sent place made b =
    if is_owing b.end.state.owed || not (wants_trigger made) then Some b
    else scan sent place made (first_tried b) (positions_tried b) b

-- ---- a make

-- the make of a PDU at a place, at this clock
abbrev pub made_at : ℕ → SafetyPdu → Why → ℕ → Built → Built
made_at place x why clock b =
    note (Make place clock why) (lead (after_make b.end.state x clock why) (record b { clock = clock }))

-- a timeout that is too early is made later
abbrev pub make_by : Option Built → Option ℕ → Built → Option Built
make_by later None b = Some b
make_by later (Some fault) b = if fault == too_early_timeout then later else None

-- at a clock, where there is one
abbrev pub make_when : Option Built → ℕ → SafetyPdu → Why → Option ℕ → Built → Option Built
make_when later place x why None b = None
make_when later place x why (Some clock) b =
    make_by later (make_fault b.end.params b.end.state x clock why) (made_at place x why clock b)

-- the moment of a raised one
abbrev pub lowered : ℕ → ℕ
lowered n = n - 2 ^ 32

-- the earliest timeout by a deadline as the start keeps it: raised
abbrev pub earliest_by : Parameters → Option ℕ → ℕ
earliest_by p None = 0
earliest_by p (Some deadline) = lowered deadline - p.slack

-- the earliest timeout by the deadline that is recorded with a quiet point
abbrev pub earliest_timeout : Built → ℕ
earliest_timeout b = earliest_by b.end.params (start_of b.end.params b.side).deadline

-- the least clock for a timeout that was too early at this one
abbrev pub least_later : ℕ → Built → ℕ
least_later early b = max (suc early) (earliest_timeout b)

-- the make at a later clock
abbrev pub make_later : ℕ → SafetyPdu → Why → Option ℕ → Built → Option Built
make_later place x why None b = None
make_later place x why (Some early) b = make_when None place x why (clock_of (least_later early b) x.ts) b

-- the make at the least clock that has the time stamp, where it isn't a timeout that is too early
abbrev pub make_for : ℕ → SafetyPdu → Option Why → Built → Option Built
make_for place x None b = None
make_for place x (Some why) b =
    make_when (make_later place x why (clock_of b.clock x.ts) b) place x why (clock_of b.clock x.ts) b

-- the make of a PDU, for the reason of its type
abbrev pub make_step : ℕ → SafetyPdu → Built → Option Built
make_step place x b = make_for place x (why_of b.end.state b.trail x) b

-- ---- all of it

-- what has to be taken before the make: nothing, or what was accepted and what makes something owed
abbrev pub take_step_by : Bool → List FirstCopy → ℕ → SafetyPdu → Built → Option Built
take_step_by false sent place x b = Some b
take_step_by true sent place x b =
    then_built (accept_through sent place b (position_named b.peer.quiet_sn sent x.cs)) (take_trigger sent place x.kind)

-- what explains this PDU at this place, if anything does
abbrev pub explain : List FirstCopy → ℕ → SafetyPdu → Built → Option Built
explain sent place x b =
    then_built (take_step_by (has_to_take b.side b.end.state x.kind) sent place x b) (make_step place x)
