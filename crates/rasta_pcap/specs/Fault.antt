-- Faults: their numbers by name, and what is printed of them.
use Rattle.std.specs.Prelude.{ℕ, List, [], ◌∷◌, ◌==◌, if◌then◌else◌, codes, Some, None}
use Rattle.rasta_pcap.specs.declared.fault.Fault.{Fault}
use Rattle.rasta_pcap.specs.declared.fault.Side.{Side}
use Rattle.rasta_pcap.specs.declared.fault.Side.TheVariants.{Client, Server}

-- the peer's side
abbrev pub other_side : Side → Side
other_side Client = Server
other_side Server = Client

-- the fault of this number at this place, which speaks of no end
abbrev pub fault_at : ℕ → ℕ → Fault
fault_at number place = record { number = number; place = place; end = None }

-- the fault of this number at this place, which speaks of this end
abbrev pub fault_of_end : ℕ → ℕ → Side → Fault
fault_of_end number place side = record { number = number; place = place; end = Some side }

abbrev pub no_memory : Fault
no_memory = fault_at 1 0

abbrev pub read_failed : Fault
read_failed = fault_at 2 0

abbrev pub write_failed : Fault
write_failed = fault_at 3 0

abbrev pub not_pcap : ℕ
not_pcap = 10

abbrev pub wrong_version : ℕ
wrong_version = 11

abbrev pub wrong_link_type : ℕ
wrong_link_type = 12

abbrev pub cut_header : ℕ
cut_header = 13

abbrev pub cut_record : ℕ
cut_record = 14

abbrev pub cut_packet : ℕ
cut_packet = 15

abbrev pub fragment : ℕ
fragment = 16

abbrev pub too_many : ℕ
too_many = 17

abbrev pub record_too_long : ℕ
record_too_long = 18

abbrev pub bad_udp : ℕ
bad_udp = 19

abbrev pub redundancy_length : ℕ
redundancy_length = 20

abbrev pub too_short : ℕ
too_short = 21

abbrev pub safety_length : ℕ
safety_length = 22

abbrev pub wrong_type : ℕ
wrong_type = 23

abbrev pub wrong_payload : ℕ
wrong_payload = 24

abbrev pub wrong_code : ℕ
wrong_code = 25

abbrev pub wrong_ids : ℕ
wrong_ids = 26

abbrev pub copy_differs : ℕ
copy_differs = 27

abbrev pub number_gap : ℕ
number_gap = 28

abbrev pub too_long : ℕ
too_long = 29

abbrev pub wrong_syntax : ℕ
wrong_syntax = 30

abbrev pub slot_order : ℕ
slot_order = 31

abbrev pub not_first_copy : ℕ
not_first_copy = 32

abbrev pub make_missing : ℕ
make_missing = 33

abbrev pub not_yet_crossed : ℕ
not_yet_crossed = 34

abbrev pub not_rising : ℕ
not_rising = 35

abbrev pub clock_differs : ℕ
clock_differs = 36

abbrev pub clock_falls : ℕ
clock_falls = 37

abbrev pub past_deadline : ℕ
past_deadline = 38

abbrev pub confirmed_number : ℕ
confirmed_number = 39

abbrev pub confirmed_time : ℕ
confirmed_time = 40

abbrev pub not_allowed : ℕ
not_allowed = 41

abbrev pub reply_owed : ℕ
reply_owed = 42

abbrev pub resend_differs : ℕ
resend_differs = 43

abbrev pub closed : ℕ
closed = 44

abbrev pub too_many_entries : ℕ
too_many_entries = 45

abbrev pub too_early_timeout : ℕ
too_early_timeout = 46

abbrev pub sequence_number : ℕ
sequence_number = 47

abbrev pub not_toml : ℕ
not_toml = 50

abbrev pub missing_key : ℕ
missing_key = 51

abbrev pub bad_value : ℕ
bad_value = 52

abbrev pub not_found : ℕ
not_found = 60

-- the printed name of each number
abbrev pub names : List (ℕ × List ℕ)
names = (1, codes "NoMemory") ∷ (2, codes "ReadFailed") ∷ (3, codes "WriteFailed")
    ∷ (10, codes "NotPcap") ∷ (11, codes "Version") ∷ (12, codes "LinkType") ∷ (13, codes "CutHeader")
    ∷ (14, codes "CutRecord") ∷ (15, codes "CutPacket") ∷ (16, codes "Fragment") ∷ (17, codes "TooMany")
    ∷ (18, codes "RecordTooLong") ∷ (19, codes "BadUdp") ∷ (20, codes "RedundancyLength")
    ∷ (21, codes "TooShort") ∷ (22, codes "SafetyLength") ∷ (23, codes "Type") ∷ (24, codes "Payload")
    ∷ (25, codes "Code") ∷ (26, codes "Ids") ∷ (27, codes "CopyDiffers") ∷ (28, codes "NumberGap")
    ∷ (29, codes "TooLong") ∷ (30, codes "Syntax") ∷ (31, codes "SlotOrder") ∷ (32, codes "NotFirstCopy")
    ∷ (33, codes "MakeMissing") ∷ (34, codes "NotYetCrossed") ∷ (35, codes "NotRising")
    ∷ (36, codes "ClockDiffers") ∷ (37, codes "ClockFalls") ∷ (38, codes "PastDeadline")
    ∷ (39, codes "ConfirmedNumber") ∷ (40, codes "ConfirmedTime") ∷ (41, codes "NotAllowed")
    ∷ (42, codes "ReplyOwed") ∷ (43, codes "ResendDiffers") ∷ (44, codes "Closed") ∷ (45, codes "TooMany")
    ∷ (46, codes "TooEarlyTimeout") ∷ (47, codes "SequenceNumber") ∷ (50, codes "Toml")
    ∷ (51, codes "MissingKey") ∷ (52, codes "BadValue") ∷ (60, codes "NotFound") ∷ []

-- the text beside the number, or nothing
abbrev pub text_beside : ℕ → List (ℕ × List ℕ) → List ℕ
text_beside n [] = []
text_beside n (row ∷ rows) = if n == row.0 then row.1 else text_beside n rows

unfoldable pub name_of : ℕ → List ℕ
name_of number = text_beside number names
