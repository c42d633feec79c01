-- A capture of packets with cooked headers, and the capture of the same packets as frames of Ethernet.
use Rattle.std.specs.Prelude.{ℕ, zero, suc, ◌+◌, ◌-◌, ◌^◌, List, [], ◌++◌, drop, length, nat_le, nat_lt, take, Bool, ◌&&◌, Option}
use Rattle.std.specs.Prelude.{None, Some, if◌then◌else◌}
use Rattle.rasta_pcap.specs.Capture.{max_captured}
use Rattle.seatmelon_cooked.specs.declared.form.Form.{Form}
use Rattle.seatmelon_cooked.specs.Forms.{form_in, number_in, spelled}
use Rattle.seatmelon_cooked.specs.Frames.{ethernet_record}

-- how many bytes of the next packet were captured
abbrev pub captured_in : Form → List ℕ → ℕ
captured_in form bytes = number_in form.order 4 (drop 8 bytes)

-- the same by the header of its record, where that is whole and they aren't too many
abbrev pub captured_by : Form → List ℕ → Option ℕ
captured_by form header =
    if nat_lt (length header) 16 then None
    else if nat_lt max_captured (captured_in form header) then None
    else Some (captured_in form header)

-- the bytes begin with a record, all of it
abbrev pub holds_record : Form → List ℕ → Bool
holds_record form bytes = nat_le 16 (length bytes)
    && (nat_le (captured_in form bytes) max_captured && nat_le (16 + captured_in form bytes) (length bytes))

-- that record as one of Ethernet, and the bytes behind it
abbrev pub next_record : Form → List ℕ → List ℕ
next_record form bytes = ethernet_record form (take 16 bytes) (take (captured_in form bytes) (drop 16 bytes))

abbrev pub behind : Form → List ℕ → List ℕ
behind form bytes = drop (captured_in form bytes) (drop 16 bytes)

-- at most so many records, each as one of Ethernet; what begins with no whole record stands as it is, so that the file
-- ends there as the other one did
unfoldable pub records_of : ℕ → Form → List ℕ → List ℕ
records_of zero form bytes = []
records_of (suc left) form bytes =
    if holds_record form bytes then next_record form bytes ++ records_of left form (behind form bytes) else bytes

-- more records than any file has
abbrev pub most_records : ℕ
most_records = 2 ^ 64 - 1

-- the header of the file with the link type of Ethernet
abbrev pub ethernet_header : Form → List ℕ → List ℕ
ethernet_header form file = take 20 file ++ spelled form.order 1

abbrev pub by_form : Option Form → List ℕ → List ℕ
by_form None file = file
by_form (Some form) file = ethernet_header form file ++ records_of most_records form (drop 24 file)

-- the capture of Ethernet frames of the packets of a file; another file stands as it is
abbrev pub ethernet_of : List ℕ → List ℕ
ethernet_of file = by_form (form_in (take 24 file)) file
