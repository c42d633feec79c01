-- What explains a capture together with PDUs that the tap is supposed to have missed.
use Rattle.std.specs.Prelude.{◌≡◌, ℕ, ◌≤◌, ◌<◌, List, [], ◌++◌, All, length, drop, filter_map, slice_get, Option, option_map}
use Rattle.std.specs.Prelude.{unwrap_or, Ok}
use Rattle.std.specs.List.{cons_option}
use Rattle.std.specs.Option.{option_and_then}
use Rattle.rasta_pdu.specs.Params.{Parameters}
use Rattle.rasta_cert.specs.Certificate.{Scripts}
use Rattle.rasta_check.specs.Capture.Crossing.{Crossing, nothing_crossed}
use Rattle.rasta_check.specs.Verdict.Headline.{Headline}
use Rattle.rasta_check.specs.Verdict.Listed.{ListedMessage, listed_of}
use Rattle.rasta_check.specs.Verdict.Report as reports
use Rattle.rasta_check.specs.Verdict.Report.{IsScriptVerdict, report_of}
use Rattle.rasta_check.specs.declared.report.Taken.{Taken}
use Rattle.seatmelon_reading.specs.Tapes.{NumberedPacket}
use Rattle.seatmelon_suppose.specs.Mending.{after_packets, mended, origins_from}
use Rattle.seatmelon_suppose.specs.declared.filling.Filling.{Filling}
use Rattle.seatmelon_suppose.specs.declared.filling.Judged.{Judged}
use Rattle.seatmelon_suppose.specs.declared.filling.Listed.{Listed}
use Rattle.seatmelon_suppose.specs.declared.filling.Lists.{Lists}
use Rattle.seatmelon_suppose.specs.declared.supposed.Supposed.{Supposed}

-- it was captured there, if at all
abbrev pub captured : Option ℕ → Option ℕ
captured o = o

-- where the packet at a place among all that crossed was captured; none of a supposed PDU
abbrev pub origin_at : List (Option ℕ) → ℕ → Option ℕ
origin_at origins place = option_and_then captured (slice_get origins place)

-- where the first one of these was captured; 0 if none was
abbrev pub first_captured : List (Option ℕ) → ℕ
first_captured origins = unwrap_or (slice_get (filter_map captured origins) 0) 0

-- where the packet at a place was captured, or else the next one, which stands behind a supposed PDU
abbrev pub shown_at : List (Option ℕ) → ℕ → ℕ
shown_at origins place = first_captured (drop place origins)

-- a message that is listed, with the places of its data and its proof; none whose data is supposed
abbrev pub captured_message : List (Option ℕ) → ListedMessage → Option Listed
captured_message origins l =
    option_map (λ (place : ℕ). record { «data» = place; proof = shown_at origins l.proof_place })
    (origin_at origins l.data_place)

-- the same of all messages of captured data
abbrev pub captured_messages : List (Option ℕ) → List ListedMessage → List Listed
captured_messages origins listed = filter_map (captured_message origins) listed

abbrev pub data_of : Listed → ℕ
data_of l = l.data

abbrev pub proof_of : Listed → ℕ
proof_of l = l.proof

-- a message that was surely taken is added, if its data was captured
pub record Adds (origins : List (Option ℕ)) (t : Taken) (old new : List Listed) : Type 0 where
  pub added : new ≡ old ++ cons_option (captured_message origins (listed_of t)) []

-- the checker's report on what crossed
abbrev pub report_on : Crossing → reports.Explained
report_on k = report_of k.params (length k.packets) k.client k.server

-- the messages of captured data that the checker's report on what crossed lists, where it answers one for some scripts;
-- some run sends these packets, and in every run that does each of these messages had been handed up
pub record AreLists (k : Crossing) (origins : List (Option ℕ)) (l : Lists) : Type 0 where
  pub judged : (scripts : Scripts)
      × IsScriptVerdict k.params (length k.packets) k.client k.server scripts (Ok (report_on k))
  pub headline : Headline k.params k.packets (report_on k)
  pub client : l.client.items ≡ captured_messages origins (report_on k).server_taken
  pub server : l.server.items ≡ captured_messages origins (report_on k).client_taken

abbrev pub lists_in : Filling → Lists
lists_in f = record { client = f.client; server = f.server }

-- a PDU is supposed before a captured packet
abbrev pub IsInside : List NumberedPacket → Supposed → Type 0
IsInside packets s = s.before < length packets

-- so many PDUs at most are supposed, each before a captured packet
pub record MayBeJudged (packets : List NumberedPacket) (most : ℕ) (pdus : List Supposed) : Type 0 where
  pub few : length pdus ≤ most
  pub inside : All (IsInside packets) pdus

-- the lists of what crossed together with so many supposed PDUs at most
pub record IsJudged (p : Parameters) (packets : List NumberedPacket) (most : ℕ) (j : Judged) : Type 0 where
  pub few : length j.filling.pdus.items ≤ most
  pub inside : All (IsInside packets) j.filling.pdus.items
  pub crossed : after_packets (nothing_crossed p) (mended p j.filling.pdus.items packets) ≡ Ok j.store
  pub origins : j.origins.items ≡ origins_from j.filling.pdus.items 0 packets
  pub lists : AreLists j.store j.origins.items (lists_in j.filling)

-- so many PDUs at most, each supposed before a captured packet, and the lists of what crossed together with them
pub record IsFilling (p : Parameters) (packets : List NumberedPacket) (most : ℕ) (f : Filling) : Type 0 where
  pub few : length f.pdus.items ≤ most
  pub inside : All (IsInside packets) f.pdus.items
  pub crossing : Crossing
  pub crossed : after_packets (nothing_crossed p) (mended p f.pdus.items packets) ≡ Ok crossing
  pub lists : AreLists crossing (origins_from f.pdus.items 0 packets) (lists_in f)
