-- An entry of a certificate, as its refusal is told.
use Rattle.std.specs.Prelude.{◌≡◌, ℕ, ◌+◌, length, Some}
use Rattle.rasta_pcap.specs.declared.fault.Fault.{Fault}
use Rattle.rasta_pcap.specs.declared.fault.Side.{Side}
use Rattle.rasta_pcap.specs.declared.fault.Side.TheVariants.{Client, Server}
use Rattle.rasta_cert.specs.Certificate.{Scripts}
use Rattle.seatmelon_account.specs.declared.entries.RefusedEntry.{RefusedEntry}

-- the line of the entry of this number in the text of a certificate: behind its two first lines, and of the server's
-- behind the client's entries and one line more
abbrev pub line_of : Scripts → Side → ℕ → ℕ
line_of scripts Client number = number + 2
line_of scripts Server number = number + (length scripts.client + 3)

-- the entry that a fault of these scripts names: its number, whose script it stands in, and its line
pub record IsEntry (scripts : Scripts) (fault : Fault) (e : RefusedEntry) : Type 0 where
  pub number : e.number ≡ fault.place
  pub side : fault.end ≡ Some e.side
  pub line : e.line ≡ line_of scripts e.side e.number
