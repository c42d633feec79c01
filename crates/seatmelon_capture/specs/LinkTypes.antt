-- The names of link types, in plain words.
use Rattle.std.specs.Prelude.{ℕ, List, [], ◌∷◌, ◌==◌, ◌&&◌, nat_le, codes, Option, None, Some, if◌then◌else◌}

-- by the public registry
abbrev pub names : List (ℕ × List ℕ)
names =
    (0, codes "BSD loopback") ∷ (1, codes "Ethernet") ∷ (6, codes "IEEE 802.5 token ring") ∷ (9, codes "PPP")
    ∷ (10, codes "FDDI")
    ∷ (12, codes "raw IP of some systems") ∷ (14, codes "raw IP of some systems") ∷ (101, codes "raw IP")
    ∷ (105, codes "IEEE 802.11 wireless LAN") ∷ (107, codes "Frame Relay") ∷ (108, codes "OpenBSD loopback")
    ∷ (113, codes "Linux cooked capture") ∷ (127, codes "IEEE 802.11 wireless LAN with radiotap")
    ∷ (228, codes "raw IPv4")
    ∷ (229, codes "raw IPv6") ∷ (276, codes "Linux cooked capture v2") ∷ []

-- the text beside a number, if it stands there
abbrev pub text_beside : ℕ → List (ℕ × List ℕ) → Option (List ℕ)
text_beside number [] = None
text_beside number (row ∷ rows) = if number == row.0 then Some row.1 else text_beside number rows

-- sixteen types are for private use
unfoldable pub name_of : ℕ → Option (List ℕ)
name_of number =
    if nat_le 147 number && nat_le number 162 then Some (codes "reserved for private use") else text_beside number names
