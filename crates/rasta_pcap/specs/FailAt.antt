-- A reader or writer of which one call goes wrong.
use Rattle.std.specs.Prelude.{◌≡◌, ℕ, List, ◌++◌, length, Option, None, Result, Ok, Err}
use Rattle.rasta_pcap.specs.declared.devices.FailAt.{FailAt}
use Rattle.rasta_pcap.specs.declared.devices.Mishap.{Mishap}
use Rattle.rasta_pcap.specs.declared.devices.Mishap.TheVariants.{Fails, Idles}

-- the reader or writer that answers all other calls
abbrev pub device_within : {D : Type 0} → FailAt D → D
device_within f = f.device

-- what goes wrong
abbrev pub mishap_of : {D : Type 0} → FailAt D → Mishap
mishap_of f = f.mishap

-- the number of the call that goes wrong, from 1, counted from here
abbrev pub calls_to_mishap : {D : Type 0} → FailAt D → ℕ
calls_to_mishap f = f.calls_left

-- a reader that seems to be at its end before it is there doesn't tell its bytes
abbrev pub known_unless_idle : Mishap → Option (List ℕ) → Option (List ℕ)
known_unless_idle Fails known = known
known_unless_idle Idles known = None

-- the call failed, or took no byte
abbrev pub GoesWrong : {E : Type 0} → Mishap → Result ℕ E → Type 0
GoesWrong Fails (Ok n) = ⊥
GoesWrong Fails (Err e) = Unit {0}
GoesWrong Idles (Ok n) = n ≡ 0
GoesWrong Idles (Err e) = ⊥

-- a list in memory takes all of the bytes, or fails and stays as it was
abbrev pub GrowsOrKeeps : {E : Type 0} → List ℕ → List ℕ → Result ℕ E → List ℕ → Type 0
GrowsOrKeeps old bytes (Ok n) new = (n ≡ length bytes) × (new ≡ old ++ bytes)
GrowsOrKeeps old bytes (Err e) new = new ≡ old
