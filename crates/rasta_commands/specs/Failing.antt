-- The exit status of a failure.
use Rattle.std.specs.Prelude.{ℕ, ◌&&◌, nat_le, if◌then◌else◌}
use Rattle.rasta_commands.specs.declared.failure.Failure.{Failure}
use Rattle.rasta_commands.specs.declared.failure.Failure.TheVariants.{Refused, Usage}

-- words and parameters; memory and devices; any other
abbrev pub status_of : Failure → ℕ
status_of Usage = 2
status_of (Refused f) = if nat_le 50 f.number && nat_le f.number 52 then 2
    else if nat_le 1 f.number && nat_le f.number 3 then 3
    else 1
