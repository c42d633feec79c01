-- The capture that a command reads.
use Rattle.std.specs.Prelude.{ℕ, List, Option}
use Rattle.seatmelon_commands.specs.declared.opening.CaptureInput.{CaptureInput}
use Rattle.seatmelon_commands.specs.declared.opening.CaptureInput.TheVariants.{File, StandardInput}

-- the bytes that a capture has left, by those of its device
abbrev pub remaining_in : {F I : Type 0} → (F → Option (List ℕ)) → (I → Option (List ℕ)) → CaptureInput F I → Option (List ℕ)
remaining_in of_file of_input (File file) = of_file file
remaining_in of_file of_input (StandardInput input) = of_input input
