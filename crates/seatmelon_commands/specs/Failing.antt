-- What a failure tells of a fault of a capture.
use Rattle.std.specs.Prelude.{◌≡◌, ◌⊎◌, ℕ, ◌==◌, ◌||◌, if◌then◌else◌}
use Rattle.seatmelon_failures.specs.Failing.{of_capture, status_of}
use Rattle.seatmelon_failures.specs.declared.device.DeviceFailure.TheVariants.{OutOfMemory}
use Rattle.seatmelon_failures.specs.declared.failure.CaptureFailure.{CaptureFailure}
use Rattle.seatmelon_failures.specs.declared.failure.CaptureFailure.TheVariants.{Device}

-- memory and reading; the capture
abbrev pub status_of_fault : ℕ → ℕ
status_of_fault number = if (number == 1) || (number == 2) then 3 else 1

-- memory may run out while the failure is told
abbrev pub TellsOf : ℕ → CaptureFailure → Type 0
TellsOf number failure = (failure ≡ Device OutOfMemory) ⊎ (status_of (of_capture failure) ≡ status_of_fault number)
