-- Failures among all, their exit status, and what is told of them.
use Rattle.std.specs.Prelude.{ℕ, Bool, true, false}
use Rattle.seatmelon_failures.specs.declared.device.DeviceFailure.{DeviceFailure}
use Rattle.seatmelon_failures.specs.declared.device.DeviceFailure.TheVariants as devices
use Rattle.seatmelon_failures.specs.declared.failure.CaptureFailure.{CaptureFailure}
use Rattle.seatmelon_failures.specs.declared.failure.CaptureFailure.TheVariants as captures
use Rattle.seatmelon_failures.specs.declared.failure.Failure.{Failure}
use Rattle.seatmelon_failures.specs.declared.failure.Failure.TheVariants as failures
use Rattle.seatmelon_failures.specs.declared.failure.InputFailure.{InputFailure}
use Rattle.seatmelon_failures.specs.declared.failure.InputFailure.TheVariants as inputs
use Rattle.seatmelon_failures.specs.declared.words.WordsOrMemory.{WordsOrMemory}
use Rattle.seatmelon_failures.specs.declared.words.WordsOrMemory.TheVariants as words

-- a capture; words and what they name; memory and devices
abbrev pub status_of : Failure → ℕ
status_of (failures.Refused refused) = 1
status_of (failures.Words failure) = 2
status_of (failures.Device failure) = 3

-- standard error is told of each, but for a pipe that nobody reads any more
abbrev pub is_device_told : DeviceFailure → Bool
is_device_told devices.OutOfMemory = true
is_device_told (devices.Reading path reason) = true
is_device_told (devices.Writing path reason) = true
is_device_told devices.ClosedPipe = false

abbrev pub is_told : Failure → Bool
is_told (failures.Device failure) = is_device_told failure
is_told (failures.Words failure) = true
is_told (failures.Refused refused) = true

-- a failure of one kind, among all
abbrev pub of_capture : CaptureFailure → Failure
of_capture (captures.Device failure) = failures.Device failure
of_capture (captures.Refused refused) = failures.Refused refused

abbrev pub of_input : InputFailure → Failure
of_input (inputs.Device failure) = failures.Device failure
of_input (inputs.Words failure) = failures.Words failure

-- and among those without a refused capture
abbrev pub input_of_words : WordsOrMemory → InputFailure
input_of_words words.OutOfMemory = inputs.Device devices.OutOfMemory
input_of_words (words.Words failure) = inputs.Words failure

abbrev pub memory_for_input : InputFailure
memory_for_input = inputs.Device devices.OutOfMemory
