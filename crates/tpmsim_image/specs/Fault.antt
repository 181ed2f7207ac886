-- Why a device that is kept in an image could not be opened, saved or served.
use Rattle.std.specs.Prelude.{Result, Ok, Err}
use Rattle.std.specs.IoError.{error_kind, raw_os_error}
use Rattle.std.specs.declared.io.Error.{Error}
use Rattle.std.specs.declared.io.ErrorKind.{ErrorKind}
use Rattle.std.specs.declared.io.ErrorKind.TheVariants.{OutOfMemory}
use Rattle.tpm_image_text.specs.declared.fault.ImageFault.{ImageFault}
use Rattle.tpm_image_text.specs.declared.fault.ImageFault.TheVariants as image
use Rattle.tpmsim_image.specs.declared.fault.DeviceFault.{DeviceFault}
use Rattle.tpmsim_image.specs.declared.fault.DeviceFault.TheVariants.{Entropy, File, Image, Memory, Socket}
use Rattle.tpmsim_image.specs.declared.fault.Cause.{Cause}

-- a cause with the number of a system error
abbrev pub with_error : Cause → Error → Cause
with_error cause error = record cause { error = raw_os_error error }

-- the fault with the number of a system error added to its cause; a fault without a cause is
-- unchanged
abbrev pub with_cause : DeviceFault → Error → DeviceFault
with_cause (File cause) error = File (with_error cause error)
with_cause (Socket cause) error = Socket (with_error cause error)
with_cause (Entropy cause) error = Entropy (with_error cause error)
with_cause fault error = fault

-- the fault Memory if an error is of the kind OutOfMemory, and otherwise the given fault
abbrev pub fault_of_kind : DeviceFault → ErrorKind → DeviceFault
fault_of_kind otherwise OutOfMemory = Memory
fault_of_kind otherwise _ = otherwise

abbrev pub fault_or : DeviceFault → Error → DeviceFault
fault_or otherwise error = fault_of_kind (with_cause otherwise error) (error_kind error)

-- the value of a result; for an error, Memory if memory ran out, and otherwise the given fault with
-- the number of the error
abbrev pub given_or : {A : Type 0} → DeviceFault → Result A Error → Result A DeviceFault
given_or otherwise (Ok value) = Ok value
given_or otherwise (Err error) = Err (fault_or otherwise error)

-- the fault if a file could not be opened as an image: memory ran out, or the file is not an image
abbrev pub fault_of_image : ImageFault → DeviceFault
fault_of_image image.NoMemory = Memory
fault_of_image fault = Image fault
