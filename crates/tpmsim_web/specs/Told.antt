-- The numbers that calls return.
use Rattle.std.specs.Prelude.{◌≡◌, ℕ, Option, Some, None, Result, Ok, Err}
use Rattle.tpm_image_text.specs.declared.fault.ImageFault.{ImageFault}
use Rattle.tpm_image_text.specs.declared.fault.ImageFault.TheVariants as fault
use Rattle.tpm_journal.specs.declared.following.FollowFault.{FollowFault}
use Rattle.tpm_journal.specs.declared.following.FollowFault.TheVariants as follow
use Rattle.tpm_journal.specs.declared.opening.OpenFault.{OpenFault}
use Rattle.tpm_journal.specs.declared.opening.OpenFault.TheVariants as opening
use Rattle.tpm_state_text.specs.declared.fault.RestoreFault.{RestoreFault}
use Rattle.tpm_state_text.specs.declared.fault.RestoreFault.TheVariants as restore
use Rattle.tpm_state_text.specs.declared.fault.StateFault.{StateFault}
use Rattle.tpm_state_text.specs.declared.fault.StateFault.TheVariants as state
use Rattle.tpmsim_web.specs.declared.device.Device.{Device}

abbrev pub done_code : ℕ
done_code = 0

abbrev pub no_device : ℕ
no_device = 1

abbrev pub no_locality : ℕ
no_locality = 2

abbrev pub no_memory : ℕ
no_memory = 3

-- the error number for an image that cannot be opened
abbrev pub fault_number : ImageFault → ℕ
fault_number fault.Short = 4
fault_number fault.Magic = 5
fault_number fault.Version = 6
fault_number fault.Length = 7
fault_number fault.Digest = 8
fault_number fault.Body = 9
fault_number fault.NoMemory = no_memory

-- the error number for bytes that are not a state text
abbrev pub state_number : StateFault → ℕ
state_number state.Short = 13
state_number state.Magic = 14
state_number state.Version = 15
state_number state.Length = 16
state_number state.Digest = 17
state_number state.Body = 18
state_number state.Earlier = 21

-- the error number for a device that cannot be restored
abbrev pub restore_number : RestoreFault → ℕ
restore_number (restore.Text fault) = state_number fault
restore_number restore.NoMemory = no_memory

-- `done_code` if all entries were executed, and otherwise the number of the error
abbrev pub follow_number : Option FollowFault → ℕ
follow_number None = done_code
follow_number (Some follow.Damaged) = 11
follow_number (Some follow.Otherwise) = 12

-- the error number for bytes that cannot be opened as a journal
abbrev pub open_number : OpenFault → ℕ
open_number opening.NoJournal = 10
open_number (opening.Image fault) = fault_number fault
open_number (opening.State fault) = restore_number fault
open_number (opening.Follow fault) = follow_number (Some fault)

-- The number reports the result of opening an image. On success, the holder has the opened device.
-- Otherwise, it has the device that it had before.
abbrev pub Tells : Result Device ImageFault → (old new : Option Device) → (told : ℕ) → Type 0
Tells (Ok device) old new told = (told ≡ done_code) × (new ≡ Some device)
Tells (Err fault) old new told = (told ≡ fault_number fault) × (new ≡ old)
