-- If the bytes are not an image, the error is the same for every type of device.
use Rattle.std.specs.Prelude.{ℕ, Bool, List, Err}
use Rattle.tpm_record.specs.Record.{Record}
use Rattle.tpm_image_text.specs.Opening.{Opens}
use Rattle.tpm_image_text.specs.declared.fault.ImageFault.{ImageFault}
use Rattle.tpm_image_text.specs.declared.fault.ImageFault.TheVariants as fault

module _ {M N : Type 0} (shown : M → Record) (other : N → Record) (can : Bool) (text : List ℕ) where
  pub fault_alike : (f : ImageFault) → Opens shown can text (Err f) → Opens other can text (Err f)
  fault_alike fault.Short opens = opens
  fault_alike fault.Magic opens = opens
  fault_alike fault.Version opens = opens
  fault_alike fault.Length opens = opens
  fault_alike fault.Digest opens = opens
  fault_alike fault.Body opens = opens
  fault_alike fault.NoMemory opens = opens
