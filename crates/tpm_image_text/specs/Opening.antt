-- The results of opening an image.
use Rattle.std.specs.Prelude.{◌≡◌, Bool, true, List, ℕ, Result, Ok, Err}
use Rattle.tpm_record.specs.Cycle.{after_cycle}
use Rattle.tpm_record.specs.Record.{Record}
use Rattle.tpm_image_text.specs.Image.{image_of, symmetric_image_of}
use Rattle.tpm_image_text.specs.NonVolatile.{NonVolatile, powered_on}
use Rattle.tpm_image_text.specs.declared.fault.ImageFault.{ImageFault}
use Rattle.tpm_image_text.specs.declared.fault.ImageFault.TheVariants.{NoMemory}

-- On success, the result is a machine with the non-volatile state that was read, just after
-- power-on. On error, the result is the first fault of the bytes; or NoMemory, if an allocation
-- failed and the bytes have no fault.
abbrev pub OpensBy : {M : Type 0}
    → (M → Record) → Bool → (read : Result NonVolatile ImageFault) → Result M ImageFault → Type 0
OpensBy record_of can read (Ok machine) =
    (kept : NonVolatile) × (read ≡ Ok kept) × (record_of machine ≡ powered_on kept)
OpensBy record_of can read (Err NoMemory) =
    (can ≡ true) × ((kept : NonVolatile) × (read ≡ Ok kept))
OpensBy record_of can read (Err fault) = read ≡ Err fault

-- The bytes were opened as an image of a device of either profile.
abbrev pub Opens : {M : Type 0} → (M → Record) → Bool → List ℕ → Result M ImageFault → Type 0
Opens record_of can text result = OpensBy record_of can (image_of text) result

-- The bytes were opened as an image of a device of the symmetric profile.
abbrev pub OpensSymmetric : {M : Type 0}
    → (M → Record) → Bool → List ℕ → Result M ImageFault → Type 0
OpensSymmetric record_of can text result =
    OpensBy record_of can (symmetric_image_of text) result

-- Opening the image of a record resulted in the record after a power cycle, or an allocation
-- failed.
abbrev pub OpensAgain : {M : Type 0} → (M → Record) → Bool → Record → Result M ImageFault → Type 0
OpensAgain record_of can r (Ok machine) = record_of machine ≡ after_cycle r
OpensAgain record_of can r (Err NoMemory) = can ≡ true
OpensAgain record_of can r (Err fault) = ⊥
