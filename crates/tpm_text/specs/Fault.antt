-- The faults of a line.
use Rattle.std.specs.Prelude.{ℕ, Result, Ok, Err}
use Rattle.tpm_text.specs.declared.fault.AsmFault.{AsmFault}
use Rattle.tpm_text.specs.declared.fault.AsmFault.TheVariants as line
use Rattle.tpm_number.specs.declared.fault.TokenFault.{TokenFault}
use Rattle.tpm_number.specs.declared.fault.TokenFault.TheVariants as token

-- the fault of a line whose token at this column has this fault
abbrev pub fault_at : ℕ → TokenFault → AsmFault
fault_at column token.Bad = line.BadField column
fault_at column token.Range = line.Range column

-- the result of reading a token, with the token's column added to a fault
abbrev pub at_column : {A : Type 0} → ℕ → Result A TokenFault → Result A AsmFault
at_column column (Ok x) = Ok x
at_column column (Err fault) = Err (fault_at column fault)
