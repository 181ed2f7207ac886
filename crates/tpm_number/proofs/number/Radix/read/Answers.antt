use Rattle.std.proofs.Common.{rules}
use Rattle.tpm_number.specs.Number.{radix_number}
use Rattle.tpm_number.proofs.Numerals.{digits_are_utf8, no_digits, number_read, number_too_large, other_bytes}
use Rattle.tpm_number.proofs.number.Radix.read.Goals as goal
use Rattle.tpm_number.proofs.number.Radix.read.Goals.{then-is_empty-via-then-is_empty, then-is_empty-via-else-is_empty+then-not-has_digits}

pub returns-then-is_empty : goal.returns-then-is_empty
returns-then-is_empty c = elim c.then-is_empty.branch [
  | then-is_empty-via-then-is_empty w ↦ no_digits _ _ c.args.digits.now (search rules)
  | then-is_empty-via-else-is_empty+then-not-has_digits w ↦ other_bytes _ _ c.args.digits.now
      (search rules)
]

pub returns-in_default : goal.returns-in_default
returns-in_default c =
    absurd
    (c.in_default.ensures.cases.0
    (digits_are_utf8 (radix_number c.args.self) c.args.digits.now (search rules)
    (search rules)))

pub returns-in_default-from_str_radix : goal.returns-in_default-from_str_radix
returns-in_default-from_str_radix c =
    number_too_large (radix_number c.args.self) c.args.digits.now c.from_str_radix.result _
    c.in_default-from_str_radix.is (search rules) (search rules) (search rules) (search rules)

pub returns : goal.returns
returns c =
    number_read (radix_number c.args.self) c.args.digits.now c.from_str_radix.result _
    c.in-Ok-from_str_radix.is (search rules) (search rules) (search rules) (search rules)
