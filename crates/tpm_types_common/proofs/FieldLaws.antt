-- A read returns a field of a structure exactly when the input starts with its encoding.
use Rattle.std.proofs.Common.{ℕ, ◌^◌, ◌<◌, ◌≤◌, ◌++◌, length, ap, arith}
use Rattle.std.specs.Int.{Width, to_be_bytes}
use Rattle.tpm_bytes.specs.Reading.{number_at, or_fault, sized_at}
use Rattle.tpm_bytes.specs.Writing.{sized_text}
use Rattle.tpm_bytes.specs.declared.cursor.SizedFault.TheVariants as fault
use Rattle.tpm_bytes.proofs.Fields.{IsWide, or_fault_ok, number_or_again, number_or_takes, sized_again, sized_takes}
use Rattle.tpm_types_common.specs.declared.rc.Rc.{Rc}
use Rattle.tpm_types_common.specs.Buffer.{buffer_at, or_sized_rc}
use Rattle.tpm_types_common.specs.PcrSelection.{IsSelection, selection_at, selection_text}
use Rattle.tpm_types_common.proofs.Buffers.{or_sized_ok}
use Rattle.tpm_types_common.proofs.SelectionLaws.{selection_again, selection_takes}
use Rattle.tpm_types_common.proofs.Spelled.{Spelled, takes}

-- A read returns a number of the given width exactly when the input starts with its encoding.
pub number_spelled : (w : Width) (limit : ℕ) (wide : IsWide w limit) (rc : Rc)
    → Spelled (to_be_bytes w) (λ n. n < limit) (λ text. or_fault (number_at w text) rc)
number_spelled w limit wide rc = record {
  taken = λ bytes x fits e. number_or_takes w limit wide rc bytes x fits e;
  again = λ n rest small. number_or_again w limit wide rc n rest small;
}

-- A read returns a sized buffer exactly when the input starts with its encoding.
pub buffer_spelled : (limit : ℕ) → limit < 2 ^ 16
    → Spelled sized_text (λ bytes. length bytes ≤ limit) (buffer_at limit)
unfolding buffer_at
buffer_spelled limit narrow = record {
  taken = λ bytes x fits e.
      let t = sized_takes limit fault.Short bytes x fits
      (ap (λ r. or_fault r fault.Short) (or_sized_ok (sized_at limit bytes) x e)) in
      (t.0, t.2);
  again = λ buffer rest few. ap or_sized_rc
      (or_fault_ok (sized_at limit (sized_text buffer ++ rest)) fault.Short (buffer, rest)
      (sized_again limit fault.Short buffer rest (omega (arith, few, narrow)) few));
}

-- A read returns a PCR selection exactly when the input starts with its encoding.
pub selection_spelled : Spelled selection_text IsSelection selection_at
selection_spelled = record {
  taken = λ bytes x fits e. let t =
      selection_takes bytes x fits e in (takes bytes (selection_text x.0) x.1 fits t.0, t.1);
  again = selection_again;
}
