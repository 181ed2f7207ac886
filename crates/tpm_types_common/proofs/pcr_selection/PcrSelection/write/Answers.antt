use Rattle.std.proofs.Common.{ap, length, arith, refl}
use Rattle.std.proofs.lemmas.Bool.{false≢true}
use Rattle.tpm_types_common.proofs.BanksLemmas.{length-selection_text}
use Rattle.tpm_types_common.proofs.pcr_selection.PcrSelection.write.Goals as goal

pub returns-then-len-banks-clause-written : goal.returns-then-len-banks-clause-written
returns-then-len-banks-clause-written g c =
    let size = length-selection_text c.args.self.now.banks.items in
    let same = ap length c.as_slice-banks.ensures.value in
    ((λ e. absurd (false≢true e), λ fits. absurd (omega arith)), tt, refl)

pub returns-then-len-banks-clause-small : goal.returns-then-len-banks-clause-small
returns-then-len-banks-clause-small g c =
    omega (
      arith,
      length-selection_text c.args.self.now.banks.items,
      ap length c.as_slice-banks.ensures.value,
    )

pub returns-clause-small : goal.returns-clause-small
returns-clause-small g c =
    omega (
      arith,
      length-selection_text c.args.self.now.banks.items,
      ap length c.as_slice-banks.ensures.value,
    )
