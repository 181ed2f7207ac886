use Rattle.std.proofs.Common.{◌++◌, List, ℕ, ap, ◌∙◌}
use Rattle.tpm_types_common.specs.PcrSelection.{banks_text}
use Rattle.tpm_types_common.proofs.BanksLemmas.{selection_written}
use Rattle.tpm_types_common.proofs.pcr_selection.append_selection.Goals as goal

pub returns-clause-written : goal.returns-clause-written
returns-clause-written g c =
    let banks = c.args.banks.now in
    c.append_banks.ensures.written ∙ ap (λ (l : List ℕ). l ++ banks_text banks) c.append_u32.ensures
    ∙ selection_written banks c.args.sink.now
