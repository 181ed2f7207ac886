use Rattle.tpm_types_common.specs.PcrSelection.{IsSelection, selection_at, selection_text}
use Rattle.tpm_types_common.specs.declared.pcr_selection.PcrSelection.{PcrSelection}
use Rattle.tpm_types_common.proofs.Laws.{read_found, read_only}
use Rattle.tpm_types_common.proofs.SelectionLaws.{selection_takes, selection_again}
use Rattle.tpm_types_common.proofs.pcr_selection.PcrSelection.read.Goals as goal

pub returns-clause-found : goal.returns-clause-found
returns-clause-found c =
    read_found (λ (selection : PcrSelection). selection.banks.items) selection_at selection_text
    IsSelection selection_takes c.args.text.now c.read_fields.result c.read_fields.new.text
    c.read_fields.ensures.bytes c.read_fields.ensures.exact

pub returns-clause-only : goal.returns-clause-only
returns-clause-only c =
    λ banks rest is spelled. read_only (λ (selection : PcrSelection). selection.banks.items)
    selection_at c.args.text.now _ banks rest c.read_fields.result c.read_fields.new.text
    (selection_again banks rest is) spelled c.read_fields.ensures.exact
