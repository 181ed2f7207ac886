use Rattle.tpm_types_common.specs.declared.symmetric.SymmetricDefinition.{SymmetricDefinition}
use Rattle.tpm_types_common.specs.Symmetric.{symmetric_at, symmetric_text}
use Rattle.tpm_types_common.proofs.Laws.{read_only, read_spelled}
use Rattle.tpm_types_common.proofs.SymmetricLaws.{symmetric_again, symmetric_takes}
use Rattle.tpm_types_common.proofs.symmetric.SymmetricDefinition.read.Goals as goal

pub returns-clause-found : goal.returns-clause-found
returns-clause-found c =
    read_spelled symmetric_at symmetric_text symmetric_takes c.args.text.now c.read_fields.result
    c.read_fields.new.text c.read_fields.ensures.bytes c.read_fields.ensures.exact

pub returns-clause-only : goal.returns-clause-only
returns-clause-only c = λ definition rest spelled. read_only (λ (d : SymmetricDefinition). d)
    symmetric_at c.args.text.now _ definition rest c.read_fields.result c.read_fields.new.text
    (symmetric_again definition rest) spelled c.read_fields.ensures.exact
