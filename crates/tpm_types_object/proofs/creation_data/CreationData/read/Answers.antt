use Rattle.tpm_types_object.specs.declared.creation_data.CreationData.{CreationData}
use Rattle.tpm_types_common.proofs.Laws.{spelled_found, spelled_only}
use Rattle.tpm_types_object.proofs.CreationLaws.{creation_data_spelled}
use Rattle.tpm_types_object.proofs.creation_data.CreationData.read.Goals as goal

pub returns-clause-found : goal.returns-clause-found
returns-clause-found c =
    spelled_found creation_data_spelled (λ (x : CreationData). x) c.args.text.now
    c.read_fields.result c.read_fields.new.text c.read_fields.ensures.bytes
    c.read_fields.ensures.exact

pub returns-clause-only : goal.returns-clause-only
returns-clause-only c = λ x rest is spelled. spelled_only creation_data_spelled
    (λ (x : CreationData). x) c.args.text.now x rest c.read_fields.result c.read_fields.new.text is
    spelled c.read_fields.ensures.exact
