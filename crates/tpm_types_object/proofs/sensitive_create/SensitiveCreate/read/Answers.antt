use Rattle.tpm_types_object.specs.SensitiveCreate.{sensitive_values_of}
use Rattle.tpm_types_common.proofs.Laws.{spelled_is, spelled_only, spelled_text}
use Rattle.tpm_types_object.proofs.SensitiveLaws.{sensitive_create_spelled}
use Rattle.tpm_types_object.proofs.sensitive_create.SensitiveCreate.read.Goals as goal

pub returns-clause-fits : goal.returns-clause-fits
returns-clause-fits c =
    spelled_is sensitive_create_spelled sensitive_values_of c.args.text.now c.read_fields.result
    c.read_fields.new.text c.read_fields.ensures.bytes c.read_fields.ensures.exact

pub returns-clause-found : goal.returns-clause-found
returns-clause-found c =
    spelled_text sensitive_create_spelled sensitive_values_of c.args.text.now c.read_fields.result
    c.read_fields.new.text c.read_fields.ensures.bytes c.read_fields.ensures.exact

pub returns-clause-only : goal.returns-clause-only
returns-clause-only c = λ given rest is spelled. spelled_only sensitive_create_spelled
    sensitive_values_of c.args.text.now given rest c.read_fields.result c.read_fields.new.text is
    spelled c.read_fields.ensures.exact
