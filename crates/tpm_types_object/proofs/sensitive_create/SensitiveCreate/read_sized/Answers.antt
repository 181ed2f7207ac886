use Rattle.tpm_types_object.specs.SensitiveCreate.{sensitive_values_of}
use Rattle.tpm_types_common.proofs.Laws.{spelled_is, spelled_only, spelled_text}
use Rattle.tpm_types_object.proofs.SensitiveLaws.{sized_sensitive_create_spelled}
use Rattle.tpm_types_object.proofs.sensitive_create.SensitiveCreate.read_sized.Goals as goal

pub returns-clause-fits : goal.returns-clause-fits
returns-clause-fits c =
    spelled_is sized_sensitive_create_spelled sensitive_values_of c.args.text.now
    c.read_filled.result c.read_filled.new.text c.read_filled.ensures.bytes
    c.read_filled.ensures.exact

pub returns-clause-found : goal.returns-clause-found
returns-clause-found c =
    spelled_text sized_sensitive_create_spelled sensitive_values_of c.args.text.now
    c.read_filled.result c.read_filled.new.text c.read_filled.ensures.bytes
    c.read_filled.ensures.exact

pub returns-clause-only : goal.returns-clause-only
returns-clause-only c = λ given rest is spelled. spelled_only sized_sensitive_create_spelled
    sensitive_values_of c.args.text.now given rest c.read_filled.result c.read_filled.new.text is
    spelled c.read_filled.ensures.exact
