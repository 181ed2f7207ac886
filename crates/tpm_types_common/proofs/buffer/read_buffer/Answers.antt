use Rattle.tpm_types_common.proofs.Buffers.{buffer_within}
use Rattle.tpm_types_common.proofs.buffer.read_buffer.Goals as goal

pub returns-clause-fits : goal.returns-clause-fits
returns-clause-fits c = buffer_within c.args.limit c.args.text.now c.read_sized.new.text
    c.read_sized.result c.read_sized.ensures
