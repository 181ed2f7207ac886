use Rattle.tpm_journal_laws.proofs.Buffers.{is_recorded_whole}
use Rattle.tpm_journal_laws.proofs.buffer_laws.Goals as goal

pub returns-clause-whole : goal.returns-clause-whole
returns-clause-whole c = is_recorded_whole
