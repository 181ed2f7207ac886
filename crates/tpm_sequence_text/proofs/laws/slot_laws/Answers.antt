use Rattle.tpm_sequence_text.proofs.SlotLaws.{reads_only_text}
use Rattle.tpm_sequence_text.proofs.laws.slot_laws.Goals as goal

pub returns-clause-only : goal.returns-clause-only
returns-clause-only c = reads_only_text
