use Rattle.tpm_kept_journal.proofs.texts.TornText.{is_torn_text-Decides}
use Rattle.tpm_kept_journal.proofs.text_laws.torn_text_laws.Goals as goal

pub returns : goal.returns
returns c = is_torn_text-Decides
