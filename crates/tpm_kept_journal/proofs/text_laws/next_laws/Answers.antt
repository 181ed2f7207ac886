use Rattle.tpm_kept_journal.proofs.texts.NextAt.{damage_tells, torn_tells, whole_tells}
use Rattle.tpm_kept_journal.proofs.text_laws.next_laws.Goals as goal

pub returns-clause-whole : goal.returns-clause-whole
returns-clause-whole c = whole_tells

pub returns-clause-torn : goal.returns-clause-torn
returns-clause-torn c = torn_tells

pub returns-clause-damaged : goal.returns-clause-damaged
returns-clause-damaged c = damage_tells
