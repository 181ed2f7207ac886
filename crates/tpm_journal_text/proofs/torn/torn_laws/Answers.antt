use Rattle.std.proofs.Common.{refl}
use Rattle.tpm_journal_text.proofs.Damage.{torn_is_no_entry}
use Rattle.tpm_journal_text.proofs.LeftOut.{left_out_is_damaged}
use Rattle.tpm_journal_text.proofs.Tails.{torn_again, torn_entry, torn_nothing}
use Rattle.tpm_journal_text.proofs.torn.torn_laws.Goals as goal

pub returns-clause-nothing : goal.returns-clause-nothing
returns-clause-nothing c = torn_nothing

pub returns-clause-entry : goal.returns-clause-entry
returns-clause-entry c = torn_entry

pub returns-clause-again : goal.returns-clause-again
returns-clause-again c = torn_again

pub returns-clause-no_entry : goal.returns-clause-no_entry
returns-clause-no_entry c = λ sum e rest is. torn_is_no_entry sum e rest _ is refl

pub returns-clause-left_out : goal.returns-clause-left_out
returns-clause-left_out c = left_out_is_damaged
