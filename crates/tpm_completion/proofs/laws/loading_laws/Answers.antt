use Rattle.tpm_completion.proofs.Loaded.{loads_only_what_was_made, loads_what_was_saved}
use Rattle.tpm_completion.proofs.laws.loading_laws.Goals as goal

pub returns-clause-again : goal.returns-clause-again
returns-clause-again c = loads_what_was_saved

pub returns-clause-only : goal.returns-clause-only
returns-clause-only c = loads_only_what_was_made
