use Rattle.tpm_kept_laws.proofs.Seeds.{made_of_random, opened_from_image, restored_from_state, no_other_kind}
use Rattle.tpm_kept_laws.proofs.seed_laws.Goals as goal

pub returns-clause-random : goal.returns-clause-random
returns-clause-random c = made_of_random

pub returns-clause-image : goal.returns-clause-image
returns-clause-image c = opened_from_image

pub returns-clause-state : goal.returns-clause-state
returns-clause-state c = restored_from_state

pub returns-clause-other : goal.returns-clause-other
returns-clause-other c = no_other_kind
