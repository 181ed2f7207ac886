use Rattle.tpm_completion_laws.proofs.Loading.{loads_objects}
use Rattle.tpm_completion_laws.proofs.Saving.{saves_objects}
use Rattle.tpm_completion_laws.proofs.Validity.{stays_valid_through}
use Rattle.tpm_completion_laws.proofs.object_laws.Goals as goal

pub returns-clause-saved : goal.returns-clause-saved
returns-clause-saved c = saves_objects

pub returns-clause-loaded : goal.returns-clause-loaded
returns-clause-loaded c = loads_objects

pub returns-clause-valid : goal.returns-clause-valid
returns-clause-valid c = stays_valid_through
