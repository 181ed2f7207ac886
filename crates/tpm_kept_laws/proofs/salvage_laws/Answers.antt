use Rattle.tpm_kept_laws.proofs.Salvaging.{salvages_front}
use Rattle.tpm_kept_laws.proofs.salvage_laws.Goals as goal

pub returns : goal.returns
returns c = salvages_front
