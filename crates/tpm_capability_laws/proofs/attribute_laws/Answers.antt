use Rattle.tpm_capability_laws.proofs.Attributes.{permanent_says, startup_says}
use Rattle.tpm_capability_laws.proofs.attribute_laws.Goals as goal

-- src/lib.rt:22:1
pub returns-clause-permanent : goal.returns-clause-permanent
returns-clause-permanent c = permanent_says

-- src/lib.rt:22:1
pub returns-clause-startup : goal.returns-clause-startup
returns-clause-startup c = startup_says
