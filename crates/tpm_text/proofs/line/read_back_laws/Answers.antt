use Rattle.tpm_text.proofs.Spelling.{spelled_again}
use Rattle.tpm_text.proofs.line.read_back_laws.Goals as goal

pub returns : goal.returns
returns c = spelled_again
