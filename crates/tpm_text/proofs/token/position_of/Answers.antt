use Rattle.tpm_text.proofs.FirstByte.{first_place}
use Rattle.tpm_text.proofs.token.position_of.Goals as goal

pub returns : goal.returns
returns c = first_place _ _ _ c.memchr.ensures
