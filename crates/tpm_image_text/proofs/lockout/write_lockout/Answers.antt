use Rattle.tpm_image_text.specs.Body.{lockout_text}
use Rattle.tpm_image_text.proofs.Writing.{five_written}
use Rattle.tpm_image_text.proofs.lockout.write_lockout.Goals as goal

pub returns-clause-written : goal.returns-clause-written
unfolding lockout_text
returns-clause-written c =
    five_written _ _ _ _ _ _ _ _ _ _ _ c.write_u32.ensures.written c.write_u32-2.ensures.written
    c.write_u32-3.ensures.written c.write_u32-4.ensures.written c.write_bool.ensures.written
