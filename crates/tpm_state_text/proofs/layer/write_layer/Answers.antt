use Rattle.tpm_state_text.specs.Layer.{layer_text}
use Rattle.tpm_state_text.proofs.Loops.{four_written}
use Rattle.tpm_state_text.proofs.layer.write_layer.Goals as goal

pub returns-clause-written : goal.returns-clause-written
unfolding layer_text
returns-clause-written c =
    four_written _ _ _ _ _ _ _ _ _ c.write_u64.ensures.written c.write_u64-2.ensures.written
    c.write_sessions.ensures.written c.write_sequences.ensures.written
