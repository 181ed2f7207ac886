use Rattle.tpm_aes.proofs.Steps.{HasKeysBelow}
use Rattle.tpm_aes.proofs.cipher.Aes128.new.Given as goal

abbrev pub invariant-loop-round : goal.invariant-loop-round
invariant-loop-round l = HasKeysBelow l.round_keys l.key l.round
