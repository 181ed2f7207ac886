use Rattle.std.proofs.Common.{rules}
use Rattle.tpm_aes.proofs.Words.{bytes_of-sums}
use Rattle.tpm_aes.proofs.rounds.add_round_key.Goals as goal

pub returns : goal.returns
returns c = bytes_of-sums c.args.state c.args.key (search rules) (search rules)
