use Rattle.std.proofs.Common.{arith}
use Rattle.tpm_aes.proofs.Entries.{s_box_at}
use Rattle.tpm_aes.proofs.tables.sub_byte.Goals as goal

pub returns : goal.returns
returns c = s_box_at c.from.result c.args.a c.from.ensures (omega arith)
