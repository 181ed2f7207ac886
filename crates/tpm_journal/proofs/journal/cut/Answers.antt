use Rattle.std.proofs.Common.{take_all, sym}
use Rattle.tpm_journal.proofs.journal.cut.Goals as goal

pub returns-then-buffer-le-ENTRY_LIMIT : goal.returns-then-buffer-le-ENTRY_LIMIT
returns-then-buffer-le-ENTRY_LIMIT c =
    sym (take_all 4097 c.args.buffer.now c.if-buffer-le-ENTRY_LIMIT.true)
