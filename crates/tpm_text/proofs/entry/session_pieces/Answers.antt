use Rattle.std.proofs.Common.{rules}
use Rattle.tpm_text.proofs.EntryTexts.{other_pieces}
use Rattle.tpm_text.proofs.entry.session_pieces.Goals as goal

pub returns-in_default-Some-cut-3 : goal.returns-in_default-Some-cut-3
returns-in_default-Some-cut-3 c =
    other_pieces c.args.text.now c.cut.result.0.now c.cut-2.result.0.now c.cut-3.result.0.now
    c.cut-4.result.0.now c.in_default-Some-cut-3.field-0-1.now (search rules)
