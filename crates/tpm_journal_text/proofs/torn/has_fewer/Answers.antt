use Rattle.std.proofs.Common.{arith, sym, ◌∙◌}
use Rattle.tpm_journal_text.proofs.Tails.{fewer, not_fewer}
use Rattle.tpm_journal_text.proofs.torn.has_fewer.Goals as goal

pub returns-clause-yes : goal.returns-clause-yes
returns-clause-yes c all =
    fewer c.args.text.now _ c.args.size c.requires (omega arith) c.split_at.ensures.back
    (sym c.are_zeros.ensures ∙ all)

pub returns-clause-no : goal.returns-clause-no
returns-clause-no c some = not_fewer c.args.text.now _ c.args.size c.split_at.ensures.back
    (sym c.are_zeros.ensures ∙ some)
