use Rattle.std.proofs.Common.{length, take, ap, refl, ◌∙◌}
use Rattle.std.proofs.lemmas.List.{take_at}
use Rattle.tpm_journal_text.proofs.Pieces.{same_is_equal}
use Rattle.tpm_journal_text.proofs.reading.begins_with.Goals as goal

pub returns-clause-no : goal.returns-clause-no
returns-clause-no c rest there =
    c.is_equal.ensures
    ∙ same_is_equal _ _ (c.split_at.ensures.front ∙ ap (take (length c.args.front.now)) there
    ∙ take_at c.args.front.now rest (length c.args.front.now) refl)
