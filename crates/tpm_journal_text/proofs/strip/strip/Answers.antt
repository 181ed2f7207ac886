use Rattle.std.proofs.Common.{length, take, false, true, ◌≡◌, ap, sym, refl, ◌∙◌}
use Rattle.std.proofs.lemmas.List.{take_at}
use Rattle.tpm_journal_text.proofs.Pieces.{same_is_equal}
use Rattle.tpm_journal_text.proofs.strip.strip.Goals as goal

pub returns-else-is_equal-clause-none : goal.returns-else-is_equal-clause-none
returns-else-is_equal-clause-none c rest there =
    let same = c.split_at.ensures.front ∙ ap (λ l. take (length c.args.piece.now) l) there
    ∙ take_at c.args.piece.now rest (length c.args.piece.now) refl in
    let no : true ≡ false = sym (c.is_equal.ensures ∙ same_is_equal _ _ same)
    ∙ c.if-is_equal.false in
    absurd cc
