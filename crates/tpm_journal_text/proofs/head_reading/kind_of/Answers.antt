use Rattle.std.proofs.Common.{sym, ◌∙◌}
use Rattle.tpm_journal_text.proofs.HeadStanding.{is_image, is_state, is_versioned}
use Rattle.tpm_journal_text.proofs.head_reading.kind_of.Goals as goal

pub returns-then-begins_with-clause-kind : goal.returns-then-begins_with-clause-kind
returns-then-begins_with-clause-kind c kind clock content rest is t =
    is_versioned c.args.text.now rest c.version_of.result kind clock content is
    c.version_of.ensures.version (c.begins_with.ensures.yes c.if-begins_with.true).1 t

pub returns-then-begins_with-2-clause-kind : goal.returns-then-begins_with-2-clause-kind
returns-then-begins_with-2-clause-kind c kind clock content rest is t =
    is_state c.as_slice.result.now c.args.text.now rest kind clock content is
    (c.as_slice.ensures.value ∙ c.word.ensures.value)
    (c.begins_with-2.ensures.yes c.if-begins_with-2.true).1 t

pub returns-else-begins_with-2-clause-kind : goal.returns-else-begins_with-2-clause-kind
returns-else-begins_with-2-clause-kind c kind clock content rest is t =
    is_image c.as_slice.result.now c.args.text.now rest c.begins_with-2.result
    c.begins_with.result kind clock content
    (c.as_slice.ensures.value ∙ c.word.ensures.value) c.begins_with-2.ensures.no
    c.if-begins_with-2.false c.begins_with.ensures.no c.if-begins_with.false t
