use Rattle.std.proofs.Common.{rules, ◌≡◌, List, ◌++◌, drop, take, ap, sym, ◌∙◌}
use Rattle.std.proofs.lemmas.List.{take-append-drop}
use Rattle.tpm_kept_journal.specs.texts.HeadAt.{PlainHead}
use Rattle.tpm_kept_journal.proofs.texts.HeadAt.{head_at_front, no_head}
use Rattle.tpmsim_library.proofs.shown.put_content.Goals as goal

-- without a head, there is no content
pub returns-in_default : goal.returns-in_default
returns-in_default c =
    rw (no_head c.args.text.now
    (λ h rest has is. c.in_default.ensures.only h.kind h.clock h.content rest has is))
    (search rules)

-- the content of the head at the start of the bytes is written
pub returns : goal.returns
returns c =
    let head = c.in-Some.head in
    let text = c.args.text.now in
    let h : PlainHead =
    record { kind = head.kind; clock = head.clock; content = head.content.now } in
    let parts = sym (take-append-drop head.size text)
    ∙ ap (λ (l : List _). l ++ drop head.size text) c.in-Some.ensures.head.is in
    rw (head_at_front h (drop head.size text) text c.in-Some.ensures.head.has parts)
    c.put_whole.ensures
