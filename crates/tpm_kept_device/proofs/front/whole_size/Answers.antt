use Rattle.tpm_kept_device.proofs.Fronts.{front_read, no_front}
use Rattle.tpm_kept_journal.proofs.texts.HeadAt.{no_head}
use Rattle.tpm_kept_device.proofs.front.whole_size.Goals as goal

pub returns-in_default-clause-value : goal.returns-in_default-clause-value
returns-in_default-clause-value c =
    no_front c.args.text.now
    (no_head c.args.text.now
    (λ h rest has is. c.in_default.ensures.only h.kind h.clock h.content rest has is))

pub returns-clause-value : goal.returns-clause-value
returns-clause-value c =
    front_read c.args.text.now c.split_at.result.1.now c.in-Some.head c.entries_size.result
    c.in-Some.ensures.head c.split_at.ensures.back
    c.entries_size.ensures.value
