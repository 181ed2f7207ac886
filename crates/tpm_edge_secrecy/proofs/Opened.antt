-- What a device that was opened from a journal reveals about the data sealed in its objects.
use Rattle.std.specs.Prelude.{false}
use Rattle.tpm_edge_secrecy.specs.Opened.{OpenedDataNeedPolicy, journal_history}
use Rattle.tpm_journal.proofs.Histories.{repeats_follow}
use Rattle.tpm_secrecy.proofs.SealedData.{followed_data_need_policy}
use Rattle.tpm_step.proofs.history.Following.{stretch_follows}
use Rattle.tpm_step.specs.history.Executions.{history_after}
use Rattle.tpm_step.specs.history.Follows.{Follows}
use Rattle.tpm_step.specs.history.History.{History}

pub opened_data_need_policy : OpenedDataNeedPolicy
opened_data_need_policy objects text opened new is past follows can executions old leads event x
    executes =
    let replayed = is.reads.replays.repeats in
    let now : History = journal_history text opened new is past in
    let opens : Follows new now =
    (repeats_follow false is.reads.start.journal is.reads.start.device is.reads.rest
    is.followed.taken is.followed.fault opened.journal new past replayed follows).follows in
    let since : Follows old (history_after now executions) =
    (stretch_follows can new executions old now leads opens).follows in
    followed_data_need_policy objects can old (history_after now executions) since event x executes
