-- If entries are executed again, these executions are added to the history that the device follows.
use Rattle.std.proofs.Common.{ℕ, Bool, List, [], ◌∷◌, Option}
use Rattle.tpm_record.specs.Record.{Record}
use Rattle.tpm_machine.specs.Executions.{Leads}
use Rattle.tpm_machine.specs.Follows.{Follows, StretchFollows}
use Rattle.tpm_machine.specs.History.{History}
use Rattle.tpm_machine.proofs.Following.{leads_on, stretch_follows}
use Rattle.tpm_completion.specs.Run.{run_of}
use Rattle.tpm_completion.proofs.Runs.{run_leads}
use Rattle.tpm_journal.specs.Command.{event_of}
use Rattle.tpm_journal.specs.Replay.{LeadsBy, Performance, Repeats, run_of_all}
use Rattle.tpm_journal.specs.State.{journal_after}
use Rattle.tpm_journal.specs.declared.following.FollowFault.{FollowFault}
use Rattle.tpm_journal.specs.declared.journal.Journal.{Journal}

-- executing the entries leads from the record before them to the record after them
run_leads_all : (can : Bool) (before : Journal) (old : Record) (performances : List Performance)
    (after : Journal) (new : Record)
    (leads : LeadsBy can before old performances after new)
    → Leads can old (run_of_all can before old performances after new leads) new
run_leads_all can before old [] after new leads = leads.1
run_leads_all can before old (one ∷ performances) after new leads =
    leads_on can old (run_of can one.entry.completes before.layer old (event_of one.entry) one.seen
    leads.0) one.seen.step.after _ new
    (run_leads can one.entry.completes before.layer old (event_of one.entry) one.seen leads.0)
    (run_leads_all can (journal_after before one.entry one.seen.layer) one.seen.step.after
    performances after new leads.1)

pub repeats_follow : (can : Bool) (before : Journal) (old : Record) (text : List ℕ) (taken : ℕ)
    (fault : Option FollowFault) (after : Journal) (new : Record)
    (history : History) → (r : Repeats can before old text taken fault after new)
    → Follows old history
    → StretchFollows can old (run_of_all can before old r.performances after new r.leads) new
    history
repeats_follow can before old text taken fault after new history r follows =
    stretch_follows can old (run_of_all can before old r.performances after new r.leads) new history
    (run_leads_all can before old r.performances after new r.leads) follows
