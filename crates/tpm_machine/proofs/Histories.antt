-- If a device follows a history, then after an execution or a run it follows the history with the
-- accepted events added.
use Rattle.std.proofs.Common.{◌≡◌, Bool, List, [], Bor, ℕ, subst, sym}
use Rattle.std.specs.Fn.{Mut}
use Rattle.tpm_commands.specs.declared.profile.Profile.{Profile}
use Rattle.tpm_record.specs.Record.{Record, manufactured_as}
use Rattle.tpm_step.specs.step.Events.{PlainEvent}
use Rattle.tpm_step.specs.step.Execution.{Executes}
use Rattle.tpm_step.specs.step.Run.{Runs}
use Rattle.tpm_step.specs.step.Step.{Stepped}
use Rattle.tpm_step.specs.declared.event.Outcome.{Outcome}
use Rattle.tpm_step.specs.history.Follows.{After, Follows, FollowsOn, RunFollows}
use Rattle.tpm_step.specs.history.History.{History}
use Rattle.tpm_step.proofs.history.Following.{execution_follows, manufactured_as_follows, run_follows}

pub new_follows : (r : Record) (profile : Profile) (random : List ℕ)
    → r ≡ manufactured_as profile random → Follows r []
new_follows r profile random is =
    subst (λ (x : Record). Follows x []) (sym is) (manufactured_as_follows profile random)

-- If a device follows a history, then after an event it follows the history with this event added.
-- An event that was not accepted is not added. The other claims of `FollowsOn` hold too.
pub follows_on : (can : Bool) (old : Record) (event : PlainEvent) (x : Stepped)
    → Executes can old event x → FollowsOn old event x
follows_on can old event x executes =
    let next : After Follows old event x =
    λ history follows. execution_follows can old event x history executes follows in
    record {
      history = next;
      counters = λ history follows. (next history follows).counters;
      pcrs = λ history follows. (next history follows).pcrs;
      auth_values = λ history follows. (next history follows).auth_values;
      sessions = λ history follows. (next history follows).sessions;
      replays = λ history follows. (next history follows).replays;
      grounds = λ history follows. (next history follows).grounds;
      policies = λ history follows. (next history follows).policies;
    }

pub runs_follow : {F : Type 0} (g : Mut F (Bor Outcome × Unit {0}) (Unit {0})) (can : Bool)
    (old : Record) (p : F) (events : List PlainEvent) (new : Record) (q : F)
    → Runs g can old p events new q → (history : History) → Follows old history
    → RunFollows g can old p events new q history
runs_follow g can old p events new q run history follows =
    run_follows g can old p events new q history run follows
