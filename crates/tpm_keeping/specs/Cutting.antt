-- A keeper that cuts off damage: if a call finds a damaged journal, the keeper cuts off the damage
-- with the job `Cut`, and then begins the call again.
use Rattle.std.specs.Prelude.{◌≡◌, ℕ, ◌⊎◌, Bool, true, false, List, []}
use Rattle.tpm_keeping.specs.Holder.{Holder, Told, holder_after_ask, next_of, rests}
use Rattle.tpm_keeping.specs.Journal.{Journal, Spot}
use Rattle.tpm_keeping.specs.View.{holder_of}
use Rattle.tpm_keeping.specs.declared.caller.CuttingKeeper.{CuttingKeeper}
use Rattle.tpm_keeping.specs.declared.caller.OnDamage.{OnDamage}
use Rattle.tpm_keeping.specs.declared.caller.OnDamage.TheVariants.{Ends, IsCut, BeginsAgain}
use Rattle.tpm_keeping.specs.declared.holder.Fault.TheVariants as fault
use Rattle.tpm_keeping.specs.declared.holder.End.TheVariants as ending
use Rattle.tpm_keeping.specs.declared.holder.Job.{Job}
use Rattle.tpm_keeping.specs.declared.holder.Job.TheVariants.{Show, Cut}
use Rattle.tpm_keeping.specs.declared.holder.Phase.{Phase}
use Rattle.tpm_keeping.specs.declared.holder.Phase.TheVariants.{Ended}

-- A holder, and the call that begins again after damage was cut off.
pub record Caller : Type 0 where
  pub holder : Holder
  -- what happens if the call finds damage
  pub on_damage : OnDamage
  -- the job with which the call begins again after damage was cut off
  pub job : Job
  -- the command with which the call begins again after damage was cut off; empty unless damage is
  -- to be cut off
  pub command : List ℕ

abbrev pub caller_of : {D : Type 0} → (D → Spot) → CuttingKeeper D → Caller
caller_of state k = record {
  holder = holder_of state k.keeper;
  on_damage = k.on_damage;
  job = k.job;
  command = k.command.items;
}

-- a holder that has not begun a call
abbrev pub idle : Holder → Caller
idle k = record { holder = k; on_damage = Ends; job = Show; command = [] }

-- the keeper after it begins a call; a call that was still in progress is dropped
abbrev pub caller_after_ask : (cuts : Bool) → Job → List ℕ → Holder → Caller
caller_after_ask true job command k = record {
  holder = holder_after_ask (rests k) job command;
  on_damage = IsCut;
  job = job;
  command = command;
}
caller_after_ask false job command k =
    record {
      holder = holder_after_ask (rests k) job command;
      on_damage = Ends;
      job = job;
      command = [];
    }

-- the keeper after a call ended. If the call found damage that has to be cut off, the job `Cut`
-- follows; after this job, the call begins again
abbrev pub goes_on_in : OnDamage → Phase → Caller → Caller
goes_on_in IsCut (Ended (ending.Failed fault.Damaged)) c =
    record c { holder = holder_after_ask c.holder Cut []; on_damage = BeginsAgain }
goes_on_in BeginsAgain (Ended ending.Done) c =
    record c { holder = holder_after_ask c.holder c.job c.command; on_damage = Ends; command = [] }
goes_on_in on_damage phase c = c

abbrev pub goes_on : Caller → Caller
goes_on c = goes_on_in c.on_damage c.holder.phase c

-- the keeper after the next step
abbrev pub next_call : Journal → Caller → Told → Caller
next_call j c told = goes_on (record c { holder = next_of j c.holder told })

-- The holder is unchanged, or it was asked to do a job.
abbrev pub IsOrIsAsked : (before after : Holder) → Type 0
IsOrIsAsked before after =
    (after ≡ before)
    ⊎ ((job : Job) × (command : List ℕ) × (after ≡ holder_after_ask before job command))
