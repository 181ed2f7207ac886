-- A step of a keeper that cuts off damage is a step of an ordinary keeper, possibly followed by a
-- request for another call.
use Rattle.std.proofs.Common.{[], refl, inl, inr}
use Rattle.tpm_keeping.specs.Cutting.{Caller, IsOrIsAsked, goes_on_in, next_call}
use Rattle.tpm_keeping.specs.Holder.{Told, next_of}
use Rattle.tpm_keeping.specs.Journal.{Journal}
use Rattle.tpm_keeping.specs.declared.caller.OnDamage.{OnDamage}
use Rattle.tpm_keeping.specs.declared.caller.OnDamage.TheVariants.{Ends, IsCut, BeginsAgain}
use Rattle.tpm_keeping.specs.declared.holder.Fault.{Fault}
use Rattle.tpm_keeping.specs.declared.holder.Fault.TheVariants as fault
use Rattle.tpm_keeping.specs.declared.holder.End.TheVariants as ending
use Rattle.tpm_keeping.specs.declared.holder.Job.TheVariants.{Cut}
use Rattle.tpm_keeping.specs.declared.holder.Phase.{Phase}
use Rattle.tpm_keeping.specs.declared.holder.Phase.TheVariants.{Ended, Locking, Looking, Reading, Putting, Forcing, Making, Naming, Settling, Leaving}

-- if a call ends with a fault, either the holder is unchanged, or the keeper requests the job `Cut`
ended_so : (f : Fault) (c : Caller)
    → IsOrIsAsked c.holder (goes_on_in IsCut (Ended (ending.Failed f)) c).holder
ended_so fault.Damaged c = inr (Cut, [], refl)
ended_so fault.Idle c = inl refl
ended_so fault.Lock c = inl refl
ended_so fault.Look c = inl refl
ended_so fault.Read c = inl refl
ended_so fault.Write c = inl refl
ended_so fault.Force c = inl refl
ended_so fault.Make c = inl refl
ended_so fault.Name c = inl refl
ended_so fault.Settle c = inl refl
ended_so fault.Absent c = inl refl
ended_so fault.Unreadable c = inl refl
ended_so fault.NoCommand c = inl refl
ended_so fault.Memory c = inl refl

going : (d : OnDamage) (p : Phase) (c : Caller) → IsOrIsAsked c.holder (goes_on_in d p c).holder
going Ends p c = inl refl
going IsCut (Ended ending.Done) c = inl refl
going IsCut (Ended (ending.Failed f)) c = ended_so f c
going IsCut Locking c = inl refl
going IsCut Looking c = inl refl
going IsCut Reading c = inl refl
going IsCut Putting c = inl refl
going IsCut Forcing c = inl refl
going IsCut Making c = inl refl
going IsCut Naming c = inl refl
going IsCut Settling c = inl refl
going IsCut (Leaving e) c = inl refl
going BeginsAgain (Ended ending.Done) c = inr (c.job, c.command, refl)
going BeginsAgain (Ended (ending.Failed f)) c = inl refl
going BeginsAgain Locking c = inl refl
going BeginsAgain Looking c = inl refl
going BeginsAgain Reading c = inl refl
going BeginsAgain Putting c = inl refl
going BeginsAgain Forcing c = inl refl
going BeginsAgain Making c = inl refl
going BeginsAgain Naming c = inl refl
going BeginsAgain Settling c = inl refl
going BeginsAgain (Leaving e) c = inl refl

pub cuts_are_calls : (j : Journal) (c : Caller) (told : Told)
    → IsOrIsAsked (next_of j c.holder told) (next_call j c told).holder
cuts_are_calls j c told =
    let k = next_of j c.holder told in
    going c.on_damage k.phase (record c { holder = k })
