-- A power cycle is the execution of an event. Two sequences of executions make one sequence if the
-- second begins with the record that the first left.
use Rattle.std.proofs.Common.{arith, ◌≡◌, ◌≢◌, ℕ, zero, suc, Bool, false, List, [], ◌∷◌, ◌++◌, length, refl, subst}
use Rattle.std.proofs.lemmas.Bool.{false≢true}
use Rattle.std.proofs.lemmas.List.{length-map, length-replicate}
use Rattle.std.proofs.lemmas.List.Elements.{All-map}
use Rattle.tpm_lockout.specs.Lockout.{IsLockout, LockoutState, times_restarted}
use Rattle.tpm_mac.specs.Digest.{digest_size}
use Rattle.tpm_mac.specs.declared.algorithm.HashAlg.{HashAlg}
use Rattle.tpm_mac.specs.declared.algorithm.HashAlg.TheVariants as alg
use Rattle.tpm_pcr.specs.Banks.{all_pcrs, new_banks, starting_value, starting_values}
use Rattle.tpm_pcr.specs.Values.{IsBank, IsBanks}
use Rattle.tpm_containers.specs.Slots.{AreAll, free}
use Rattle.tpm_types_common.specs.Limits.{object_limit, session_limit}
use Rattle.tpm_record.specs.Cycle.{after_cycle}
use Rattle.tpm_record.specs.IsRecord.{IsRecord}
use Rattle.tpm_record.specs.Record.{Record}
use Rattle.tpm_step.specs.step.Events.{PlainEvent, Cycled}
use Rattle.tpm_step.specs.step.Execution.{Executes}
use Rattle.tpm_step.specs.step.Step.{Stepped, step}
use Rattle.tpm_step.specs.history.Executions.{Execution, Leads, power_cycle}

-- ---- the record after a power cycle

starting_bank : (bank : HashAlg) → IsBank (digest_size bank) (starting_values bank)
unfolding starting_values all_pcrs
starting_bank bank = (
  length-map all_pcrs (starting_value bank),
  All-map (λ (value : List ℕ). length value ≡ digest_size bank) (starting_value bank) all_pcrs
      (λ k d below. length-replicate (digest_size bank) _),
)

pub starting_banks : IsBanks new_banks
starting_banks = record {
  sha1 = starting_bank alg.Sha1;
  sha256 = starting_bank alg.Sha256;
  count =
      omega arith;
}

pub none_taken : {X : Type 0} (IsOne : X → Type 0) (n : ℕ) → AreAll IsOne (free n)
none_taken IsOne zero place = tt
none_taken IsOne (suc n) zero = tt
none_taken IsOne (suc n) (suc place) = none_taken IsOne n place

restarted_lockout : (s : LockoutState) → IsLockout s → IsLockout (times_restarted s)
restarted_lockout s is = record {
  failed_tries = is.failed_tries;
  max_tries = is.max_tries;
  recovery_time = is.recovery_time;
  lockout_recovery = is.lockout_recovery;
  forgiving_time = omega arith;
  closed_time = omega arith;
}

cycled_record : (r : Record) → IsRecord r → IsRecord (after_cycle r)
cycled_record r is = record {
  saved = is.saved;
  hierarchies = is.hierarchies;
  lockout = restarted_lockout r.fixed.lockout is.lockout;
  banks = starting_banks;
  sessions = refl;
  each_session = none_taken _ session_limit;
  objects = refl;
  each_object = none_taken _ object_limit;
  persistent = is.persistent;
  nv = is.nv;
  time = omega arith;
  clock = is.clock;
  reset_count = is.reset_count;
  restart_count = is.restart_count;
}

-- ---- executions

pub power_cycle_executes : (can : Bool) (r : Record) → IsRecord r
    → Executes can r Cycled (step r Cycled)
power_cycle_executes can r is = record {
  happens = tt;
  steps = (false, (λ none. absurd (false≢true none)), refl);
  exactly = λ never. refl;
  is_record = cycled_record r is;
  harmless = λ refused. absurd (refused refl);
  modest = λ accepted. tt;
  fits = omega arith;
}

pub power_cycle_leads : (can : Bool) (r : Record) → IsRecord r
    → Leads can r (power_cycle r ∷ []) (after_cycle r)
power_cycle_leads can r is = (refl, power_cycle_executes can r is, refl)

pub leads_on : (can : Bool) (old : Record) (first : List Execution) (mid : Record)
    (then : List Execution) (new : Record) → Leads can old first mid → Leads can mid then new
    → Leads can old (first ++ then) new
leads_on can old [] mid then new leads on = subst (λ (r : Record). Leads can r then new) leads on
leads_on can old (one ∷ first) mid then new leads on =
    (leads.0, leads.1, leads_on can one.seen.after first mid then new leads.2 on)

executes_too : (can : Bool) (old : Record) (event : PlainEvent) (x : Stepped)
    → Executes false old event x → Executes can old event x
executes_too can old event x executes = record {
  happens = executes.happens;
  steps = (
    executes.steps.0,
    (λ refused. absurd (false≢true (executes.steps.1 refused))),
    executes.steps.2,
  );
  exactly = λ never. executes.exactly refl;
  is_record = executes.is_record;
  harmless = executes.harmless;
  modest = executes.modest;
  fits = executes.fits;
}

pub leads_too : (can : Bool) (old : Record) (executions : List Execution) (new : Record)
    → Leads false old executions new → Leads can old executions new
leads_too can old [] new leads = leads
leads_too can old (one ∷ executions) new leads = (
  leads.0,
  executes_too can old one.event one.seen leads.1,
  leads_too can one.seen.after executions new leads.2,
)
