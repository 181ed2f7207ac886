-- Proves, by computation, that the library's numbers are those of clients/c/tpmsim.h.
use Rattle.std.proofs.Common.{◌≡◌, ◌<◌, ◌==◌, ℕ, false, List, Some, None, refl, arith}
use Rattle.std.proofs.lemmas.Bool.{ne_eqb}
use Rattle.tpm_keeping.specs.Holder.{Failed}
use Rattle.tpm_keeping.specs.declared.holder.End.TheVariants as ending
use Rattle.tpm_keeping.specs.declared.holder.Fault.{Fault}
use Rattle.tpm_keeping.specs.declared.holder.Fault.TheVariants as fault
use Rattle.tpm_keeping.specs.declared.keeper.Ask.{Ask}
use Rattle.tpmsim_library.specs.Keeping.{end_number, fault_of, force_of, job_of, told_by}
use Rattle.tpmsim_library.specs.Numbers.{HasFaultNumbers, HasForceNumbers, HasInnerNumbers, HasJobNumbers, HasNoOtherNumbers, HasToldNumbers, ReportsAreNumbered, TasksAreNumbered}

pub told_numbers : HasToldNumbers
told_numbers = record {
  done = refl;
  no_device = refl;
  no_locality = refl;
  no_memory = refl;
  image_short = refl;
  image_magic = refl;
  image_version = refl;
  image_length = refl;
  image_digest = refl;
  image_body = refl;
  no_journal = refl;
  damaged = refl;
  otherwise = refl;
  state_short = refl;
  state_magic = refl;
  state_version = refl;
  state_length = refl;
  state_digest = refl;
  state_body = refl;
  no_word = refl;
  no_answer = refl;
  state_earlier = refl;
}

pub force_numbers : HasForceNumbers
force_numbers = record { force_never = refl; force_power = refl; force_always = refl }

pub job_numbers : HasJobNumbers
job_numbers = record {
  job_execute = refl;
  job_renew = refl;
  job_show = refl;
  job_begin = refl;
  job_cut = refl;
}

pub tasks_are_numbered : TasksAreNumbered
tasks_are_numbered drops text response = (
  record {
    task_nothing = λ end. refl;
    task_lock = refl;
    task_look = refl;
    task_read = λ at. refl;
    task_put = λ cut at. refl;
    task_force = refl;
    task_make = λ whole. refl;
    task_name = refl;
    task_settle = refl;
    task_unlock = refl;
  },
  record {
    ended = λ end. refl;
    ended_size = λ end. refl;
    read_at = λ at. refl;
    put_cut = λ cut at. refl;
    put_at = λ cut at. refl;
    put_size = λ cut at. refl;
    make_cut = λ whole. refl;
    make_size = λ whole. refl;
    make_drops = λ whole. refl;
  },
)

pub fault_numbers : HasFaultNumbers
fault_numbers = record {
  fault_none = refl;
  fault_idle = refl;
  fault_lock = refl;
  fault_look = refl;
  fault_read = refl;
  fault_write = refl;
  fault_force = refl;
  fault_make = refl;
  fault_name = refl;
  fault_settle = refl;
  fault_absent = refl;
  fault_unreadable = refl;
  fault_no_command = refl;
  fault_damaged = refl;
  fault_memory = refl;
  fault_no_keeper = refl;
}

pub reports_are_numbered : ReportsAreNumbered
reports_are_numbered asked file size bytes =
    record { got_done = refl; got_gone = refl; got_failed = refl }

fault_again : (fault : Fault) → fault_of (end_number (ending.Failed fault)) ≡ Some fault
fault_again fault.Idle = refl
fault_again fault.Lock = refl
fault_again fault.Look = refl
fault_again fault.Read = refl
fault_again fault.Write = refl
fault_again fault.Force = refl
fault_again fault.Make = refl
fault_again fault.Name = refl
fault_again fault.Settle = refl
fault_again fault.Absent = refl
fault_again fault.Unreadable = refl
fault_again fault.NoCommand = refl
fault_again fault.Damaged = refl
fault_again fault.Memory = refl

differs : (number most : ℕ) → most < number → (number == most) ≡ false
differs number most more = ne_eqb number most (λ same. absurd (omega (arith, same, more)))

no_force : (number : ℕ) → 2 < number → force_of number ≡ None
no_force number more =
    rw (
      differs number 0 (omega (arith, more)),
      differs number 1 (omega (arith, more)),
      differs number 2 more,
    ) refl

no_job : (number : ℕ) → 4 < number → job_of number ≡ None
no_job number more =
    rw (
      differs number 0 (omega (arith, more)),
      differs number 1 (omega (arith, more)),
      differs number 2 (omega (arith, more)),
      differs number 3 (omega (arith, more)),
      differs number 4 more,
    ) refl

no_report : (number : ℕ) (asked : Ask) (file size : ℕ) (bytes : List ℕ) → 1 < number
    → told_by number asked file size bytes ≡ Failed
no_report number asked file size bytes more =
    rw (differs number 0 (omega (arith, more)), differs number 1 more) refl

pub no_other_numbers : HasNoOtherNumbers
no_other_numbers = record {
  forces = no_force;
  jobs = no_job;
  reports = no_report;
  faults = fault_again;
}

pub inner_numbers : HasInnerNumbers
inner_numbers = record {
  of_done = refl;
  of_image = λ fault. refl;
  of_state = λ fault. refl;
  of_follow = λ fault. refl;
  of_text = λ fault. refl;
  of_image_memory = refl;
  of_state_memory = refl;
}
