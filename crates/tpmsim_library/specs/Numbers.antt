-- The numbers of clients/c/tpmsim.h. A field of the first records has the name of an enumerator,
-- without the prefix TPMSIM_, and the enumerator's number. A test compares them with the header.
use Rattle.std.specs.Prelude.{◌≡◌, ℕ, ◌<◌, Bool, List, Some, None}
use Rattle.tpm_image_text.specs.declared.fault.ImageFault.{ImageFault}
use Rattle.tpm_image_text.specs.declared.fault.ImageFault.TheVariants as image
use Rattle.tpm_journal.specs.declared.following.FollowFault.{FollowFault}
use Rattle.tpm_journal.specs.declared.following.FollowFault.TheVariants as follow
use Rattle.tpm_journal.specs.declared.opening.OpenFault.TheVariants as opening
use Rattle.tpm_keeping.specs.Holder.{Gone, Failed}
use Rattle.tpm_keeping.specs.declared.holder.End.{End}
use Rattle.tpm_keeping.specs.declared.holder.End.TheVariants as ending
use Rattle.tpm_keeping.specs.declared.holder.Fault.{Fault}
use Rattle.tpm_keeping.specs.declared.holder.Fault.TheVariants as fault
use Rattle.tpm_keeping.specs.declared.holder.Force.TheVariants.{Never, Power, Always}
use Rattle.tpm_keeping.specs.declared.holder.Job.TheVariants.{Execute, Renew, Show, Begin, Cut}
use Rattle.tpm_keeping.specs.declared.keeper.Ask.{Ask}
use Rattle.tpm_keeping.specs.declared.keeper.Ask.TheVariants as ask
use Rattle.tpm_state_text.specs.declared.fault.RestoreFault.{RestoreFault}
use Rattle.tpm_state_text.specs.declared.fault.RestoreFault.TheVariants as restore
use Rattle.tpm_state_text.specs.declared.fault.StateFault.{StateFault}
use Rattle.tpm_state_text.specs.declared.fault.StateFault.TheVariants as state
use Rattle.tpmsim_library.specs.Keeping.{did, end_number, fault_of, force_of, job_of, no_request, number_of, request_by, told_by}
use Rattle.tpmsim_library.specs.Told as told

-- enum tpmsim_told
pub record HasToldNumbers : Type 0 where
  pub done : told.done_code ≡ 0
  pub no_device : told.no_device ≡ 1
  pub no_locality : told.no_locality ≡ 2
  pub no_memory : told.no_memory ≡ 3
  pub image_short : told.fault_number image.Short ≡ 4
  pub image_magic : told.fault_number image.Magic ≡ 5
  pub image_version : told.fault_number image.Version ≡ 6
  pub image_length : told.fault_number image.Length ≡ 7
  pub image_digest : told.fault_number image.Digest ≡ 8
  pub image_body : told.fault_number image.Body ≡ 9
  pub no_journal : told.open_number opening.NoJournal ≡ 10
  pub damaged : told.follow_number (Some follow.Damaged) ≡ 11
  pub otherwise : told.follow_number (Some follow.Otherwise) ≡ 12
  pub state_short : told.state_number state.Short ≡ 13
  pub state_magic : told.state_number state.Magic ≡ 14
  pub state_version : told.state_number state.Version ≡ 15
  pub state_length : told.state_number state.Length ≡ 16
  pub state_digest : told.state_number state.Digest ≡ 17
  pub state_body : told.state_number state.Body ≡ 18
  pub no_word : told.no_word ≡ 19
  pub no_answer : told.no_answer ≡ 20
  pub state_earlier : told.state_number state.Earlier ≡ 21

-- enum tpmsim_force
pub record HasForceNumbers : Type 0 where
  pub force_never : force_of 0 ≡ Some Never
  pub force_power : force_of 1 ≡ Some Power
  pub force_always : force_of 2 ≡ Some Always

-- enum tpmsim_job
pub record HasJobNumbers : Type 0 where
  pub job_execute : job_of 0 ≡ Some Execute
  pub job_renew : job_of 1 ≡ Some Renew
  pub job_show : job_of 2 ≡ Some Show
  pub job_begin : job_of 3 ≡ Some Begin
  pub job_cut : job_of 4 ≡ Some Cut

-- the number of a task
abbrev pub task_number : Ask → (drops : Bool) → (text response : ℕ) → ℕ
task_number asked drops text response = (request_by asked drops text response).task

-- enum tpmsim_task
pub record HasTaskNumbers (drops : Bool) (text response : ℕ) : Type 0 where
  pub task_nothing : (end : End) → task_number (ask.Nothing end) drops text response ≡ 0
  pub task_lock : task_number ask.Lock drops text response ≡ 1
  pub task_look : task_number ask.Look drops text response ≡ 2
  pub task_read : (at : ℕ) → task_number (ask.Read at) drops text response ≡ 3
  pub task_put : (cut at : ℕ) → task_number (ask.Put cut at) drops text response ≡ 4
  pub task_force : task_number ask.Force drops text response ≡ 5
  pub task_make : (whole : ℕ) → task_number (ask.Make whole) drops text response ≡ 6
  pub task_name : task_number ask.Name drops text response ≡ 7
  pub task_settle : task_number ask.Settle drops text response ≡ 8
  pub task_unlock : task_number ask.Unlock drops text response ≡ 9

-- enum tpmsim_fault
pub record HasFaultNumbers : Type 0 where
  pub fault_none : end_number ending.Done ≡ 0
  pub fault_idle : end_number (ending.Failed fault.Idle) ≡ 1
  pub fault_lock : end_number (ending.Failed fault.Lock) ≡ 2
  pub fault_look : end_number (ending.Failed fault.Look) ≡ 3
  pub fault_read : end_number (ending.Failed fault.Read) ≡ 4
  pub fault_write : end_number (ending.Failed fault.Write) ≡ 5
  pub fault_force : end_number (ending.Failed fault.Force) ≡ 6
  pub fault_make : end_number (ending.Failed fault.Make) ≡ 7
  pub fault_name : end_number (ending.Failed fault.Name) ≡ 8
  pub fault_settle : end_number (ending.Failed fault.Settle) ≡ 9
  pub fault_absent : end_number (ending.Failed fault.Absent) ≡ 10
  pub fault_unreadable : end_number (ending.Failed fault.Unreadable) ≡ 11
  pub fault_no_command : end_number (ending.Failed fault.NoCommand) ≡ 12
  pub fault_damaged : end_number (ending.Failed fault.Damaged) ≡ 13
  pub fault_memory : end_number (ending.Failed fault.Memory) ≡ 14
  pub fault_no_keeper : no_request.fault ≡ 15

-- enum tpmsim_got
pub record HasGotNumbers (asked : Ask) (file size : ℕ) (bytes : List ℕ) : Type 0 where
  pub got_done : told_by 0 asked file size bytes ≡ did asked file size bytes
  pub got_gone : told_by 1 asked file size bytes ≡ Gone
  pub got_failed : told_by 2 asked file size bytes ≡ Failed

-- No other number is a `Force` or a `Job`, any other report counts as a failure, and the message of
-- a fault is found by its number.
pub record HasNoOtherNumbers : Type 0 where
  pub forces : (number : ℕ) → 2 < number → force_of number ≡ None
  pub jobs : (number : ℕ) → 4 < number → job_of number ≡ None
  pub reports : (number : ℕ) (asked : Ask) (file size : ℕ) (bytes : List ℕ) → 1 < number
      → told_by number asked file size bytes ≡ Failed
  pub faults : (fault : Fault) → fault_of (end_number (ending.Failed fault)) ≡ Some fault

-- A fault within another fault has its own number, and so has each failed allocation.
pub record HasInnerNumbers : Type 0 where
  pub of_done : told.follow_number None ≡ told.done_code
  pub of_image : (fault : ImageFault) → told.open_number (opening.Image fault)
      ≡ told.fault_number fault
  pub of_state : (fault : RestoreFault) → told.open_number (opening.State fault)
      ≡ told.restore_number fault
  pub of_follow : (fault : FollowFault) → told.open_number (opening.Follow fault)
      ≡ told.follow_number (Some fault)
  pub of_text : (fault : StateFault) → told.restore_number (restore.Text fault)
      ≡ told.state_number fault
  pub of_image_memory : told.fault_number image.NoMemory ≡ told.no_memory
  pub of_state_memory : told.restore_number restore.NoMemory ≡ told.no_memory

-- The parameters of a task, the size of the response, and whether a new journal drops damage.
pub record HasParameters (drops : Bool) (text response : ℕ) : Type 0 where
  pub ended : (end : End)
      → (request_by (ask.Nothing end) drops text response).fault ≡ end_number end
  pub ended_size : (end : End)
      → (request_by (ask.Nothing end) drops text response).size ≡ response
  pub read_at : (at : ℕ) → (request_by (ask.Read at) drops text response).at ≡ at
  pub put_cut : (cut at : ℕ) → (request_by (ask.Put cut at) drops text response).cut ≡ cut
  pub put_at : (cut at : ℕ) → (request_by (ask.Put cut at) drops text response).at ≡ at
  pub put_size : (cut at : ℕ) → (request_by (ask.Put cut at) drops text response).size ≡ text
  pub make_cut : (whole : ℕ) → (request_by (ask.Make whole) drops text response).cut ≡ whole
  pub make_size : (whole : ℕ) → (request_by (ask.Make whole) drops text response).size ≡ text
  pub make_drops : (whole : ℕ)
      → (request_by (ask.Make whole) drops text response).drops ≡ number_of drops

abbrev pub TasksAreNumbered : Type 0
TasksAreNumbered = (drops : Bool) (text response : ℕ) → HasTaskNumbers drops text response
    × HasParameters drops text response

abbrev pub ReportsAreNumbered : Type 0
ReportsAreNumbered = (asked : Ask) (file size : ℕ) (bytes : List ℕ)
    → HasGotNumbers asked file size bytes
