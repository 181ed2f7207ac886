-- After every step and run, the fields of sessions have the right sizes.
use Rattle.std.proofs.Common.{arith, ◌≡◌, ℕ, Bool, true, false, cond, List, [], ◌∷◌, length, take, Option, Some, None, Result, Ok, Err, IfOk, refl, ◌+◌, ◌*◌, drop, subst, sym, Bor, ◌≤◌}
use Rattle.std.specs.Prelude.{IfSome, is_some, not}
use Rattle.std.specs.Option.{option_map_or}
use Rattle.std.proofs.lemmas.List.{length-drop}
use Rattle.tpm_policy.specs.State.{starting}
use Rattle.tpm_session.specs.Session.{with_nonce}
use Rattle.tpm_session.specs.Sessions.{session_at, session_byte, sessions_after_roll, slots_without_session}
use Rattle.tpm_session.specs.declared.session.Session.{Session}
use Rattle.tpm_types_common.specs.SessionAttributes.{continues_session}
use Rattle.tpm_types_common.specs.declared.session_type.SessionType.{SessionType}
use Rattle.tpm_types_common.specs.declared.session_type.SessionType.TheVariants as type
use Rattle.tpm_types_command.specs.AuthEntry.{Entry}
use Rattle.tpm_types_command.specs.Command.{Whole}
use Rattle.tpm_commands.specs.CommandCode.{shape_of}
use Rattle.tpm_record.specs.Cycle.{after_cycle}
use Rattle.tpm_record.specs.Record.{Record, manufactured, with_saved}
use Rattle.tpm_record.specs.Tick.{after_tick}
use Rattle.tpm_auth.specs.Entries.{session_of}
use Rattle.tpm_auth.specs.Grant.{authorize}
use Rattle.tpm_auth.specs.declared.session_grant.Grant.{Grant}
use Rattle.tpm_step.specs.step.Answer.{Written, answer_to, written_of}
use Rattle.tpm_step.specs.step.Entries.{draw_of, entries_ended, entries_rolled, entry_ended, entry_restarted, entry_rolled, restarted_by}
use Rattle.tpm_step.specs.step.Events.{PlainEvent, Given, Cycled, Placed, IsEvent}
use Rattle.tpm_step.specs.step.General.{general}
use Rattle.tpm_step.specs.step.Granted.{Granted, granted_entries}
use Rattle.tpm_step.specs.step.Run.{after_all, Runs}
use Rattle.tpm_step.specs.step.Step.{Accepted, acceptance, acceptance_in, answer_where, request_in, refusal_without_memory, step, step_where, success_step, Stepped, Steps, outcome_step}
use Rattle.tpm_step.specs.step.Table.{row_of}
use Rattle.tpm_step.specs.declared.refused_command.RefusedCommand.{RefusedCommand}
use Rattle.std.specs.List.{AllByRecursion}
use Rattle.std.specs.Fn.{Mut}
use Rattle.tpm_step.specs.step.Execution.{Executes}
use Rattle.tpm_step.specs.declared.event.Outcome.{Outcome}
use Rattle.tpm_record.specs.rows.Request.{Request}
use Rattle.tpm_record.specs.rows.Rows.{Success}
use Rattle.tpm_record.specs.Saved.{Nothing}
use Rattle.tpm_commands.specs.declared.command_code.CommandCode.{CommandCode}
use Rattle.tpm_step.proofs.rows.Draws.{general_few}
use Rattle.tpm_step.specs.rows.Sizes.{AreSized, IsSized}
use Rattle.tpm_step.proofs.rows.AllPlaces.{all_changed, all_found, all_free}
use Rattle.tpm_step.proofs.rows.Binding.{ok_bind, ok_then, ok_in_command}
use Rattle.tpm_policy.proofs.Sizes.{starting_sized}
use Rattle.tpm_step.proofs.rows.SizedParts.{nonce_few, nonce_taken}
use Rattle.tpm_step.proofs.rows.SessionPlaces.{flushed_all, policy_all}
use Rattle.tpm_step.proofs.rows.Table.{row_draws, row_sized}

-- ---- devices without a session

pub manufactured_sized : (random : List ℕ) → AreSized (manufactured random)
manufactured_sized random = all_free IsSized 16

pub cycled_sized : (r : Record) → AreSized (after_cycle r)
cycled_sized r = all_free IsSized 16

-- ---- new nonces

nonce_sized : (s : Session) (left : List ℕ) → 32 ≤ length left → IsSized s
    → IsSized (with_nonce s (take (length s.nonce_tpm) left))
nonce_sized s left enough sized =
    record {
      digest = sized.digest;
      key = sized.key;
      nonce_tpm =
          nonce_taken s.hash (length s.nonce_tpm) left sized.nonce_tpm enough;
    }

-- the size of a session's nonce
abbrev nonce_length : Option Session → ℕ
nonce_length o = option_map_or (λ (s : Session). length s.nonce_tpm) o 0

found_rolled : (o : Option Session) (left : List ℕ) → 32 ≤ length left → IfSome o IsSized
    → IfSome o (λ s. IsSized (with_nonce s (take (nonce_length o) left)))
found_rolled (Some s) left enough sized = nonce_sized s left enough sized
found_rolled None left enough sized = tt

found_few : (o : Option Session) → IfSome o IsSized → nonce_length o ≤ 32
found_few (Some s) sized = nonce_few s.hash (length s.nonce_tpm) sized.nonce_tpm
found_few None sized = omega arith

session_found : (r : Record) (e : Entry) → AreSized r → IfSome (session_of r e) IsSized
unfolding session_at
session_found r e sized = all_found IsSized session_byte r.sessions e.session.number sized

entry_rolled_sized : (r : Record) (e : Entry) (left : List ℕ) → 32 ≤ length left → AreSized r
    → AreSized (entry_rolled r e left).after
unfolding entry_rolled draw_of session_at sessions_after_roll
entry_rolled_sized r e left enough sized =
    all_changed IsSized session_byte (λ s. with_nonce s _) r.sessions e.session.number
    (found_rolled (session_of r e) left enough (session_found r e sized)) sized

-- an entry draws at most 32 bytes
entry_left : (r : Record) (e : Entry) (left : List ℕ) → AreSized r
    → length left ≤ length (entry_rolled r e left).left + 32
unfolding entry_rolled draw_of
entry_left r e left sized =
    omega (
      arith,
      found_few (session_of r e) (session_found r e sized),
      length-drop (nonce_length (session_of r e)) left,
    )

entries_rolled_sized : (r : Record) (es : List Entry) (left : List ℕ) → 32 * length es ≤ length left
    → AreSized r → AreSized (entries_rolled r es left).after
entries_rolled_sized r [] left enough sized = sized
entries_rolled_sized r (e ∷ es) left enough sized =
    entries_rolled_sized (entry_rolled r e left).after es (entry_rolled r e left).left
    (omega (arith, enough, entry_left r e left sized))
    (entry_rolled_sized r e left (omega (arith, enough)) sized)

-- ---- resetting policies, and ending sessions

restarted_sized : (kind : SessionType) (r : Record) (e : Entry) (s : Session)
    → session_of r e ≡ Some s → AreSized r → AreSized (restarted_by kind r e s.hash)
restarted_sized type.Hmac r e s is sized = sized
restarted_sized type.Policy r e s is sized =
    policy_all r.sessions e.session s (starting s.hash) is (starting_sized s.hash) sized
restarted_sized type.Trial r e s is sized = sized

entry_restarted_sized : (r : Record) (e : Entry) → AreSized r → AreSized (entry_restarted r e)
unfolding entry_restarted
entry_restarted_sized r e sized = by (session_of r e) refl
  where
    by : (o : Option Session) → session_of r e ≡ o
        → AreSized (option_map_or (λ (s : Session). restarted_by s.kind r e s.hash) o r)
    by (Some s) is = restarted_sized s.kind r e s is sized
    by None is = sized

entry_ended_sized : (r : Record) (e : Entry) (grant : Option Grant) → AreSized r
    → AreSized (entry_ended r e grant)
unfolding entry_ended
entry_ended_sized r e grant sized = by (not (continues_session e.attributes)) (is_some grant)
  where
    by : (ends grants : Bool)
        → AreSized (cond ends (record r { sessions = slots_without_session r.sessions e.session })
        (cond grants (entry_restarted r e) r))
    by true grants = flushed_all r.sessions e.session sized
    by false true = entry_restarted_sized r e sized
    by false false = sized

entries_ended_sized : (r : Record) (granted : List Granted) → AreSized r
    → AreSized (entries_ended r granted)
entries_ended_sized r [] sized = sized
entries_ended_sized r (g ∷ granted) sized =
    entries_ended_sized (entry_ended r g.0 g.1) granted (entry_ended_sized r g.0 g.1 sized)

pub answer_sized : (c : Whole) (grants : List (Option Grant)) (a : Written) (effect : Record)
    (random : List ℕ) → a.drawn + 32 * length c.entries ≤ length random → AreSized effect
    → AreSized (answer_to c grants a effect random).after
unfolding answer_to
answer_sized c grants a effect random enough sized =
    entries_ended_sized _ (granted_entries c grants)
    (entries_rolled_sized effect c.entries (drop a.drawn random)
    (omega (arith, enough, length-drop a.drawn random)) sized)

-- ---- steps

-- After an accepted command, the fields of all sessions have the right sizes. Enough of the 256
-- random bytes are left for the new nonces.
abbrev Fits : Accepted → Type 0
Fits a = AreSized a.success.after × (a.success.answer.drawn + 32 * length a.command.entries ≤ 256)

acceptance_fits : (r : Record) (c : Whole) (locality : ℕ) (random : List ℕ) → length c.entries ≤ 3
    → 32 ≤ length random → AreSized r → IfOk (acceptance r c locality random) Fits
unfolding acceptance
acceptance_fits r c locality random few enough sized =
    ok_bind _ (authorize r c locality) _ (λ grants.
    let q = request_in r c grants locality random in
    ok_then _ _ (row_of r c.code q) _ (row_kept r c.code q enough sized)
    (λ success kept. (kept.0, omega (arith, few, kept.1))))
  where
    both : {A E : Type 0} (P Q : A → Type 0) (x : Result A E) → IfOk x P → IfOk x Q
        → IfOk x (λ a. P a × Q a)
    both P Q (Ok a) p q = (p, q)
    both P Q (Err e) p q = tt

    row_kept : (r : Record) (c : CommandCode) (q : Request) → 32 ≤ length q.random → AreSized r
        → IfOk (row_of r c q) (λ s. AreSized s.after × (s.answer.drawn ≤ 96))
    row_kept r c q enough sized =
        both (λ (s : Success). AreSized s.after) (λ (s : Success). s.answer.drawn ≤ 96)
        (row_of r c q) (row_sized r c q enough sized) (row_draws r c q)

accepted_fits : (r : Record) (buffer : List ℕ) (locality : ℕ) (random : List ℕ) → 32 ≤ length random
    → AreSized r → IfOk (acceptance_in r buffer locality random) Fits
unfolding acceptance_in
accepted_fits r buffer locality random enough sized =
    ok_then _ _ (general r buffer) _ (general_few r buffer) (λ c few.
    ok_in_command Fits c.code (acceptance r c locality random)
    (acceptance_fits r c locality random few enough sized))

settled_sized : (keeps : Bool) (r : Record) → AreSized r
    → AreSized (cond keeps r (with_saved r Nothing))
settled_sized true r sized = sized
settled_sized false r sized = sized

success_sized : (a : Accepted) (random : List ℕ) → 256 ≤ length random → Fits a
    → AreSized (success_step a random).after
success_sized a random enough fits =
    settled_sized (shape_of a.command.code).keeps_shutdown _
    (answer_sized a.command a.grants (written_of a.success.answer) a.success.after random
    (omega (arith, enough, fits.1)) fits.0)

answer_where_sized : (refused : Bool) (r : Record) (random : List ℕ)
    (a : Result Accepted RefusedCommand) → 256 ≤ length random → AreSized r → IfOk a Fits
    → AreSized (answer_where refused r random a).after
answer_where_sized false r random (Ok a) enough sized fits = success_sized a random enough fits
answer_where_sized false r random (Err e) enough sized fits = sized
answer_where_sized true r random (Err e) enough sized fits = sized
answer_where_sized true r random (Ok a) enough sized fits = by (shape_of a.command.code).grows
  where
    by : (grows : Bool)
        → AreSized (cond grows (refusal_without_memory r a.command) (success_step a random)).after
    by true = sized
    by false = success_sized a random enough fits

pub step_sized : (refused : Bool) (r : Record) (event : PlainEvent) → IsEvent event → AreSized r
    → AreSized (step_where refused r event).after
step_sized refused r (Given buffer locality elapsed random) happens sized =
    let t = after_tick r elapsed in
    let enough : 256 ≤ length random = omega (arith, happens.2) in
    answer_where_sized refused t random (acceptance_in t buffer locality random) enough sized
    (accepted_fits t buffer locality random (omega (arith, enough)) sized)
step_sized refused r Cycled happens sized = cycled_sized r
step_sized refused r (Placed object) happens sized = sized

pub execution_sized : (can : Bool) (r : Record) (event : PlainEvent) (x : Stepped)
    → Executes can r event x → AreSized r → AreSized x.after
execution_sized can r event x executes sized =
    by executes.steps
  where
    by : Steps can r event x → AreSized x.after
    by (refused, only, is) =
        subst (λ (y : Stepped). AreSized y.after) (sym is)
        (step_sized refused r event executes.happens sized)

-- ---- runs

after_all_sized : (r : Record) (events : List PlainEvent) → AllByRecursion IsEvent events
    → AreSized r → AreSized (after_all r events)
after_all_sized r [] happen sized = sized
after_all_sized r (event ∷ events) happen sized =
    after_all_sized (step r event).after events happen.1 (step_sized false r event happen.0 sized)

pub histories_sized : (random : List ℕ) (events : List PlainEvent) → AllByRecursion IsEvent events
    → AreSized (after_all (manufactured random) events)
histories_sized random events happen =
    after_all_sized (manufactured random) events happen (manufactured_sized random)

-- After every run of events, the fields of all sessions still have the right sizes, whether or not
-- allocations can fail.
pub run_sized : {F : Type 0} (g : Mut F (Bor Outcome × Unit {0}) (Unit {0})) (can : Bool)
    (old : Record) (p : F) (events : List PlainEvent) (new : Record) (q : F)
    → Runs g can old p events new q → AreSized old → AreSized new
run_sized g can old p [] new q run sized = subst AreSized (sym run.0) sized
run_sized g can old p (event ∷ events) new q run sized =
    run_sized g can run.1 run.2 events new q run.5
    (execution_sized can old event (outcome_step run.1 run.0) run.3 sized)
