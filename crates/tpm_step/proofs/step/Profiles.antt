-- A device serves only the commands of its profile, and never changes its profile. A device of the
-- symmetric profile decodes as if there were no other commands.
use Rattle.std.proofs.Common.{◌≡◌, ℕ, Bool, true, false, cond, List, [], ◌∷◌, Option, Some, None, Result, Ok, Err, IfOk, refl, ap, sym, subst, ◌∙◌}
use Rattle.std.proofs.lemmas.Bool.{eqb-true, false≢true}
use Rattle.std.specs.Prelude.{◌==◌, IfSome, ok_or}
use Rattle.std.specs.List.{filter, find}
use Rattle.tpm_bytes.specs.Reading.{◌>>=◌, refused_if}
use Rattle.tpm_commands.proofs.Codes.{code_named-again, found_passes}
use Rattle.tpm_commands.specs.SymmetricCommands.{symmetric_codes}
use Rattle.tpm_commands.specs.CommandCode.{code_named, code_number, part_of, serves, shape_of}
use Rattle.tpm_commands.specs.CommandFacts.{all_codes}
use Rattle.tpm_commands.specs.Part.{Part, AuthValues, Beginning}
use Rattle.tpm_commands.specs.declared.command_code.CommandCode.{CommandCode}
use Rattle.tpm_commands.specs.declared.profile.Profile.{Profile}
use Rattle.tpm_commands.specs.declared.profile.Profile.TheVariants.{Symmetric}
use Rattle.tpm_auth.specs.Grant.{authorize}
use Rattle.tpm_record.specs.Record.{Record}
use Rattle.tpm_record.specs.Tick.{after_tick}
use Rattle.tpm_record.specs.rows.Request.{Request}
use Rattle.tpm_types_common.specs.declared.check.Check.TheVariants as check
use Rattle.tpm_types_common.specs.declared.rc.ResponseCode.TheVariants as code
use Rattle.tpm_types_common.specs.Rc.{plain}
use Rattle.tpm_types_common.specs.Refused.{checked_result, refusal}
use Rattle.tpm_types_command.specs.Command.{sessions_at}
use Rattle.tpm_types_command.specs.Header.{if_served, code_field, header_at}
use Rattle.tpm_types_command.specs.declared.header.Header.{Header}
use Rattle.tpm_types_command.specs.declared.header.HeaderFault.{HeaderFault}
use Rattle.tpm_types_command.specs.declared.header.HeaderFault.TheVariants as fault
use Rattle.tpm_types_command.specs.declared.tag.Tag.{Tag}
use Rattle.tpm_step.specs.declared.refused_command.RefusedCommand.{RefusedCommand}
use Rattle.tpm_step.specs.history.Executions.{Execution, Leads}
use Rattle.tpm_step.specs.rows.Footprint.{Touches}
use Rattle.tpm_step.specs.step.Events.{PlainEvent, Given, Cycled, Placed}
use Rattle.tpm_step.specs.step.Execution.{Executes}
use Rattle.tpm_step.specs.step.General.{body_of, both_or_neither, general, in_command, in_header, is_startup, present_handles_at, served_header, sessions_pass}
use Rattle.tpm_step.specs.step.Profiles.{KeepsProfile, symmetric_general, symmetric_header_at, symmetric_named}
use Rattle.tpm_step.specs.step.Step.{Accepted, Stepped, acceptance, acceptance_in, answer_where, refusal_without_memory, request_in, step_where, success_step}
use Rattle.tpm_step.specs.step.Table.{row_of}
use Rattle.tpm_step.proofs.rows.Binding.{ok_bind, ok_in_command, ok_then}
use Rattle.tpm_step.proofs.rows.Leaving.{success_leaves}
use Rattle.tpm_step.proofs.rows.Table.{of_success}

-- ---- only commands of the profile are decoded

header_serves : (profile : Profile) (x : Result (Header × List ℕ) HeaderFault)
    → IfOk (in_header (if_served profile x)) (λ h. serves profile h.0.code ≡ true)
header_serves profile (Ok header) = by (serves profile header.0.code) refl
  where
    by : (b : Bool) → serves profile header.0.code ≡ b
        → IfOk (in_header (cond b (Ok header) (Err fault.Code)))
        (λ h. serves profile h.0.code ≡ true)
    by true is = is
    by false is = tt
header_serves profile (Err f) = tt

body_serves : (profile : Profile) (r : Record) (header : Header) (text : List ℕ)
    → serves profile header.code ≡ true
    → IfOk (body_of r header text) (λ c. serves profile c.code ≡ true)
unfolding body_of
body_serves profile r header text is =
    ok_bind _ (refused_if (both_or_neither r.fixed.started (is_startup header.code))
    (refusal check.Started (plain code.Initialize))) _ (λ g5.
    ok_bind _ (checked_result check.Handles (present_handles_at r header.code text)) _ (λ handles.
    ok_bind _ (sessions_pass header.code header.tag) _ (λ g7.
    ok_bind _ (checked_result check.Entries (sessions_at header.tag handles.1)) _ (λ entries. is))))

pub general_serves : (r : Record) (buffer : List ℕ)
    → IfOk (general r buffer) (λ c. serves r.fixed.profile c.code ≡ true)
unfolding general
general_serves r buffer =
    ok_then _ _ (in_header (served_header r buffer)) _
    (header_serves r.fixed.profile (header_at buffer)) (λ header is.
    ok_in_command _ header.0.code (body_of r header.0 header.1)
    (body_serves r.fixed.profile r header.0 header.1 is))

pub accepted_serves : (r : Record) (buffer : List ℕ) (locality : ℕ) (random : List ℕ)
    → IfOk (acceptance_in r buffer locality random)
    (λ a. serves r.fixed.profile a.command.code ≡ true)
unfolding acceptance_in acceptance
accepted_serves r buffer locality random =
    ok_then _ _ (general r buffer) _ (general_serves r buffer) (λ c is.
    ok_in_command _ c.code (acceptance r c locality random) (
    ok_bind _ (authorize r c locality) _ (λ grants.
    ok_bind _ (row_of r c.code (request_in r c grants locality random)) _ (λ success. is))))

-- ---- no event changes the profile

profile_of : (old new : Record) → new ≡ old → KeepsProfile old new
profile_of old new is = ap (λ (x : Record). x.fixed.profile) is

touches_keeps : (part : Part) (old new : Record) → Touches part old new → KeepsProfile old new
touches_keeps AuthValues old new touched = ap (λ (x : Record). x.fixed.profile) touched.0
touches_keeps Beginning old new touched = ap (λ (x : Record). x.fixed.profile) touched.0
touches_keeps _ old new touched = ap (λ (x : Record). x.fixed.profile) touched

pub row_keeps : (r : Record) (c : CommandCode) (q : Request)
    → IfOk (row_of r c q) (λ s. KeepsProfile r s.after)
row_keeps r c q =
    of_success _ r c q (λ s laws. touches_keeps (part_of c) r s.after laws.touches)

accepted_keeps : (r : Record) (buffer : List ℕ) (locality : ℕ) (random : List ℕ)
    → IfOk (acceptance_in r buffer locality random) (λ a. KeepsProfile r a.success.after)
unfolding acceptance_in acceptance
accepted_keeps r buffer locality random =
    ok_bind _ (general r buffer) _ (λ c.
    ok_in_command _ c.code (acceptance r c locality random) (
    ok_bind _ (authorize r c locality) _ (λ grants.
    ok_then _ _ (row_of r c.code (request_in r c grants locality random)) _
    (row_keeps r c.code (request_in r c grants locality random)) (λ success keeps. keeps))))

success_keeps : (r : Record) (random : List ℕ) (a : Accepted) → KeepsProfile r a.success.after
    → KeepsProfile r (success_step a random).after
success_keeps r random a keeps =
    ap (λ (x : Record). x.fixed.profile) (success_leaves a random) ∙ keeps

answer_keeps : (refused : Bool) (r : Record) (random : List ℕ) (x : Result Accepted RefusedCommand)
    → IfOk x (λ a. KeepsProfile r a.success.after)
    → KeepsProfile r (answer_where refused r random x).after
answer_keeps false r random (Ok a) keeps = success_keeps r random a keeps
answer_keeps false r random (Err e) keeps = refl
answer_keeps true r random (Ok a) keeps = by (shape_of a.command.code).grows
  where
    by : (grows : Bool) → KeepsProfile r
        (cond grows (refusal_without_memory r a.command) (success_step a random)).after
    by true = refl
    by false = success_keeps r random a keeps
answer_keeps true r random (Err e) keeps = refl

pub step_keeps : (refused : Bool) (r : Record) (event : PlainEvent)
    → KeepsProfile r (step_where refused r event).after
step_keeps refused r (Given buffer locality elapsed random) =
    let t : Record = after_tick r elapsed in
    answer_keeps refused t random (acceptance_in t buffer locality random)
    (accepted_keeps t buffer locality random)
step_keeps refused r Cycled = refl
step_keeps refused r (Placed object) = refl

pub execution_keeps : (can : Bool) (old : Record) (event : PlainEvent) (x : Stepped)
    → Executes can old event x → KeepsProfile old x.after
execution_keeps can old event x executes =
    ap (λ (y : Stepped). y.after.fixed.profile) executes.steps.2
    ∙ step_keeps executes.steps.0 old event

pub leads_keeps : (can : Bool) (old : Record) (executions : List Execution) (new : Record)
    → Leads can old executions new → KeepsProfile old new
leads_keeps can old [] new leads = ap (λ (x : Record). x.fixed.profile) leads
leads_keeps can old (one ∷ executions) new leads =
    leads_keeps can one.seen.after executions new leads.2
    ∙ execution_keeps can old one.event one.seen leads.1

-- ---- a device of the symmetric profile decodes as if there were no other commands

-- If the first value that passes one test also passes another test, it is also the first such value
-- among those that pass the other test.
some_same : {X : Type 0} (y x : X) → (let one : Option X = Some y in one ≡ Some x) → y ≡ x
some_same y x is = cc

kept_before : {X : Type 0} (p test : X → Bool) (y : X) (ys : List X) (x : X) → p x ≡ true
    → (find test ys ≡ Some x → find test (filter p ys) ≡ Some x) → (t b : Bool) → test y ≡ t
    → p y ≡ b → cond t (Some y) (find test ys) ≡ Some x
    → find test (cond b (y ∷ filter p ys) (filter p ys)) ≡ Some x
kept_before p test y ys x passes others true true is keeps e =
    ap (λ (t : Bool). cond t (Some y) (find test (filter p ys))) is ∙ e
kept_before p test y ys x passes others true false is keeps e =
    absurd (false≢true (sym keeps ∙ ap p (some_same y x e) ∙ passes))
kept_before p test y ys x passes others false true is keeps e =
    ap (λ (t : Bool). cond t (Some y) (find test (filter p ys))) is ∙ others e
kept_before p test y ys x passes others false false is keeps e = others e

find_kept : {X : Type 0} (p test : X → Bool) (xs : List X) (x : X) → find test xs ≡ Some x
    → p x ≡ true → find test (filter p xs) ≡ Some x
find_kept p test [] x found passes = absurd cc
find_kept p test (y ∷ ys) x found passes =
    kept_before p test y ys x passes (λ e. find_kept p test ys x e passes) (test y) (p y) refl refl
    found

-- A value that is found among those that pass a test passes this test.
found_first : {X : Type 0} (p : X → Bool) (y : X) (others : Option X) → p y ≡ true
    → IfSome others (λ x. p x ≡ true) → (t : Bool)
    → IfSome (cond t (Some y) others) (λ x. p x ≡ true)
found_first p y others is rest true = is
found_first p y others is rest false = rest

found_before : {X : Type 0} (p test : X → Bool) (y : X) (ys : List X)
    → IfSome (find test (filter p ys)) (λ x. p x ≡ true) → (b : Bool) → p y ≡ b
    → IfSome (find test (cond b (y ∷ filter p ys) (filter p ys))) (λ x. p x ≡ true)
found_before p test y ys rest true is =
    found_first p y (find test (filter p ys)) is rest (test y)
found_before p test y ys rest false is = rest

found_kept : {X : Type 0} (p test : X → Bool) (xs : List X)
    → IfSome (find test (filter p xs)) (λ x. p x ≡ true)
found_kept p test [] = tt
found_kept p test (y ∷ ys) = found_before p test y ys (found_kept p test ys) (p y) refl

abbrev kept_if : {X : Type 0} → (X → Bool) → Option X → Option X
kept_if p (Some x) = cond (p x) (Some x) None
kept_if p None = None

symmetric_are : symmetric_codes ≡ filter (serves Symmetric) all_codes
unfolding shape_of
symmetric_are = refl

abbrev kept_named : ℕ → Option CommandCode
kept_named number = find (λ code. code_number code == number) (filter (serves Symmetric) all_codes)

if_some : {X : Type 0} (P : X → Type 0) (o : Option X) (x : X) → IfSome o P → o ≡ Some x → P x
if_some P (Some y) x holds is = subst P (some_same y x is) holds
if_some P None x holds is = absurd cc

kept_is : (number : ℕ) → kept_named number ≡ kept_if (serves Symmetric) (code_named number)
unfolding code_named
kept_is number = by (kept_named number) refl
  where
    numbered : CommandCode → Bool
    numbered code = code_number code == number

    none : (o : Option CommandCode) → code_named number ≡ o → kept_named number ≡ None
        → None ≡ kept_if (serves Symmetric) o
    none None is empty = refl
    none (Some c) is empty = at (serves Symmetric c) refl
      where
        at : (b : Bool) → serves Symmetric c ≡ b → None ≡ cond b (Some c) None
        at true passes =
            absurd (differ (sym empty ∙ find_kept (serves Symmetric) numbered all_codes c is passes))
          where
            differ : (let one : Option CommandCode = None in one ≡ Some c) → ⊥
            differ is = cc
        at false passes = refl

    by : (o : Option CommandCode) → kept_named number ≡ o
        → o ≡ kept_if (serves Symmetric) (code_named number)
    by (Some d) is =
        let is_number : code_number d ≡ number =
        eqb-true _ _ (if_some (λ code. numbered code ≡ true) (kept_named number) d
        (found_passes numbered (filter (serves Symmetric) all_codes)) is) in
        let named : code_named number ≡ Some d =
        subst (λ (n : ℕ). code_named n ≡ Some d) is_number (code_named-again d) in
        let passes : serves Symmetric d ≡ true =
        if_some (λ code. serves Symmetric code ≡ true) (kept_named number) d
        (found_kept (serves Symmetric) numbered all_codes) is in
        sym (ap (kept_if (serves Symmetric)) named
        ∙ ap (λ (b : Bool). cond b (Some d) None) passes)
    by None is = none (code_named number) refl is

symmetric_is : (number : ℕ) → symmetric_named number ≡ kept_if (serves Symmetric) (code_named number)
symmetric_is number =
    ap (λ (codes : List CommandCode). find (λ code. code_number code == number) codes) symmetric_are
    ∙ kept_is number

steps_same : (outside other_size : Bool) (named : Option Tag) (found : Option CommandCode)
    (rest : List ℕ) → (refused_if outside fault.Length
    >>= λ length_fits. ok_or named fault.Tag
    >>= λ tag. refused_if other_size fault.Size
    >>= λ size_is_length. ok_or (kept_if (serves Symmetric) found) fault.Code
    >>= λ code. let h : Result (Header × List ℕ) HeaderFault =
    Ok (record { tag = tag; code = code }, rest) in h)
    ≡ if_served Symmetric (refused_if outside fault.Length
    >>= λ length_fits. ok_or named fault.Tag
    >>= λ tag. refused_if other_size fault.Size
    >>= λ size_is_length. ok_or found fault.Code
    >>= λ code. Ok (record { tag = tag; code = code }, rest))
steps_same true other_size named found rest = refl
steps_same false other_size None found rest = refl
steps_same false true (Some tag) found rest = refl
steps_same false false (Some tag) None rest = refl
steps_same false false (Some tag) (Some c) rest = by (serves Symmetric c)
  where
    by : (b : Bool) → (ok_or (cond b (Some c) None) fault.Code
        >>= λ code. let h : Result (Header × List ℕ) HeaderFault =
        Ok (record { tag = tag; code = code }, rest) in h)
        ≡ cond b (Ok (record { tag = tag; code = c }, rest)) (Err fault.Code)
    by true = refl
    by false = refl

symmetric_header : (buffer : List ℕ) → symmetric_header_at buffer ≡ if_served Symmetric (header_at buffer)
unfolding symmetric_header_at header_at
symmetric_header buffer = rw (symmetric_is (code_field buffer)) (steps_same _ _ _ _ _)

pub symmetric_same : (r : Record) (buffer : List ℕ) → r.fixed.profile ≡ Symmetric
    → general r buffer ≡ symmetric_general r buffer
unfolding general symmetric_general
symmetric_same r buffer is =
    ap (λ (x : Result (Header × List ℕ) HeaderFault).
    in_header x >>= λ header. in_command header.0.code (body_of r header.0 header.1))
    (ap (λ (p : Profile). if_served p (header_at buffer)) is ∙ sym (symmetric_header buffer))
