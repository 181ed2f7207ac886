-- An event reveals nothing about secrets if it reads no secret data and all guesses in it fail.
use Rattle.std.proofs.Common.{ap, inl, inr, refl, subst, sym, ◌∙◌}
use Rattle.std.specs.Prelude.{Bool, Err, IfOk, List, None, Ok, Option, Result, Some, [], cond, false, not, true, ℕ, ◌+◌, ◌∷◌, ◌≡◌, ◌⊎◌}
use Rattle.tpm_auth.specs.Grant.{authorize}
use Rattle.tpm_auth.specs.declared.session_grant.Grant.{Grant}
use Rattle.tpm_bytes.specs.Many.{each_at}
use Rattle.tpm_bytes.specs.Reading.{refused_if, ◌>>=◌}
use Rattle.tpm_commands.specs.CommandCode.{code_number, shape_of}
use Rattle.tpm_commands.specs.HandleArea.{allowed_handle_at}
use Rattle.tpm_commands.specs.declared.command_code.CommandCode.{CommandCode}
use Rattle.tpm_commands.specs.declared.shape.HandleRule.{HandleRule}
use Rattle.tpm_containers.specs.Slots.{free, lowest_free}
use Rattle.tpm_object.specs.declared.object.Object.{Object}
use Rattle.tpm_record.specs.Cycle.{after_cycle}
use Rattle.tpm_record.specs.Entity.{absence_rc}
use Rattle.tpm_record.specs.Record.{Record, with_saved}
use Rattle.tpm_record.specs.Saved.{Nothing}
use Rattle.tpm_record.specs.Tick.{after_tick}
use Rattle.tpm_record.specs.rows.Refusals.{memory_refusal}
use Rattle.tpm_record.specs.rows.Request.{Request}
use Rattle.tpm_record.specs.rows.Rows.{Success}
use Rattle.tpm_step.proofs.rows.Binding.{ok_bind}
use Rattle.tpm_step.proofs.rows.Acceptance.{accepted_is}
use Rattle.tpm_step.proofs.rows.Table.{row_tells}
use Rattle.tpm_step.specs.step.Answer.{Answered, answer_to, written_of}
use Rattle.tpm_step.specs.step.Events.{Cycled, Given, Placed, PlainEvent}
use Rattle.tpm_step.specs.step.General.{body_of, general, in_command, in_header, present_handle_at, served_header}
use Rattle.tpm_step.specs.step.Granted.{granted_entries}
use Rattle.tpm_step.specs.step.Placing.{placed_at, record_with_object}
use Rattle.tpm_step.specs.step.Step.{Accepted, Stepped, acceptance, acceptance_in, answer_where, counted_in, refusal_step, refusal_without_memory, request_in, settled_record, step_where, success_step, success_without_memory}
use Rattle.tpm_step.specs.step.Table.{row_of}
use Rattle.tpm_step.specs.declared.event.Row.{Row}
use Rattle.tpm_step.specs.declared.refused_command.RefusedCommand.{RefusedCommand}
use Rattle.tpm_step.specs.rows.Acceptance.{IsAcceptance}
use Rattle.tpm_types_common.specs.declared.refused.Refused.{Refused}
use Rattle.tpm_types_command.specs.Command.{Whole}
use Rattle.tpm_types_command.specs.declared.header.Header.{Header}
use Rattle.tpm_row_secrecy.proofs.Alike.{alike_after, alike_end, alike_err, alike_step_is}
use Rattle.tpm_row_secrecy.proofs.Bare.{cycled_bare, object_again, objects_again, record_again, with_objects}
use Rattle.tpm_row_secrecy.proofs.Each.{lowest_free_each, places, set_same}
use Rattle.tpm_row_secrecy.proofs.Entities.{present_bare}
use Rattle.tpm_row_secrecy.proofs.ReadAlike.{reads_same}
use Rattle.tpm_row_secrecy.proofs.Steps.{change_same}
use Rattle.tpm_row_secrecy.specs.Alike.{Alike, Same, bare_success, outcome}
use Rattle.tpm_row_secrecy.specs.Reads.{reads_secret}
use Rattle.tpm_row_secrecy.specs.Secrecy.{CoversKeys, DifferInSecrets, Secrecy, bare_object, without_secrets}
use Rattle.tpm_secrecy.proofs.Answering.{answer_same, request_same}
use Rattle.tpm_secrecy.proofs.AnsweringFree.{answer_free, answering}
use Rattle.tpm_secrecy.proofs.Authorizing.{then_same}
use Rattle.tpm_secrecy.proofs.Granted.{granted_free}
use Rattle.tpm_secrecy.proofs.Guessing.{doubted_authorization, doubted_is}
use Rattle.tpm_secrecy.specs.Guesses.{BindingsHold, GuessesFail, NoneUses}
use Rattle.tpm_secrecy.specs.Tells.{Attempts, EventKeepsSecrets, EventsAlike, KeepsSecrets, RunOfWrongGuessesTellsNothing, RunsAlike, TellsNothing, WrongGuessesTellNothing, answers_to, granted_reads}

each_read_same : {X A E : Type 0} (f g : ℕ → X → List ℕ → Result (A × List ℕ) E)
    → ((n : ℕ) (x : X) (text : List ℕ) → f n x text ≡ g n x text)
    → (n : ℕ) (xs : List X) (text : List ℕ) → each_at f n xs text ≡ each_at g n xs text
each_read_same f g same n [] text = refl
each_read_same {A = A} {E = E} f g same n (x ∷ xs) text =
    then_same (f n x text) (g n x text) _ _ (same n x text) (λ first.
    then_same (each_at f (n + 1) xs first.1) (each_at g (n + 1) xs first.1)
    (λ others. let y : Result (List A × List ℕ) E = Ok (first.0 ∷ others.0, others.1) in y)
    (λ others. Ok (first.0 ∷ others.0, others.1)) (each_read_same f g same (n + 1) xs first.1)
    (λ others. refl))

module _ (s : Secrecy) where
  -- ---- the general checks

  handle_same : (r : Record) (n : ℕ) (rule : HandleRule) (text : List ℕ)
      → present_handle_at (without_secrets s r) n rule text ≡ present_handle_at r n rule text
  unfolding present_handle_at
  handle_same r n rule text =
      then_same (allowed_handle_at n rule text) (allowed_handle_at n rule text) _ _ refl (λ handle.
      ap (λ (b : Bool). refused_if (not b) (absence_rc n handle.0) >>= λ present. Ok handle)
      (present_bare s r handle.0))

  body_same : (r : Record) (header : Header) (text : List ℕ)
      → body_of (without_secrets s r) header text ≡ body_of r header text
  unfolding body_of
  body_same r header text =
      rw (each_read_same (present_handle_at (without_secrets s r)) (present_handle_at r)
      (handle_same r) 1 (shape_of header.code).handles text) refl

  general_bare : (r : Record) (buffer : List ℕ)
      → general (without_secrets s r) buffer ≡ general r buffer
  unfolding general
  general_bare r buffer =
      then_same (in_header (served_header (without_secrets s r) buffer))
      (in_header (served_header r buffer)) _ _ refl (λ header.
      ap (in_command header.0.code) (body_same r header.0 header.1))

  pub general_same : (r t : Record) → DifferInSecrets s r t → (buffer : List ℕ)
      → general r buffer ≡ general t buffer
  general_same r t differ buffer = sym (general_bare r buffer)
      ∙ ap (λ (x : Record). general x buffer) differ ∙ general_bare t buffer

-- ---- accepted commands

abbrev bare_accepted : Secrecy → Accepted → Accepted
bare_accepted s a = record a { success = bare_success s a.success }

abbrev pub AcceptAlike : {E : Type 0} → Secrecy → Result Accepted E → Result Accepted E → Type 0
AcceptAlike s x y = Alike (bare_accepted s) x y

in_command_alike : (s : Secrecy) (code : CommandCode) (x y : Result Accepted Refused)
    → AcceptAlike s x y → AcceptAlike s (in_command code x) (in_command code y)
in_command_alike s code x y alike =
    record { is = through x ∙ ap (in_command code) alike.is ∙ sym (through y) }
  where
    through : (z : Result Accepted Refused) → outcome (bare_accepted s) (in_command code z)
        ≡ in_command code (outcome (bare_accepted s) z)
    through (Ok a) = refl
    through (Err e) = refl

module _ (s : Secrecy) (covers : CoversKeys s) where
  module _ (r t : Record) (differ : DifferInSecrets s r t) where
    pub authorized_same : (c : Whole) (locality : ℕ) → GuessesFail s r c locality → BindingsHold s r
        → GuessesFail s t c locality → BindingsHold s t
        → authorize r c locality ≡ authorize t c locality
    authorized_same c locality one bound other also =
        sym (doubted_is s covers r c locality bound one)
        ∙ ap (doubted_authorization s c locality) differ
        ∙ doubted_is s covers t c locality also other

    pub requests_same : (c : Whole) (grants : List (Option Grant)) (locality : ℕ) (random : List ℕ)
        → NoneUses s r (granted_entries c grants) → NoneUses s t (granted_entries c grants)
        → request_in r c grants locality random ≡ request_in t c grants locality random
    requests_same c grants locality random one other =
        sym (request_same s covers r c grants locality random one)
        ∙ ap (λ (x : Record). request_in x c grants locality random) differ
        ∙ request_same s covers t c grants locality random other

    pub reads_both : (c : CommandCode) (q : Request) → reads_secret s r c q ≡ reads_secret s t c q
    reads_both c q = sym (reads_same s r q c) ∙ ap (λ (x : Record). reads_secret s x c q) differ
        ∙ reads_same s t q c

    rows_alike : (c : CommandCode) (q : Request) → reads_secret s r c q ≡ false
        → Same s (row_of r c q) (row_of t c q)
    rows_alike c q free = record {
      is = sym (row_tells s covers r c q free).is
          ∙ ap (λ (x : Record). outcome (bare_success s) (row_of x c q)) differ
          ∙ (row_tells s covers t c q (sym (reads_both c q) ∙ free)).is;
    }

    abbrev accepted_by : Whole → List (Option Grant) → Request → Result Success Refused
        → Result Accepted Refused
    accepted_by c grants q row =
        row
        >>= λ success. Ok (record { command = c; grants = grants; request = q; success = success })

    row_accepted : (c : Whole) (grants : List (Option Grant)) (q : Request)
        → reads_secret s r c.code q ≡ false
        → AcceptAlike s (accepted_by c grants q (row_of r c.code q))
        (accepted_by c grants q (row_of t c.code q))
    row_accepted c grants q free =
        alike_after (bare_success s) (bare_accepted s) _ _ _ _ (rows_alike c.code q free)
        (λ a b same.
        alike_end (bare_accepted s) _ _
        (ap (λ (x : Success). let y : Accepted =
        record { command = c; grants = grants; request = q; success = x } in y) same))

    abbrev accepted_with : Record → Whole → (locality : ℕ) → (random : List ℕ) → List (Option Grant)
        → Result Accepted Refused
    accepted_with x c locality random grants =
        accepted_by c grants (request_in x c grants locality random)
        (row_of x c.code (request_in x c grants locality random))

    acceptance_alike : (c : Whole) (locality : ℕ) (random : List ℕ)
        → KeepsSecrets s r c locality random → KeepsSecrets s t c locality random
        → AcceptAlike s (acceptance r c locality random) (acceptance t c locality random)
    unfolding acceptance
    acceptance_alike c locality random one other =
        subst (λ (x : Result (List (Option Grant)) Refused). AcceptAlike s
        (authorize r c locality >>= accepted_with r c locality random)
        (x >>= accepted_with t c locality random)) same
        (alike_step_is (bare_accepted s) (authorize r c locality) _ _ (λ grants is.
        let free = granted_free s r c locality grants one.guesses is in
        let also = granted_free s t c locality grants other.guesses (sym same ∙ is) in
        subst (λ (q : Request). AcceptAlike s (accepted_with r c locality random grants)
        (accepted_by c grants q (row_of t c.code q)))
        (requests_same c grants locality random free also)
        (row_accepted c grants (request_in r c grants locality random)
        (sym (ap (granted_reads s r c locality random) is) ∙ one.reads))))
      where
        same : authorize r c locality ≡ authorize t c locality
        same = authorized_same c locality one.guesses one.bindings other.guesses other.bindings

    abbrev KeepIfOk : Record → (locality : ℕ) → (random : List ℕ) → Result Whole RefusedCommand
        → Type 0
    KeepIfOk x locality random decoded = IfOk decoded (λ c. KeepsSecrets s x c locality random)

    decoded_alike : (locality : ℕ) (random : List ℕ) (x : Result Whole RefusedCommand)
        → KeepIfOk r locality random x → KeepIfOk t locality random x
        → AcceptAlike s (x >>= λ c. in_command c.code (acceptance r c locality random))
        (x >>= λ c. in_command c.code (acceptance t c locality random))
    decoded_alike locality random (Ok c) one other =
        in_command_alike s c.code _ _ (acceptance_alike c locality random one other)
    decoded_alike locality random (Err e) one other = alike_err (bare_accepted s) e

    accepted_alike : (buffer : List ℕ) (locality : ℕ) (random : List ℕ)
        → KeepIfOk r locality random (general r buffer)
        → KeepIfOk t locality random (general t buffer)
        → AcceptAlike s (acceptance_in r buffer locality random)
        (acceptance_in t buffer locality random)
    unfolding acceptance_in
    accepted_alike buffer locality random one other =
        let same : general r buffer ≡ general t buffer = general_same s r t differ buffer in
        subst (λ (x : Result Whole RefusedCommand). AcceptAlike s
        (general r buffer >>= λ c. in_command c.code (acceptance r c locality random))
        (x >>= λ c. in_command c.code (acceptance t c locality random))) same
        (decoded_alike locality random (general r buffer) one
        (subst (KeepIfOk t locality random) (sym same) other))

  -- ---- the response

  -- When the answer to an accepted command is computed, no entry uses a secret.
  abbrev Quiet : List ℕ → Accepted → Type 0
  Quiet random a = NoneUses s (answering a random) (granted_entries a.command a.grants)

  quiet_if : (r : Record) (locality : ℕ) (random : List ℕ) (a : Accepted)
      → IsAcceptance r locality random a → KeepsSecrets s r a.command locality random
      → Quiet random a
  quiet_if r locality random a accepts keeps =
      answer_free s r locality random a accepts
      (granted_free s r a.command locality a.grants keeps.guesses accepts.granted)

  of_command : (r : Record) (c : Whole) (locality : ℕ) (random : List ℕ)
      → IfOk (acceptance r c locality random) (λ a. a.command ≡ c)
  unfolding acceptance
  of_command r c locality random =
      ok_bind _ (authorize r c locality) _ (λ grants.
      ok_bind _ (row_of r c.code (request_in r c grants locality random)) _ (λ success. refl))

  -- The accepted command satisfies `KeepsSecrets`, so it reveals no secrets.
  abbrev KeepsIts : Record → (locality : ℕ) → (random : List ℕ) → Accepted → Type 0
  KeepsIts r locality random a = KeepsSecrets s r a.command locality random

  command_keeps : (r : Record) (c : Whole) (locality : ℕ) (random : List ℕ)
      → KeepsSecrets s r c locality random → (x : Result Accepted Refused)
      → IfOk x (λ a. a.command ≡ c) → IfOk (in_command c.code x) (KeepsIts r locality random)
  command_keeps r c locality random keeps (Ok a) is =
      subst (λ (d : Whole). KeepsSecrets s r d locality random) (sym is) keeps
  command_keeps r c locality random keeps (Err e) is = tt

  decoded_keeps : (r : Record) (locality : ℕ) (random : List ℕ) (x : Result Whole RefusedCommand)
      → IfOk x (λ c. KeepsSecrets s r c locality random)
      → IfOk (x >>= λ c. in_command c.code (acceptance r c locality random))
      (KeepsIts r locality random)
  decoded_keeps r locality random (Ok c) keeps =
      command_keeps r c locality random keeps (acceptance r c locality random)
      (of_command r c locality random)
  decoded_keeps r locality random (Err e) keeps = tt

  accepted_keeps : (r : Record) (buffer : List ℕ) (locality : ℕ) (random : List ℕ)
      → IfOk (general r buffer) (λ c. KeepsSecrets s r c locality random)
      → IfOk (acceptance_in r buffer locality random) (KeepsIts r locality random)
  unfolding acceptance_in
  accepted_keeps r buffer locality random keeps =
      decoded_keeps r locality random (general r buffer) keeps

  quiet_accepted : (r : Record) (buffer : List ℕ) (locality : ℕ) (random : List ℕ)
      → IfOk (general r buffer) (λ c. KeepsSecrets s r c locality random)
      → IfOk (acceptance_in r buffer locality random) (Quiet random)
  quiet_accepted r buffer locality random keeps =
      by (acceptance_in r buffer locality random) (accepted_is r buffer locality random)
      (accepted_keeps r buffer locality random keeps)
    where
      by : (x : Result Accepted RefusedCommand) → IfOk x (IsAcceptance r locality random)
          → IfOk x (KeepsIts r locality random) → IfOk x (Quiet random)
      by (Ok a) accepts keeps = quiet_if r locality random a accepts keeps
      by (Err e) accepts keeps = tt

  abbrev bare_step : Stepped → Stepped
  bare_step x = record x { after = without_secrets s x.after }

  settled_same : (code : CommandCode) (r : Record)
      → without_secrets s (settled_record code (without_secrets s r))
      ≡ without_secrets s (settled_record code r)
  settled_same code r = by (shape_of code).keeps_shutdown
    where
      by : (b : Bool)
          → without_secrets s
          (cond b (without_secrets s r) (with_saved (without_secrets s r) Nothing))
          ≡ without_secrets s (cond b r (with_saved r Nothing))
      by true = record_again s r
      by false = change_same s (λ t. with_saved t Nothing) (λ t. refl) r

  abbrev stepped_by : CommandCode → Answered → Stepped
  stepped_by code x = record {
    response = x.response;
    row = record { code = code_number code; check = 0 };
    after = settled_record code x.after;
  }

  success_same : (a : Accepted) (random : List ℕ) → Quiet random a
      → bare_step (success_step (bare_accepted s a) random) ≡ bare_step (success_step a random)
  success_same a random quiet =
      let x : Answered = answer_to a.command a.grants (written_of a.success.answer) a.success.after
      random in
      ap (λ (y : Answered). bare_step (stepped_by a.command.code y))
      (answer_same s covers a.command a.grants (written_of a.success.answer) a.success.after
      random quiet)
      ∙ ap (λ (after : Record). record (bare_step (stepped_by a.command.code x)) { after = after })
      (settled_same a.command.code x.after)

  refusal_same : (r : Record) (e : RefusedCommand)
      → bare_step (refusal_step (without_secrets s r) e) ≡ bare_step (refusal_step r e)
  refusal_same r e =
      ap (λ (after : Record). record (bare_step (refusal_step r e)) { after = after })
      (change_same s (λ t. counted_in e.refused.counted t) (λ t. refl) r)

  no_memory_same : (r : Record) (random : List ℕ) (a : Accepted) → Quiet random a
      → bare_step (success_without_memory (without_secrets s r) random (bare_accepted s a))
      ≡ bare_step (success_without_memory r random a)
  no_memory_same r random a quiet = by (shape_of a.command.code).grows
    where
      by : (b : Bool)
          → bare_step (cond b (refusal_without_memory (without_secrets s r) a.command)
          (success_step (bare_accepted s a) random))
          ≡ bare_step (cond b (refusal_without_memory r a.command) (success_step a random))
      by true =
          refusal_same r (record { code = code_number a.command.code; refused = memory_refusal })
      by false = success_same a random quiet

  answered_bare : (refused : Bool) (r : Record) (random : List ℕ)
      (x : Result Accepted RefusedCommand) → IfOk x (Quiet random)
      → bare_step (answer_where refused (without_secrets s r) random (outcome (bare_accepted s) x))
      ≡ bare_step (answer_where refused r random x)
  answered_bare false r random (Ok a) quiet = success_same a random quiet
  answered_bare false r random (Err e) quiet = refusal_same r e
  answered_bare true r random (Ok a) quiet = no_memory_same r random a quiet
  answered_bare true r random (Err e) quiet = refusal_same r e

  answered_same : (refused : Bool) (r t : Record) (random : List ℕ)
      (x y : Result Accepted RefusedCommand) → DifferInSecrets s r t → AcceptAlike s x y
      → IfOk x (Quiet random) → IfOk y (Quiet random)
      → bare_step (answer_where refused r random x) ≡ bare_step (answer_where refused t random y)
  answered_same refused r t random x y differ alike one other =
      sym (answered_bare refused r random x one)
      ∙ ap (λ (z : Record). bare_step (answer_where refused z random (outcome (bare_accepted s) x)))
      differ
      ∙ ap (λ (z : Result Accepted RefusedCommand). bare_step
      (answer_where refused (without_secrets s t) random z)) alike.is
      ∙ answered_bare refused t random y other

  -- ---- the steps of events

  placed_bare : (a b : Object) → bare_object s a ≡ bare_object s b → (r : Record)
      → without_secrets s (record_with_object (without_secrets s r) a)
      ≡ without_secrets s (record_with_object r b)
  placed_bare a b same r =
      with_objects s r _ _
      (ap (λ (found : Option ℕ). places (bare_object s)
      (placed_at found a (places (bare_object s) r.objects)))
      (lowest_free_each (bare_object s) r.objects) ∙ by (lowest_free r.objects))
    where
      by : (found : Option ℕ)
          → places (bare_object s) (placed_at found a (places (bare_object s) r.objects))
          ≡ places (bare_object s) (placed_at found b r.objects)
      by None = objects_again s r.objects
      by (Some place) = set_same (bare_object s) (object_again s) r.objects place (Some a) (Some b)
          (ap (λ (o : Object). let found : Option Object = Some o in found) same)

  placed_same : (one other : Record) (a b : Object) → DifferInSecrets s one other
      → bare_object s a ≡ bare_object s b → without_secrets s (record_with_object one a)
      ≡ without_secrets s (record_with_object other b)
  placed_same one other a b differ same =
      sym (placed_bare a a refl one)
      ∙ ap (λ (x : Record). without_secrets s (record_with_object x a)) differ
      ∙ placed_bare a b same other

  -- if an event reveals no secrets on either of two devices, it has the same outcome on both, apart
  -- from the secrets themselves
  event_same : (refused : Bool) (one other : Record) (event : PlainEvent)
      → DifferInSecrets s one other → EventKeepsSecrets s one event
      → EventKeepsSecrets s other event → bare_step (step_where refused one event)
      ≡ bare_step (step_where refused other event)
  event_same refused one other (Given buffer locality elapsed random) differ keeps also =
      let differs : DifferInSecrets s (after_tick one elapsed) (after_tick other elapsed) =
      ap (λ (x : Record). after_tick x elapsed) differ in
      answered_same refused (after_tick one elapsed) (after_tick other elapsed) random
      (acceptance_in (after_tick one elapsed) buffer locality random)
      (acceptance_in (after_tick other elapsed) buffer locality random) differs
      (accepted_alike (after_tick one elapsed) (after_tick other elapsed) differs buffer locality
      random keeps also)
      (quiet_accepted (after_tick one elapsed) buffer locality random keeps)
      (quiet_accepted (after_tick other elapsed) buffer locality random also)
  event_same refused one other Cycled differ keeps also =
      ap (λ (after : Record). record (bare_step (step_where refused other Cycled)) {
        after =
            after;
      })
      (sym (cycled_bare s one) ∙ ap after_cycle differ ∙ cycled_bare s other)
  event_same refused one other (Placed object) differ keeps also =
      ap (λ (after : Record). record (bare_step (step_where refused other Cycled)) {
        after =
            after;
      }) (placed_same one other object object differ refl)

  -- Two events that differ only in secrets are equal, or place two objects that differ only in
  -- secrets.
  pub same_event : (event also : PlainEvent) → EventsAlike s event also
      → (event ≡ also) ⊎ (a : Object) × (b : Object) × (event ≡ Placed a) × (also ≡ Placed b)
      × (bare_object s a ≡ bare_object s b)
  same_event (Given buffer locality elapsed random) (Given others from later bytes) alike =
      inl alike
  same_event (Given buffer locality elapsed random) Cycled alike = absurd cc
  same_event (Given buffer locality elapsed random) (Placed b) alike = absurd cc
  same_event Cycled (Given buffer locality elapsed random) alike = absurd cc
  same_event Cycled Cycled alike = inl refl
  same_event Cycled (Placed b) alike = absurd cc
  same_event (Placed a) (Given buffer locality elapsed random) alike = absurd cc
  same_event (Placed a) Cycled alike = absurd cc
  same_event (Placed a) (Placed b) alike = inr (a, b, refl, refl, cc)

  step_same : (refused : Bool) (one other : Record) (event also : PlainEvent)
      → EventsAlike s event also → DifferInSecrets s one other → EventKeepsSecrets s one event
      → EventKeepsSecrets s other also → bare_step (step_where refused one event)
      ≡ bare_step (step_where refused other also)
  step_same refused one other event also alike differ keeps keeps_also =
      by (same_event event also alike)
    where
      by : (event ≡ also) ⊎ (a : Object) × (b : Object) × (event ≡ Placed a) × (also ≡ Placed b)
          × (bare_object s a ≡ bare_object s b)
          → bare_step (step_where refused one event) ≡ bare_step (step_where refused other also)
      by (inl same) =
          event_same refused one other event differ keeps
          (subst (EventKeepsSecrets s other) (sym same) keeps_also)
          ∙ ap (λ (e : PlainEvent). bare_step (step_where refused other e)) same
      by (inr (a, b, is, also_is, same)) =
          ap (λ (e : PlainEvent). bare_step (step_where refused one e)) is
          ∙ ap (λ (after : Record). record (bare_step (step_where refused other Cycled)) {
            after =
                after;
          }) (placed_same one other a b differ same)
          ∙ ap (λ (e : PlainEvent). bare_step (step_where refused other e)) (sym also_is)

  pub told_nothing : (refused : Bool) (one other : Record) (event also : PlainEvent)
      → DifferInSecrets s one other → EventsAlike s event also → EventKeepsSecrets s one event
      → EventKeepsSecrets s other also
      → TellsNothing s (step_where refused one event) (step_where refused other also)
  told_nothing refused one other event also differ alike keeps keeps_also =
      let same : bare_step (step_where refused one event)
      ≡ bare_step (step_where refused other also) =
      step_same refused one other event also alike differ keeps keeps_also in
      record {
        response = ap (λ (x : Stepped). x.response) same;
        row = ap (λ (x : Stepped). x.row) same;
        after = ap (λ (x : Stepped). x.after) same;
      }

pub wrong_guesses_tell_nothing : WrongGuessesTellNothing
wrong_guesses_tell_nothing s covers one other refused event also differ alike keeps keeps_also =
    told_nothing s covers refused one other event also differ alike keeps keeps_also

-- If the first event reveals nothing, and the later events reveal nothing, all events together
-- reveal nothing.
pub runs_on : (s : Secrecy) (one other : Record) (e f : Bool × PlainEvent) (es fs : Attempts)
    → TellsNothing s (step_where e.0 one e.1) (step_where f.0 other f.1)
    → RunsAlike s (step_where e.0 one e.1).after (step_where f.0 other f.1).after es fs
    → RunsAlike s one other (e ∷ es) (f ∷ fs)
runs_on s one other e f es fs this rest =
    let x : Stepped = step_where e.0 one e.1 in
    let y : Stepped = step_where f.0 other f.1 in
    record {
      answers =
          ap (λ (text : List ℕ). let z : List (List ℕ × Row) =
          (text, x.row) ∷ answers_to x.after es in z) this.response
          ∙ ap (λ (row : Row). let z : List (List ℕ × Row) =
          (y.response, row) ∷ answers_to x.after es in z) this.row
          ∙ ap (λ (rows : List (List ℕ × Row)). let z : List (List ℕ × Row) =
          (y.response, y.row) ∷ rows in z) rest.answers;
      after = rest.after;
    }

pub run_of_wrong_guesses_tells_nothing : RunOfWrongGuessesTellsNothing
run_of_wrong_guesses_tells_nothing s covers one other [] [] differ alike keeps also =
    record { answers = refl; after = differ }
run_of_wrong_guesses_tells_nothing s covers one other [] (f ∷ fs) differ alike keeps also =
    absurd alike
run_of_wrong_guesses_tells_nothing s covers one other (e ∷ es) [] differ alike keeps also =
    absurd alike
run_of_wrong_guesses_tells_nothing s covers one other (e ∷ es) (f ∷ fs) differ (flag, alike, others)
    keeps also =
    let this : TellsNothing s (step_where e.0 one e.1) (step_where f.0 other f.1) =
    subst (λ (b : Bool). TellsNothing s (step_where e.0 one e.1) (step_where b other f.1)) flag
    (told_nothing s covers e.0 one other e.1 f.1 differ alike keeps.0 also.0) in
    runs_on s one other e f es fs this
    (run_of_wrong_guesses_tells_nothing s covers (step_where e.0 one e.1).after
    (step_where f.0 other f.1).after es fs this.after others keeps.1 also.1)
