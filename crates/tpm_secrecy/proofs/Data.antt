-- If only data is secret, no entry uses a secret, and no entry is a guess.
use Rattle.std.proofs.Common.{ap, inl, inr, refl, subst, sym, ◌∙◌}
use Rattle.std.proofs.lemmas.Bool.{false≢true}
use Rattle.std.specs.Option.{option_map_or}
use Rattle.std.specs.Prelude.{Bool, Err, IfOk, IfSome, List, None, Ok, Option, Result, Some, [], false, option_map, slice_get, true, ℕ, ◌&&◌, ◌+◌, ◌||◌, ◌∷◌, ◌≡◌}
use Rattle.tpm_auth.specs.Entries.{session_of}
use Rattle.tpm_auth.specs.Grant.{authorize, authorized, undemanding}
use Rattle.tpm_auth.specs.SessionGrant.{demand_of_session}
use Rattle.tpm_auth.specs.declared.session_grant.Grant.{Grant}
use Rattle.tpm_containers.specs.Slots.{free}
use Rattle.tpm_policy.specs.declared.state.Demand.{Demand}
use Rattle.tpm_record.specs.Entity.{AnIndex, AnObject, Entity, Permanent, entity_at, name_of, protection_of}
use Rattle.tpm_record.specs.Record.{Record}
use Rattle.tpm_record.specs.Tick.{after_tick}
use Rattle.tpm_session.specs.Sessions.{session_at}
use Rattle.tpm_session.specs.declared.session.Binding.{Binding}
use Rattle.tpm_session.specs.declared.session.Session.{Session}
use Rattle.tpm_step.specs.step.Events.{Cycled, Given, Placed, PlainEvent}
use Rattle.tpm_step.specs.step.General.{general}
use Rattle.tpm_step.specs.step.Granted.{Granted, granted_entries}
use Rattle.tpm_step.specs.step.Step.{request_in, step_where}
use Rattle.tpm_step.specs.declared.refused_command.RefusedCommand.{RefusedCommand}
use Rattle.tpm_types_common.proofs.Named.{none}
use Rattle.tpm_types_common.specs.Handle.{hierarchy_auth_of, session_kind}
use Rattle.tpm_types_common.specs.declared.handle.Handle.{Handle}
use Rattle.tpm_types_common.specs.declared.handle.HierarchyAuth.{HierarchyAuth}
use Rattle.tpm_types_common.specs.declared.handle.SessionKind.{SessionKind}
use Rattle.tpm_types_common.specs.declared.refused.Refused.{Refused}
use Rattle.tpm_types_command.specs.AuthEntry.{Entry}
use Rattle.tpm_types_command.specs.Command.{Whole}
use Rattle.tpm_types_object.specs.declared.public.Public.{Public}
use Rattle.tpm_row_secrecy.specs.Reads.{reads_secret}
use Rattle.tpm_row_secrecy.specs.Secrecy.{CoversKeys, DifferInSecrets, Secrecy, entity_has_secret_value, has_secret_key, of_data}
use Rattle.tpm_secrecy.proofs.Stepping.{authorized_same, general_same, reads_both, requests_same, runs_on, same_event, told_nothing}
use Rattle.tpm_secrecy.specs.Guesses.{BindingHolds, BindingsHold, GuessesFail, NoneUses, authorizes_secret, demand_uses, demands_value, guesses_by, is_hmac_session, session_guesses, session_uses, uses_by, uses_encryption}
use Rattle.tpm_secrecy.specs.Tells.{EventKeepsSecrets, EventTellsNothing, EventsAlike, KeepsSecrets, ReadOnBoth, RunTellsNothing, TellsNothing, command_reads, decoded_reads, granted_reads, is_reading}
use Rattle.tpm_types_common.specs.declared.handle.SessionKind.TheVariants as kind

module _ (indices : ℕ → Bool) (objects : Public → Bool) where
  abbrev data_alone : Secrecy
  data_alone = of_data indices objects

  no_hierarchy : (a : Option HierarchyAuth) → option_map_or (λ (h : HierarchyAuth). false) a false
      ≡ false
  no_hierarchy None = refl
  no_hierarchy (Some a) = refl

  pub covers : CoversKeys data_alone
  covers = record {
    indices = λ public is. absurd (false≢true is);
    objects = λ public is. absurd (false≢true is);
    hierarchies =
        λ handle is. absurd (false≢true (sym (no_hierarchy (hierarchy_auth_of handle)) ∙ is));
  }

  no_value : (handle : Handle) (x : Entity) → entity_has_secret_value data_alone handle x ≡ false
  no_value handle (AnObject o) = refl
  no_value handle (AnIndex i) = refl
  no_value handle Permanent = no_hierarchy (hierarchy_auth_of handle)

  no_grant : (r : Record) (g : Option Grant) → authorizes_secret data_alone r g ≡ false
  no_grant r None = refl
  no_grant r (Some g) = no_value g.handle (entity_at r g.handle)

  no_key : (b : Option Binding) → has_secret_key data_alone b ≡ false
  no_key None = refl
  no_key (Some b) = refl

  none_of : (a b c : Bool) → a ≡ false → b ≡ false → (a || b && c) ≡ false
  none_of a b c one other = ap (λ (x : Bool). x || b && c) one ∙ ap (λ (x : Bool). x && c) other

  session_none : (r : Record) (x : Session) (e : Entry) (g : Option Grant)
      → session_uses data_alone r x e g ≡ false
  session_none r x e g = none_of (has_secret_key data_alone x.binding)
      (authorizes_secret data_alone r g)
      (is_hmac_session x.kind || demands_value g || uses_encryption e) (no_key x.binding)
      (no_grant r g)

  entry_none : (k : SessionKind) (r : Record) (e : Entry) (g : Option Grant)
      → uses_by k data_alone r e g ≡ false
  entry_none kind.Password r e g = no_grant r g
  entry_none kind.Session r e g = by (session_of r e)
    where
      by : (found : Option Session)
          → option_map_or (λ (x : Session). session_uses data_alone r x e g) found false ≡ false
      by None = refl
      by (Some x) = session_none r x e g
  entry_none kind.Other r e g = refl

  none_use : (r : Record) (granted : List Granted) → NoneUses data_alone r granted
  none_use r [] = tt
  none_use r (g ∷ granted) = (entry_none (session_kind g.0.session) r g.0 g.1, none_use r granted)

  demand_none : (r : Record) (h : Handle) (x : Session) (e : Entry) (d : Result Demand Refused)
      → demand_uses data_alone r h x e d ≡ false
  demand_none r h x e (Ok d) = session_none r x e (Some (record { handle = h; demand = d }))
  demand_none r h x e (Err f) = refl

  no_session_guess : (r : Record) (c : Whole) (locality n : ℕ) (used : Option Handle) (e : Entry)
      (x : Session) → session_guesses data_alone r c locality n used e x ≡ false
  no_session_guess r c locality n None e x = session_none r x e None
  no_session_guess r c locality n (Some h) e x =
      demand_none r h x e (demand_of_session r c locality n h x)

  no_guess_by : (k : SessionKind) (r : Record) (c : Whole) (locality n : ℕ) (used : Option Handle)
      (e : Entry) → guesses_by k data_alone r c locality n used e ≡ false
  no_guess_by kind.Password r c locality n used e = no_grant r (option_map undemanding used)
  no_guess_by kind.Session r c locality n used e = by (session_of r e)
    where
      by : (found : Option Session)
          → option_map_or (session_guesses data_alone r c locality n used e) found false ≡ false
      by None = refl
      by (Some x) = no_session_guess r c locality n used e x
  no_guess_by kind.Other r c locality n used e = refl

  pub guesses_fail : (r : Record) (c : Whole) (locality : ℕ) → GuessesFail data_alone r c locality
  guesses_fail r c locality place e found guess =
      absurd
      (false≢true
      (sym (no_guess_by (session_kind e.session) r c locality (place + 1)
      (slice_get (authorized c) place) e) ∙ guess))

  pub bindings_hold : (r : Record) → BindingsHold data_alone r
  bindings_hold r session = by (session_at r.sessions session)
    where
      of_binding : (b : Option Binding)
          → IfSome b (λ b. (handle : Handle) → data_alone.bound_names b.name ≡ true
          → b.name ≡ name_of r handle → protection_of r handle ≡ b.protection)
      of_binding None = tt
      of_binding (Some b) = λ handle is. absurd (false≢true is)

      by : (found : Option Session) → IfSome found (BindingHolds data_alone r)
      by None = tt
      by (Some x) = of_binding x.binding

  keeps : (r : Record) (c : Whole) (locality : ℕ) (random : List ℕ)
      → command_reads data_alone r locality random c ≡ false
      → KeepsSecrets data_alone r c locality random
  keeps r c locality random free = record {
    reads = free;
    guesses = guesses_fail r c locality;
    bindings = bindings_hold r;
  }

  pub event_keeps : (r : Record) (event : PlainEvent) → is_reading data_alone r event ≡ false
      → EventKeepsSecrets data_alone r event
  event_keeps r (Given buffer locality elapsed random) free =
      by (general (after_tick r elapsed) buffer) free
    where
      by : (x : Result Whole RefusedCommand)
          → decoded_reads data_alone (after_tick r elapsed) locality random x ≡ false
          → IfOk x (λ c. KeepsSecrets data_alone (after_tick r elapsed) c locality random)
      by (Ok c) free = keeps (after_tick r elapsed) c locality random free
      by (Err e) free = tt
  event_keeps r Cycled free = tt
  event_keeps r (Placed object) free = tt

  -- ---- whether an event reads data does not depend on the data

  module _ (r t : Record) (differ : DifferInSecrets data_alone r t) where
    granted_both : (c : Whole) (locality : ℕ) (random : List ℕ)
        (x : Result (List (Option Grant)) Refused)
        → granted_reads data_alone r c locality random x
        ≡ granted_reads data_alone t c locality random x
    granted_both c locality random (Ok grants) =
        ap (reads_secret data_alone r c.code)
        (requests_same data_alone covers r t differ c grants locality random
        (none_use r (granted_entries c grants)) (none_use t (granted_entries c grants)))
        ∙ reads_both data_alone covers r t differ c.code (request_in t c grants locality random)
    granted_both c locality random (Err e) = refl

    command_both : (c : Whole) (locality : ℕ) (random : List ℕ)
        → command_reads data_alone r locality random c
        ≡ command_reads data_alone t locality random c
    command_both c locality random =
        ap (granted_reads data_alone r c locality random)
        (authorized_same data_alone covers r t differ c locality (guesses_fail r c locality)
        (bindings_hold r) (guesses_fail t c locality) (bindings_hold t))
        ∙ granted_both c locality random (authorize t c locality)

    decoded_both : (locality : ℕ) (random : List ℕ) (x : Result Whole RefusedCommand)
        → decoded_reads data_alone r locality random x
        ≡ decoded_reads data_alone t locality random x
    decoded_both locality random (Ok c) = command_both c locality random
    decoded_both locality random (Err e) = refl

  pub reading_both : (r t : Record) (event : PlainEvent) → DifferInSecrets data_alone r t
      → is_reading data_alone r event ≡ is_reading data_alone t event
  reading_both r t (Given buffer locality elapsed random) differ =
      let differs : DifferInSecrets data_alone (after_tick r elapsed) (after_tick t elapsed) =
      ap (λ (x : Record). after_tick x elapsed) differ in
      ap (decoded_reads data_alone (after_tick r elapsed) locality random)
      (general_same data_alone (after_tick r elapsed) (after_tick t elapsed) differs buffer)
      ∙ decoded_both (after_tick r elapsed) (after_tick t elapsed) differs locality random
      (general (after_tick t elapsed) buffer)
  reading_both r t Cycled differ = refl
  reading_both r t (Placed object) differ = refl

  reading_alike : (r : Record) (event also : PlainEvent) → EventsAlike data_alone event also
      → is_reading data_alone r event ≡ is_reading data_alone r also
  reading_alike r event also alike =
      elim (same_event data_alone covers event also alike) [
        | inl same ↦ ap (is_reading data_alone r) same
        | inr objects ↦ ap (is_reading data_alone r) objects.2
            ∙ sym (ap (is_reading data_alone r) objects.3)
      ]

  pub alike_told_nothing : (one other : Record) (refused : Bool) (event also : PlainEvent)
      → DifferInSecrets data_alone one other → EventsAlike data_alone event also
      → is_reading data_alone one event ≡ false
      → TellsNothing data_alone (step_where refused one event) (step_where refused other also)
  alike_told_nothing one other refused event also differ alike free =
      told_nothing data_alone covers refused one other event also differ alike
      (event_keeps one event free)
      (event_keeps other also
      (sym (reading_both one other event differ ∙ reading_alike other event also alike)
      ∙ free))

  pub data_told_nothing : (one other : Record) (refused : Bool) (event : PlainEvent)
      → DifferInSecrets data_alone one other → is_reading data_alone one event ≡ false
      → TellsNothing data_alone (step_where refused one event) (step_where refused other event)
  data_told_nothing one other refused event differ free =
      alike_told_nothing one other refused event event differ refl free

pub event_tells_nothing : EventTellsNothing
event_tells_nothing indices objects one other refused event also differ alike free =
    alike_told_nothing indices objects one other refused event also differ alike free

pub read_on_both : ReadOnBoth
read_on_both indices objects one other event differ =
    reading_both indices objects one other event differ

pub run_tells_nothing : RunTellsNothing
run_tells_nothing indices objects one other [] [] differ alike none =
    record { answers = refl; after = differ }
run_tells_nothing indices objects one other [] (f ∷ fs) differ alike none = absurd alike
run_tells_nothing indices objects one other (e ∷ es) [] differ alike none = absurd alike
run_tells_nothing indices objects one other (e ∷ es) (f ∷ fs) differ (flag, alike, others) none =
    let s : Secrecy = of_data indices objects in
    let this : TellsNothing s (step_where e.0 one e.1) (step_where f.0 other f.1) =
    subst (λ (b : Bool). TellsNothing s (step_where e.0 one e.1) (step_where b other f.1)) flag
    (alike_told_nothing indices objects one other e.0 e.1 f.1 differ alike none.0) in
    runs_on s one other e f es fs this
    (run_tells_nothing indices objects (step_where e.0 one e.1).after
    (step_where f.0 other f.1).after es fs this.after others none.1)
