-- Each assertion of every live policy session met its condition when the session accepted it.
use Rattle.std.proofs.Common.{◌≡◌, ◌⊎◌, ◌≤◌, ℕ, true, false, List, [], ◌∷◌, length, Option, Some, None, option_map, Result, Ok, Err, refl, ap, sym, subst, ◌∙◌, inl, inr}
use Rattle.std.proofs.lemmas.Option.{same_Some}
use Rattle.tpm_mac.specs.declared.algorithm.HashAlg.{HashAlg}
use Rattle.tpm_nv.specs.IsContents.{AreIndices}
use Rattle.tpm_policy.specs.Assertion.{Assertion}
use Rattle.tpm_policy_meaning.specs.Asserted.{HasWidths, evaluated_policy}
use Rattle.tpm_session.specs.Sessions.{session_at}
use Rattle.tpm_session.specs.declared.session.Session.{Session}
use Rattle.tpm_types_common.specs.SessionType.{is_trial}
use Rattle.tpm_types_common.specs.declared.handle.Handle.{Handle}
use Rattle.tpm_types_common.specs.declared.refused.Refused.{Refused}
use Rattle.tpm_types_common.specs.declared.session_type.SessionType.{SessionType}
use Rattle.tpm_types_common.specs.declared.session_type.SessionType.TheVariants as type
use Rattle.tpm_record.specs.Record.{Record}
use Rattle.tpm_actions_policy.specs.Assertions.{asserts, session_handle}
use Rattle.tpm_step.specs.step.Step.{Accepted, acceptance_in}
use Rattle.tpm_step.specs.step.Table.{row_of}
use Rattle.tpm_step.specs.rows.Acceptance.{IsAcceptance}
use Rattle.tpm_step.proofs.rows.Binding.{ok_at}
use Rattle.tpm_step.specs.uses.AcceptedAssertions.{AllFind, Finds, SessionsFind}
use Rattle.tpm_step.specs.history.DeviceSessions.{HasSessions, SessionFacts, facts_of, session_facts}
use Rattle.tpm_step.specs.history.History.{AcceptedCommand, Done, History, command_of}
use Rattle.tpm_step.specs.history.Policies.{assertion_by, with_assertion}
use Rattle.tpm_step.specs.history.Sessions.{LiveSession, policy_in, rolled_by, sessions_of}
use Rattle.tpm_step.proofs.uses.AcceptedAssertions.{FindsItsOwn, row_finds}
use Rattle.tpm_step.proofs.history.LivingOn.{Asserted, Begun, Came, Keeps, Stayed, entries_kept, row_came}

-- ---- an accepted command

module _ (r : Record) (a : Accepted) (locality : ℕ) (random : List ℕ) (history : History)
    (is : IsAcceptance r locality random a) (are : AreIndices r.nv.indices)
    (has : HasSessions r history) (before : SessionsFind history) where
  abbrev c : AcceptedCommand
  c = command_of r a

  -- If a policy session survives a command, each of its assertions met its condition.
  stayed_find : (handle : Handle) (old mid : LiveSession) → sessions_of history handle ≡ Some old
      → mid.kind ≡ type.Policy → Keeps old mid → AllFind mid.hash mid.assertions
  stayed_find handle old mid lived policy keeps = by keeps.asserted
    where
      by : (mid.assertions ≡ old.assertions) ⊎ (mid.assertions ≡ [])
          → AllFind mid.hash mid.assertions
      by (inr none) = subst (AllFind mid.hash) (sym none) tt
      by (inl same) =
          subst (AllFind mid.hash) (sym same)
          (subst (λ (h : HashAlg). AllFind h old.assertions) (sym keeps.continues.hash)
          (before handle old lived (sym keeps.continues.kind ∙ policy)))

  -- The assertion that the command makes on the device's session met its condition.
  told_finds : (handle : Handle) (old : LiveSession) (told : Assertion)
      → asserts c.command.code ≡ true → session_handle c.command.code c.request.handles ≡ Ok handle
      → sessions_of history handle ≡ Some old → old.kind ≡ type.Policy
      → assertion_by c.command.code c history old.hash old.nonce_tpm ≡ Ok told
      → Finds told (policy_in old) × HasWidths old.hash told
  told_finds handle old told it_does names lived kind tells =
      by (session_at r.sessions handle) refl (has.live handle)
    where
      finds : FindsItsOwn r c history are c.command.code
      finds = ok_at (λ x. FindsItsOwn r c history are c.command.code)
          (row_of r c.command.code c.request) a.success
          (row_finds r c history are c.command.code it_does) is.row

      by : (found : Option Session) → session_at r.sessions handle ≡ found
          → option_map session_facts found ≡ option_map facts_of (sessions_of history handle)
          → Finds told (policy_in old) × HasWidths old.hash told
      by None there same =
          absurd (let none : None ≡ Some (facts_of old) =
          same ∙ ap (option_map facts_of) lived in let never : ⊥ = cc in never)
      by (Some s) there same =
          let facts : session_facts s ≡ facts_of old =
          same_Some (session_facts s) (facts_of old) (same ∙ ap (option_map facts_of) lived) in
          let no_trial : is_trial s.kind ≡ false =
          ap (λ (f : SessionFacts). is_trial f.start.kind) facts ∙ ap is_trial kind in
          let on : (assertion_by c.command.code c history s.hash s.nonce_tpm ≡ Ok told) =
          ap (λ (f : SessionFacts). assertion_by c.command.code c history f.start.hash
          f.nonce_tpm) facts ∙ tells in
          subst (λ (f : SessionFacts). Finds told f.policy × HasWidths f.start.hash told) facts
          (finds handle s told names there no_trial on)

  asserted_find : (handle : Handle) (old : LiveSession) (x : Result Assertion Refused)
      → asserts c.command.code ≡ true → session_handle c.command.code c.request.handles ≡ Ok handle
      → sessions_of history handle ≡ Some old → old.kind ≡ type.Policy
      → assertion_by c.command.code c history old.hash old.nonce_tpm ≡ x
      → AllFind old.hash (with_assertion x old.assertions)
  asserted_find handle old (Err e) it_does names lived kind tells = before handle old lived kind
  asserted_find handle old (Ok told) it_does names lived kind tells =
      let found = told_finds handle old told it_does names lived kind tells in (
        (
          subst (λ (k : SessionType). Finds told
              (evaluated_policy old.hash (is_trial k) old.assertions)) kind found.0,
          found.1,
        ),
        before handle old lived kind,
      )

  came_find : (handle : Handle) (mid : LiveSession) → mid.kind ≡ type.Policy
      → Came c.command.code c history (sessions_of history handle) handle mid
      → AllFind mid.hash mid.assertions
  came_find handle mid policy (Begun begun none) = subst (AllFind mid.hash) (sym none) tt
  came_find handle mid policy (Stayed was) = stayed_find handle was.0 mid was.1 policy was.2
  came_find handle mid policy (Asserted old lived it_does names made) =
      subst (λ (s : LiveSession). s.kind ≡ type.Policy → AllFind s.hash s.assertions) made
      (λ kind. asserted_find handle old
      (assertion_by c.command.code c history old.hash old.nonce_tpm) it_does names lived kind
      refl) policy

  pub command_finds : 1 ≤ length (rolled_by c history (sessions_of history)).left
      → SessionsFind (Done c ∷ history)
  command_finds some handle new lives policy =
      let (mid, was, keeps) = entries_kept c history some handle new lives in
      by mid keeps (came_find handle mid (sym keeps.continues.kind ∙ policy)
      (row_came c history (sessions_of history) handle mid c.command.code was)) keeps.asserted
    where
      by : (mid : LiveSession) → Keeps mid new → AllFind mid.hash mid.assertions
          → (new.assertions ≡ mid.assertions) ⊎ (new.assertions ≡ [])
          → AllFind new.hash new.assertions
      by mid keeps found (inr none) = subst (AllFind new.hash) (sym none) tt
      by mid keeps found (inl same) =
          subst (AllFind new.hash) (sym same)
          (subst (λ (h : HashAlg). AllFind h mid.assertions) (sym keeps.continues.hash) found)

-- ---- handles without a session

pub none_find : (history : History) → ((handle : Handle) → sessions_of history handle ≡ None)
    → SessionsFind history
none_find history none handle s lives policy =
    absurd (let gone = none handle in let never : ⊥ = cc in never)
