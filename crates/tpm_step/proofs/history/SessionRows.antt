-- A row has the same effect on the sessions of a device as on those of the history.
use Rattle.std.proofs.Common.{◌≡◌, ℕ, Bool, true, false, cond, List, [], ◌∷◌, length, take, map, Option, Some, None, option_map, Result, Ok, IfOk, slice_set, refl, ap, sym, subst, ◌∙◌}
use Rattle.std.specs.Prelude.{◌==◌, not, ok_or}
use Rattle.tpm_bytes.specs.Reading.{refused_if}
use Rattle.tpm_policy.specs.State.{starting}
use Rattle.tpm_session.specs.Key.{session_key}
use Rattle.tpm_session.specs.Sessions.{with_session_policy}
use Rattle.tpm_session.specs.declared.session.Binding.{Binding}
use Rattle.tpm_session.specs.declared.session.Protection.{Protection}
use Rattle.tpm_session.specs.declared.session.Session.{Session}
use Rattle.tpm_types_common.specs.Handle.{is_session, null_handle}
use Rattle.tpm_types_common.specs.Limits.{session_limit}
use Rattle.tpm_types_common.specs.declared.handle.Handle.{Handle}
use Rattle.tpm_types_common.specs.declared.refused.Refused.{Refused}
use Rattle.tpm_commands.specs.declared.command_code.CommandCode.{CommandCode}
use Rattle.tpm_commands.specs.declared.command_code.CommandCode.TheVariants as command
use Rattle.tpm_record.specs.Entity.{auth_value_of, name_of, protection_of}
use Rattle.tpm_record.specs.Record.{Record}
use Rattle.tpm_record.specs.rows.Answer.{AnswerParts}
use Rattle.tpm_record.specs.rows.Refusals.{handle_refusal}
use Rattle.tpm_record.specs.rows.Request.{Request, first_handle, second_handle}
use Rattle.tpm_record.specs.rows.Rows.{Success, all_read}
use Rattle.tpm_actions_device.specs.FlushContext.{can_be_flushed, flush_context_row, flushed_from, flushed_handle, is_loaded}
use Rattle.tpm_actions_device.specs.StartAuthSession.{Parameters, binding_of, parameters_in, parameters_pass, session_place, session_with, start_auth_session_row}
use Rattle.tpm_actions_policy.specs.Assertions.{assertion_in, assertion_row, asserts, policy_after, policy_session, session_handle, with_assertion}
use Rattle.tpm_actions_policy.specs.PolicyRestart.{policy_restart_row}
use Rattle.tpm_step.specs.step.Table.{row_of}
use Rattle.tpm_commands.specs.CommandCode.{part_of}
use Rattle.tpm_step.proofs.rows.Binding.{ok_bind, ok_bind_is, ok_then, ok_weaker, some_is}
use Rattle.tpm_step.proofs.rows.Parts.{leaves_sessions}
use Rattle.tpm_step.proofs.rows.Table.{row_same}
use Rattle.tpm_step.specs.history.AuthValues.{auth_of}
use Rattle.tpm_step.specs.history.DevicePcrs.{HasPcrs}
use Rattle.tpm_step.specs.history.DeviceSessions.{AreLive, SessionFacts, bound_of, facts_of, session_facts}
use Rattle.tpm_step.specs.history.HandleMap.{by_handle, with_at}
use Rattle.tpm_step.specs.history.History.{AcceptedCommand, History}
use Rattle.tpm_step.specs.history.Sessions.{Bound, LiveSession, LiveSessions, asserted_by, bound_in, changed_session, restarted_session, sessions_by, start_key, started_by, started_session, started_with, with_asserted, without_session}
use Rattle.tpm_step.specs.history.View.{View, view_name, view_of}
use Rattle.tpm_step.specs.history.Views.{view_protection}
use Rattle.tpm_step.proofs.history.Asserted.{IsAsserted, asserted_as, is_asserted}
use Rattle.tpm_step.proofs.history.LiveSessions.{ended_live, none_ended_live, policy_live, started_live}
use Rattle.tpm_step.proofs.history.Views.{views_tell}

-- ---- the parameters of a new session

bound_is : (r : Record) (handles : List Handle) (bind : Handle) → second_handle handles ≡ Ok bind
    → bound_in handles (map (view_of r) handles) (map (auth_value_of r) handles)
    ≡ option_map bound_of (binding_of r bind)
unfolding binding_of
bound_is r [] bind is = absurd cc
bound_is r (key ∷ []) bind is = absurd cc
bound_is r (key ∷ handle ∷ handles) bind is =
    let same : handle ≡ bind = cc in
    by (handle.number == null_handle.number)
    ∙ ap (λ (h : Handle). option_map bound_of (binding_of r h)) same
  where
    by : (b : Bool)
        → cond b None
        (Some (let bound : Bound =
        record {
          name = view_name (view_of r handle);
          auth_value =
              auth_value_of r handle;
          protection = view_protection (view_of r handle);
        } in bound))
        ≡ option_map bound_of
        (cond b None
        (Some (let binding : Binding =
        record {
          name = name_of r handle;
          auth_value = auth_value_of r handle;
          protection =
              protection_of r handle;
        } in binding)))
    by true = refl
    by false =
        let tells = views_tell r handle in
        let bound : List ℕ → Protection → Option Bound = λ name protection. let b : Bound =
        record { name = name; auth_value = auth_value_of r handle; protection = protection } in
        Some b in
        ap (λ name. bound name (view_protection (view_of r handle))) tells.name
        ∙ ap (bound (name_of r handle)) tells.protection

start_told : (p : Parameters) (binding : Option Binding) (nonce : List ℕ)
    → session_facts (session_with p binding nonce)
    ≡ facts_of (started_with p (option_map bound_of binding) nonce)
unfolding start_key session_key
start_told p None nonce = refl
start_told p (Some binding) nonce = refl

-- If the history recorded the answer of this success, then the sessions after the success are those
-- that the history determines.
abbrev pub IsTold : AcceptedCommand → History → LiveSessions → CommandCode → Success → Type 0
IsTold c history live code s = c.answer ≡ s.answer
    → AreLive s.after.sessions (sessions_by code c history live)

module _ (r : Record) (c : AcceptedCommand) (history : History) (live : LiveSessions)
    (viewed : c.views ≡ map (view_of r) c.request.handles)
    (valued : map (auth_value_of r) c.request.handles ≡ map (auth_of history) c.request.handles)
    (many : length r.sessions ≡ session_limit) (pcrs : HasPcrs r history)
    (are : AreLive r.sessions live) where
  abbrev q : Request
  q = c.request

  -- ---- starting a session

  abbrev bound : Option Bound
  bound = bound_in q.handles c.views (map (auth_of history) q.handles)

  bound_told : (bind : Handle) → second_handle q.handles ≡ Ok bind
      → bound ≡ option_map bound_of (binding_of r bind)
  bound_told bind second =
      ap (λ (views : List View). bound_in q.handles views (map (auth_of history) q.handles)) viewed
      ∙ ap (bound_in q.handles (map (view_of r) q.handles)) (sym valued)
      ∙ bound_is r q.handles bind second

  abbrev told : Option LiveSession
  told = started_session c (map (auth_of history) q.handles)

  started_told : (bind : Handle) (p : Parameters) → second_handle q.handles ≡ Ok bind
      → parameters_in q.parameters ≡ Ok p
      → Some (session_facts
      (session_with p (binding_of r bind) (take (length p.nonce_caller) q.random)))
      ≡ option_map facts_of told
  unfolding started_session
  started_told bind p second read =
      let nonce : List ℕ = take (length p.nonce_caller) q.random in
      ap (λ (f : SessionFacts). Some f) (start_told p (binding_of r bind) nonce)
      ∙ sym (ap (λ (x : Result Parameters Refused). option_map facts_of
      (started_by x bound q.random)) read
      ∙ ap (λ (b : Option Bound). Some (facts_of (started_with p b nonce)))
      (bound_told bind second))

  start_row : IfOk (row_of r command.StartAuthSession q)
      (IsTold c history live command.StartAuthSession)
  unfolding row_of start_auth_session_row
  start_row =
      ok_bind_is _ (second_handle q.handles) _ (λ bind second.
      ok_bind_is _ (parameters_in q.parameters) _ (λ p read.
      ok_bind _ (parameters_pass p) _ (λ passes.
      ok_bind_is _ (session_place r.sessions) _ (λ place free. λ answer.
      let s : Session =
      session_with p (binding_of r bind) (take (length p.nonce_caller) q.random) in
      subst (λ (named : Result Handle Refused). AreLive (slice_set r.sessions place (Some s))
      (by_handle named (λ handle. with_at handle told) live))
      (sym (ap (λ (a : AnswerParts). ok_or a.handle handle_refusal) answer))
      (started_live r.sessions place s told live many (some_is _ _ place free)
      (started_told bind p second read) are)))))

  -- ---- ending a session

  flushed_live : (handle : Handle) (of_session : Bool) → is_session handle ≡ of_session
      → AreLive (flushed_from r handle of_session).sessions (without_session handle live)
  flushed_live handle true is = ended_live r.sessions handle live are
  flushed_live handle false is = none_ended_live r.sessions handle live is are

  flush_row : IfOk (row_of r command.FlushContext q) (IsTold c history live command.FlushContext)
  unfolding row_of flush_context_row
  flush_row =
      ok_bind_is _ (flushed_handle q.parameters) _ (λ handle is.
      ok_bind _ (refused_if (not (can_be_flushed handle)) _) _ (λ a1.
      ok_bind _ (refused_if (not (is_loaded r handle)) _) _ (λ a2. λ answer.
      subst (λ (named : Result Handle Refused). AreLive
      (flushed_from r handle (is_session handle)).sessions
      (by_handle named without_session live)) (sym is)
      (flushed_live handle (is_session handle) refl))))

  -- ---- changing a policy

  restart_row : IfOk (row_of r command.PolicyRestart q)
      (IsTold c history live command.PolicyRestart)
  unfolding row_of policy_restart_row
  restart_row =
      ok_bind_is _ (first_handle q.handles) _ (λ handle is.
      ok_bind _ (all_read q.parameters) _ (λ ended.
      ok_bind_is _ (policy_session r.sessions handle) _ (λ s found. λ answer.
      subst (λ (named : Result Handle Refused). AreLive
      (with_session_policy r.sessions handle (starting s.hash))
      (by_handle named (changed_session restarted_session) live)) (sym is)
      (policy_live r.sessions handle s (starting s.hash) restarted_session live
      (some_is _ _ s found)
      (λ l same. ap (λ (f : SessionFacts). record f { policy = starting f.start.hash }) same)
      are))))

  abbrev AreAsserted : CommandCode → Success → Type 0
  AreAsserted code s = c.answer ≡ s.answer
      → AreLive s.after.sessions (with_asserted code c history live)

  asserted_live : (code : CommandCode) → IfOk (assertion_row code r q) (AreAsserted code)
  unfolding assertion_row
  asserted_live code =
      ok_bind_is _ (session_handle code q.handles) _ (λ handle is.
      ok_then (IsAsserted c history code) _ (assertion_in code r q) _
      (is_asserted r c history viewed pcrs code) (λ assertion tells.
      ok_then (λ sessions. AreLive sessions (with_asserted code c history live)) _
      (with_assertion r.sessions handle assertion) _
      (ok_bind_is _ (policy_session r.sessions handle) _ (λ s found.
      ok_bind_is _ (policy_after assertion s) _ (λ policy made.
      subst (λ (named : Result Handle Refused). AreLive
      (with_session_policy r.sessions handle policy)
      (by_handle named (changed_session (asserted_by code c history)) live)) (sym is)
      (policy_live r.sessions handle s policy (asserted_by code c history) live
      (some_is _ _ s found) (asserted_as c history code assertion s policy tells made) are))))
      (λ sessions told. λ answer. told)))

  asserted_row : (code : CommandCode) → asserts code ≡ true
      → IfOk (row_of r code q) (AreAsserted code)
  unfolding row_of
  asserted_row command.PolicyPcr is = asserted_live command.PolicyPcr
  asserted_row command.PolicyOr is = asserted_live command.PolicyOr
  asserted_row command.PolicyAuthValue is = asserted_live command.PolicyAuthValue
  asserted_row command.PolicyPassword is = asserted_live command.PolicyPassword
  asserted_row command.PolicyCommandCode is = asserted_live command.PolicyCommandCode
  asserted_row command.PolicyCpHash is = asserted_live command.PolicyCpHash
  asserted_row command.PolicyNvWritten is = asserted_live command.PolicyNvWritten
  asserted_row command.PolicyLocality is = asserted_live command.PolicyLocality
  asserted_row command.PolicySecret is = asserted_live command.PolicySecret
  asserted_row command.PolicyNv is = asserted_live command.PolicyNv
  asserted_row _ is = absurd cc

  -- ---- every row

  other_row : (code : CommandCode) → leaves_sessions (part_of code) ≡ true
      → IfOk (row_of r code q) (λ s. c.answer ≡ s.answer → AreLive s.after.sessions live)
  other_row code leaves =
      ok_weaker (λ s. s.after.sessions ≡ r.sessions) _ (row_of r code q) (row_same r code q leaves)
      (λ s same. λ answer.
      subst (λ (places : List (Option Session)). AreLive places live) (sym same) are)

  pub row_told : (code : CommandCode) → IfOk (row_of r code q) (IsTold c history live code)
  row_told command.StartAuthSession = start_row
  row_told command.FlushContext = flush_row
  row_told command.PolicyRestart = restart_row
  row_told command.PolicyPcr = asserted_row command.PolicyPcr refl
  row_told command.PolicyOr = asserted_row command.PolicyOr refl
  row_told command.PolicyAuthValue = asserted_row command.PolicyAuthValue refl
  row_told command.PolicyPassword = asserted_row command.PolicyPassword refl
  row_told command.PolicyCommandCode = asserted_row command.PolicyCommandCode refl
  row_told command.PolicyCpHash = asserted_row command.PolicyCpHash refl
  row_told command.PolicyNvWritten = asserted_row command.PolicyNvWritten refl
  row_told command.PolicyLocality = asserted_row command.PolicyLocality refl
  row_told command.PolicySecret = asserted_row command.PolicySecret refl
  row_told command.PolicyNv = asserted_row command.PolicyNv refl
  row_told _ = other_row _ refl
