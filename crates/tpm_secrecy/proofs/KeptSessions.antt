-- A command's effect does not change the properties that a session received when it started.
use Rattle.std.proofs.Common.{ap, inl, inr, refl, sym, ◌∙◌}
use Rattle.std.proofs.lemmas.Bool.{cases_eq, false≢true}
use Rattle.std.proofs.lemmas.Option.{same_Some}
use Rattle.std.specs.Option.{option_map_or}
use Rattle.std.specs.Prelude.{Bool, Err, IfOk, List, None, Ok, Option, Result, Some, [], cond, false, is_some, length, option_and_then, option_map, slice_set, suc, take, true, zero, ℕ, ◌==◌, ◌∷◌, ◌≡◌}
use Rattle.tpm_actions_device.specs.StartAuthSession.{binding_of, parameters_in, parameters_pass, session_place, session_with, start_auth_session_row}
use Rattle.tpm_actions_policy.specs.Assertions.{assertion_in, assertion_row, asserts, body_of, policy_after, policy_session, session_handle, with_assertion}
use Rattle.tpm_actions_policy.specs.PolicyRestart.{policy_restart_row}
use Rattle.tpm_bytes.specs.Reading.{◌>>=◌}
use Rattle.tpm_commands.specs.CommandCode.{part_of, shape_of}
use Rattle.tpm_commands.specs.Part.{Part}
use Rattle.tpm_commands.specs.declared.command_code.CommandCode.{CommandCode}
use Rattle.tpm_containers.proofs.SlotLaws.{at_set-other, lowest_free-free}
use Rattle.tpm_containers.specs.Numbered.{at_number, changed_at, if_of_kind, kind_of, place_of}
use Rattle.tpm_containers.specs.Slots.{at_place, lowest_free}
use Rattle.tpm_policy.specs.Assertion.{Assertion}
use Rattle.tpm_policy.specs.State.{Policy, starting}
use Rattle.tpm_record.specs.Record.{Record}
use Rattle.tpm_record.specs.rows.Answer.{answer_of}
use Rattle.tpm_record.specs.rows.Request.{Request, first_handle, second_handle}
use Rattle.tpm_record.specs.rows.Rows.{Success, all_read}
use Rattle.tpm_session.specs.Session.{with_nonce, with_policy}
use Rattle.tpm_session.specs.Sessions.{session_at, session_byte, sessions_after_roll, with_session_policy}
use Rattle.tpm_session.specs.declared.session.Session.{Session}
use Rattle.tpm_step.proofs.rows.Binding.{ok_bind, ok_bind_is, some_is}
use Rattle.tpm_step.proofs.rows.Table.{of_success}
use Rattle.tpm_step.specs.step.Entries.{draw_of, entries_rolled, entry_rolled}
use Rattle.tpm_step.specs.uses.Grounds.{allows}
use Rattle.tpm_step.specs.step.Table.{row_of}
use Rattle.tpm_step.specs.rows.Footprint.{Touches}
use Rattle.tpm_types_common.proofs.Named.{none}
use Rattle.tpm_types_common.specs.declared.handle.Handle.{Handle}
use Rattle.tpm_types_common.specs.declared.refused.Refused.{Refused}
use Rattle.tpm_types_command.specs.AuthEntry.{Entry}
use Rattle.tpm_row_secrecy.proofs.Each.{at_number_each, places, set_each}
use Rattle.tpm_commands.specs.declared.command_code.CommandCode.TheVariants as command
use Rattle.tpm_commands.specs.Part as part

-- the properties that a session received when it started, without the session's nonce and policy
abbrev pub start_of_session : Session → Session
start_of_session x = record x { nonce_tpm = []; policy = starting x.hash }

-- Each session that existed before still exists, and is unchanged except for its nonce and its
-- policy.
abbrev pub SessionsKeep : List (Option Session) → List (Option Session) → Type 0
SessionsKeep old new =
    (h : Handle) → is_some (session_at old h) ≡ true
    → option_map start_of_session (session_at new h)
    ≡ option_map start_of_session (session_at old h)

-- ---- changing a session in its slot

set_itself : (xs : List (Option Session)) (n : ℕ) (x : Session) → at_place xs n ≡ Some x
    → slice_set xs n (Some x) ≡ xs
set_itself [] n x is = refl
set_itself (None ∷ ys) zero x is = absurd cc
set_itself (Some y ∷ ys) zero x is = ap (λ (z : Session). Some z ∷ ys) (sym (same_Some y x is))
set_itself (y ∷ ys) (suc n) x is =
    ap (λ (zs : List (Option Session)). y ∷ zs) (set_itself ys n x is)

found_there : (number : ℕ) (found : Option Session) (x : Session)
    → option_and_then (if_of_kind session_byte number) found ≡ Some x → found ≡ Some x
found_there number None x is = absurd cc
found_there number (Some y) x is = by (kind_of number == session_byte y) is
  where
    by : (b : Bool) → cond b (Some y) None ≡ Some x
        → (let z : Option Session = Some y in z) ≡ Some x
    by true is = is
    by false is = absurd cc

changed_starts : (change : Session → Session)
    → ((x : Session) → start_of_session (change x) ≡ start_of_session x)
    → (xs : List (Option Session)) (number : ℕ)
    → places start_of_session (changed_at session_byte change xs number)
    ≡ places start_of_session xs
unfolding at_number
changed_starts change same xs number = by (at_number session_byte xs number) refl
  where
    by : (found : Option Session)
        → option_and_then (if_of_kind session_byte number) (at_place xs (place_of number)) ≡ found
        → places start_of_session
        (option_map_or (λ (x : Session). slice_set xs (place_of number) (Some (change x))) found xs)
        ≡ places start_of_session xs
    by None is = refl
    by (Some x) is =
        sym (set_each start_of_session xs (place_of number) (Some (change x)))
        ∙ ap (λ (z : Session). slice_set (places start_of_session xs) (place_of number) (Some z))
        (same x)
        ∙ set_each start_of_session xs (place_of number) (Some x)
        ∙ ap (places start_of_session)
        (set_itself xs (place_of number) x
        (found_there number (at_place xs (place_of number)) x is))

pub starts_at : (xs : List (Option Session)) (h : Handle)
    → session_at (places start_of_session xs) h ≡ option_map start_of_session (session_at xs h)
unfolding session_at
starts_at xs h = at_number_each start_of_session session_byte session_byte (λ x. refl) xs h.number

pub starts_keep : (old new : List (Option Session))
    → places start_of_session new ≡ places start_of_session old → SessionsKeep old new
starts_keep old new same h there = sym (starts_at new h)
    ∙ ap (λ (xs : List (Option Session)). session_at xs h) same ∙ starts_at old h

policy_starts : (xs : List (Option Session)) (h : Handle) (policy : Policy)
    → places start_of_session (with_session_policy xs h policy) ≡ places start_of_session xs
unfolding with_session_policy
policy_starts xs h policy = changed_starts (λ x. with_policy x policy) (λ x. refl) xs h.number

nonce_starts : (xs : List (Option Session)) (h : Handle) (nonce : List ℕ)
    → places start_of_session (sessions_after_roll xs h nonce) ≡ places start_of_session xs
unfolding sessions_after_roll
nonce_starts xs h nonce = changed_starts (λ x. with_nonce x nonce) (λ x. refl) xs h.number

pub rolled_starts : (r : Record) (es : List Entry) (left : List ℕ)
    → places start_of_session (entries_rolled r es left).after.sessions
    ≡ places start_of_session r.sessions
unfolding entry_rolled
rolled_starts r [] left = refl
rolled_starts r (e ∷ es) left =
    rolled_starts (entry_rolled r e left).after es (entry_rolled r e left).left
    ∙ nonce_starts r.sessions e.session (take (draw_of r e) left)

-- ---- starting a session

put_keeps : (xs : List (Option Session)) (n : ℕ) (new : Session) → lowest_free xs ≡ Some n
    → SessionsKeep xs (slice_set xs n (Some new))
unfolding session_at at_number
put_keeps xs n new free h there =
    elim (cases_eq (place_of h.number) n) [
      | inl here ↦ absurd
          (false≢true
          (sym (ap (λ (place : Option Session). is_some (seen place))
          (ap (at_place xs) here ∙ (lowest_free-free xs n free).1)) ∙ there))
      | inr apart ↦ ap (λ (place : Option Session). option_map start_of_session (seen place))
          (at_set-other xs n (place_of h.number) (Some new) apart)
    ]
  where
    seen : Option Session → Option Session
    seen place = option_and_then (if_of_kind session_byte h.number) place

-- ---- all commands

abbrev pub RowKeeps : Record → Success → Type 0
RowKeeps r x = SessionsKeep r.sessions x.after.sessions

start_keeps : (r : Record) (q : Request) → IfOk (start_auth_session_row r q) (RowKeeps r)
unfolding start_auth_session_row
start_keeps r q =
    ok_bind _ (second_handle q.handles) _ (λ bind.
    ok_bind _ (parameters_in q.parameters) _ (λ p.
    ok_bind _ (parameters_pass p) _ (λ passed.
    ok_bind_is _ (session_place r.sessions) _ (λ n free.
    put_keeps r.sessions n
    (session_with p (binding_of r bind) (take (length p.nonce_caller) q.random))
    (some_is _ _ n free)))))

asserted_keeps : (c : CommandCode) (r : Record) (q : Request)
    → IfOk (assertion_row c r q) (RowKeeps r)
unfolding assertion_row
asserted_keeps c r q =
    ok_bind _ (session_handle c q.handles) _ (λ handle.
    ok_bind _ (assertion_in c r q) _ (λ assertion.
    made (with_assertion r.sessions handle assertion) (set handle assertion)))
  where
    set : (handle : Handle) (a : Session → Assertion)
        → IfOk (with_assertion r.sessions handle a)
        (λ xs. places start_of_session xs ≡ places start_of_session r.sessions)
    set handle a =
        ok_bind _ (policy_session r.sessions handle) _ (λ x.
        ok_bind _ (policy_after a x) _ (λ policy.
        policy_starts r.sessions handle policy))

    made : (x : Result (List (Option Session)) Refused)
        → IfOk x (λ xs. places start_of_session xs ≡ places start_of_session r.sessions)
        → IfOk
        (x
        >>= λ sessions.
        Ok (record { answer = answer_of (body_of c); after = record r { sessions = sessions } }))
        (RowKeeps r)
    made (Ok xs) same = starts_keep r.sessions xs same
    made (Err e) same = tt

restart_keeps : (r : Record) (q : Request) → IfOk (policy_restart_row r q) (RowKeeps r)
unfolding policy_restart_row
restart_keeps r q =
    ok_bind _ (first_handle q.handles) _ (λ handle.
    ok_bind _ (all_read q.parameters) _ (λ ended.
    ok_bind _ (policy_session r.sessions handle) _ (λ x.
    starts_keep r.sessions (with_session_policy r.sessions handle (starting x.hash))
    (policy_starts r.sessions handle (starting x.hash)))))

-- whether a command that changes only this part of the state changes no session
abbrev has_no_session : Part → Bool
has_no_session part.Sessions = false
has_no_session part.SessionsAndObjects = false
has_no_session _ = true

untouched : (p : Part) (old new : Record) → has_no_session p ≡ true → Touches p old new
    → new.sessions ≡ old.sessions
untouched part.Nothing old new is touches = ap (λ (r : Record). r.sessions) touches
untouched part.Sessions old new is touches = absurd (false≢true is)
untouched part.Objects old new is touches = ap (λ (r : Record). r.sessions) touches
untouched part.SessionsAndObjects old new is touches = absurd (false≢true is)
untouched part.Persistent old new is touches = ap (λ (r : Record). r.sessions) touches
untouched part.NvData old new is touches = ap (λ (r : Record). r.sessions) touches
untouched part.NvCounter old new is touches = ap (λ (r : Record). r.sessions) touches
untouched part.NvAuthValue old new is touches = ap (λ (r : Record). r.sessions) touches
untouched part.NvDefined old new is touches = ap (λ (r : Record). r.sessions) touches
untouched part.NvUndefined old new is touches = ap (λ (r : Record). r.sessions) touches
untouched part.AuthValues old new is touches = ap (λ (r : Record). r.sessions) touches.0
untouched part.Lockout old new is touches = ap (λ (r : Record). r.sessions) touches
untouched part.Banks old new is touches = ap (λ (r : Record). r.sessions) touches
untouched part.Beginning old new is touches = ap (λ (r : Record). r.sessions) touches.0
untouched part.Saved old new is touches = ap (λ (r : Record). r.sessions) touches
untouched part.DisableClear old new is touches = ap (λ (r : Record). r.sessions) touches
untouched part.Clock old new is touches = ap (λ (r : Record). r.sessions) touches
untouched part.Cleared old new is touches = ap (λ (r : Record). r.sessions) touches

others_keep : (r : Record) (c : CommandCode) (q : Request) → has_no_session (part_of c) ≡ true
    → IfOk (row_of r c q) (RowKeeps r)
others_keep r c q none =
    of_success _ r c q
    (λ x laws. starts_keep r.sessions x.after.sessions
    (ap (places start_of_session) (untouched (part_of c) r x.after none laws.touches)))

started_row_keeps : (r : Record) (q : Request)
    → IfOk (row_of r command.StartAuthSession q) (RowKeeps r)
unfolding row_of
started_row_keeps r q = start_keeps r q

restarted_row_keeps : (r : Record) (q : Request)
    → IfOk (row_of r command.PolicyRestart q) (RowKeeps r)
unfolding row_of
restarted_row_keeps r q = restart_keeps r q

asserted_row_keeps : (c : CommandCode) (r : Record) (q : Request) → asserts c ≡ true
    → IfOk (row_of r c q) (RowKeeps r)
unfolding row_of
asserted_row_keeps command.PolicyPcr r q is = asserted_keeps command.PolicyPcr r q
asserted_row_keeps command.PolicyOr r q is = asserted_keeps command.PolicyOr r q
asserted_row_keeps command.PolicyAuthValue r q is = asserted_keeps command.PolicyAuthValue r q
asserted_row_keeps command.PolicyPassword r q is = asserted_keeps command.PolicyPassword r q
asserted_row_keeps command.PolicyCommandCode r q is = asserted_keeps command.PolicyCommandCode r q
asserted_row_keeps command.PolicyCpHash r q is = asserted_keeps command.PolicyCpHash r q
asserted_row_keeps command.PolicyNvWritten r q is = asserted_keeps command.PolicyNvWritten r q
asserted_row_keeps command.PolicyLocality r q is = asserted_keeps command.PolicyLocality r q
asserted_row_keeps command.PolicySecret r q is = asserted_keeps command.PolicySecret r q
asserted_row_keeps command.PolicyNv r q is = asserted_keeps command.PolicyNv r q
asserted_row_keeps _ r q is = absurd (false≢true is)

flush_forbids : (shape_of command.FlushContext).forbids_sessions ≡ true
unfolding shape_of
flush_forbids = refl

-- If a command may have sessions and succeeds, it preserves all sessions, as `SessionsKeep`
-- defines. TPM2_FlushContext must not have sessions.
pub sessions_keep : (c : CommandCode) (r : Record) (q : Request)
    → (shape_of c).forbids_sessions ≡ false → IfOk (row_of r c q) (RowKeeps r)
sessions_keep command.FlushContext r q allows = absurd (false≢true (sym allows ∙ flush_forbids))
sessions_keep command.StartAuthSession r q allows = started_row_keeps r q
sessions_keep command.PolicyRestart r q allows = restarted_row_keeps r q
sessions_keep command.PolicyPcr r q allows = asserted_row_keeps command.PolicyPcr r q refl
sessions_keep command.PolicyOr r q allows = asserted_row_keeps command.PolicyOr r q refl
sessions_keep command.PolicyAuthValue r q allows =
    asserted_row_keeps command.PolicyAuthValue r q refl
sessions_keep command.PolicyPassword r q allows = asserted_row_keeps command.PolicyPassword r q refl
sessions_keep command.PolicyCommandCode r q allows =
    asserted_row_keeps command.PolicyCommandCode r q refl
sessions_keep command.PolicyCpHash r q allows = asserted_row_keeps command.PolicyCpHash r q refl
sessions_keep command.PolicyNvWritten r q allows =
    asserted_row_keeps command.PolicyNvWritten r q refl
sessions_keep command.PolicyLocality r q allows = asserted_row_keeps command.PolicyLocality r q refl
sessions_keep command.PolicySecret r q allows = asserted_row_keeps command.PolicySecret r q refl
sessions_keep command.PolicyNv r q allows = asserted_row_keeps command.PolicyNv r q refl
sessions_keep _ r q allows = others_keep r _ q refl
