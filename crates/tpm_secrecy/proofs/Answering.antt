-- If no entry of a successful command uses a secret, the command's answer reveals nothing about
-- secrets.
use Rattle.std.proofs.Common.{ap, refl, sym, ◌∙◌}
use Rattle.std.proofs.lemmas.Bool.{true≢false}
use Rattle.std.specs.List.{find}
use Rattle.std.specs.Option.{option_map_or}
use Rattle.std.specs.Prelude.{Bool, List, None, Option, Some, [], cond, drop, false, is_some, length, not, option_map, take, true, ℕ, ◌++◌, ◌||◌, ◌∷◌, ◌≡◌}
use Rattle.tpm_auth.specs.Entries.{decrypts, encrypts, session_of}
use Rattle.tpm_auth.specs.SessionGrant.{granted_value}
use Rattle.tpm_auth.specs.declared.session_grant.Grant.{Grant}
use Rattle.tpm_commands.specs.CommandCode.{code_number}
use Rattle.tpm_containers.specs.Slots.{free}
use Rattle.tpm_mac.specs.declared.algorithm.HashAlg.{HashAlg}
use Rattle.tpm_policy.specs.State.{starting}
use Rattle.tpm_record.specs.Entity.{auth_value_of}
use Rattle.tpm_record.specs.Record.{Record}
use Rattle.tpm_record.specs.rows.Request.{Request}
use Rattle.tpm_session.specs.FirstBuffer.{with_first_buffer}
use Rattle.tpm_session.specs.ParameterHash.{HashedParts, OfResponse}
use Rattle.tpm_session.specs.Session.{with_nonce, with_policy}
use Rattle.tpm_session.specs.Sessions.{session_byte, sessions_after_roll, slots_without_session, with_session_policy}
use Rattle.tpm_session.specs.declared.session.Session.{Session}
use Rattle.tpm_step.proofs.rows.Binding.{asked}
use Rattle.tpm_step.specs.step.Answer.{Answered, Written, answer_to, success_text}
use Rattle.tpm_step.specs.step.Entries.{Drawn, answer_mac, draw_of, entries_answer, entries_ended, entries_rolled, entry_answer, entry_ended, entry_restarted, entry_rolled, password_answer, restarted_by, session_answer}
use Rattle.tpm_step.specs.step.Granted.{Granted, granted_entries}
use Rattle.tpm_step.specs.step.Parameters.{asks_for, encrypted_answer, entry_parameters, session_bytes, session_parameters}
use Rattle.tpm_step.specs.step.Step.{request_in}
use Rattle.tpm_step.specs.declared.direction.Direction.{Direction}
use Rattle.tpm_types_common.specs.SessionAttributes.{continues_session}
use Rattle.tpm_types_common.specs.declared.handle.Handle.{Handle}
use Rattle.tpm_types_common.specs.declared.session_type.SessionType.{SessionType}
use Rattle.tpm_types_command.specs.AuthEntry.{Entry}
use Rattle.tpm_types_command.specs.Command.{Whole}
use Rattle.tpm_row_secrecy.proofs.Each.{changed_at_each, chosen, places, without_number_each}
use Rattle.tpm_row_secrecy.proofs.Entities.{session_at_bare, value_bare}
use Rattle.tpm_row_secrecy.specs.Secrecy.{CoversKeys, Secrecy, bare_session, has_secret_key, has_secret_value, without_secrets}
use Rattle.tpm_secrecy.proofs.Authorizing.{neither, not_second, seen_session, session_shown, used_same}
use Rattle.tpm_secrecy.proofs.Granted.{session_unused}
use Rattle.tpm_secrecy.specs.Guesses.{NoneUses, demands_value, is_hmac_session, session_uses, uses_encryption, uses_secret}
use Rattle.tpm_step.specs.declared.direction.Direction.TheVariants as direction
use Rattle.tpm_types_common.specs.declared.session_type.SessionType.TheVariants as type

module _ (s : Secrecy) (covers : CoversKeys s) where
  -- ---- new nonces

  abbrev size_in : Option Session → ℕ
  size_in found = option_map_or (λ (x : Session). length x.nonce_tpm) found 0

  draw_same : (r : Record) (e : Entry) → draw_of (without_secrets s r) e ≡ draw_of r e
  unfolding draw_of
  draw_same r e = seen_session s covers r size_in by e.session
    where
      by : (found : Option Session) → size_in (option_map (bare_session s) found) ≡ size_in found
      by None = refl
      by (Some x) = refl

  nonce_set : (xs : List (Option Session)) (h : Handle) (nonce : List ℕ)
      → sessions_after_roll (places (bare_session s) xs) h nonce
      ≡ places (bare_session s) (sessions_after_roll xs h nonce)
  unfolding sessions_after_roll
  nonce_set xs h nonce = changed_at_each (bare_session s) session_byte session_byte (λ x. refl)
      (λ x. with_nonce x nonce) (λ x. with_nonce x nonce) (λ x. refl) xs h.number

  abbrev bare_drawn : Drawn → Drawn
  bare_drawn d = record { after = without_secrets s d.after; left = d.left }

  rolled_one : (r : Record) (e : Entry) (left : List ℕ)
      → entry_rolled (without_secrets s r) e left ≡ bare_drawn (entry_rolled r e left)
  unfolding entry_rolled
  rolled_one r e left =
      ap (λ (n : ℕ). let x : Drawn =
      record {
        after =
            record (without_secrets s r) {
              sessions =
                  sessions_after_roll (places (bare_session s) r.sessions) e.session (take n left);
            };
        left =
            drop n left;
      } in x) (draw_same r e)
      ∙ ap (λ (xs : List (Option Session)). let x : Drawn =
      record {
        after = record (without_secrets s r) { sessions = xs };
        left =
            drop (draw_of r e) left;
      } in x)
      (nonce_set r.sessions e.session (take (draw_of r e) left))

  rolled_same : (r : Record) (es : List Entry) (left : List ℕ)
      → entries_rolled (without_secrets s r) es left ≡ bare_drawn (entries_rolled r es left)
  rolled_same r [] left = refl
  rolled_same r (e ∷ es) left =
      ap (λ (first : Drawn). entries_rolled first.after es first.left) (rolled_one r e left)
      ∙ rolled_same (entry_rolled r e left).after es (entry_rolled r e left).left

  -- ---- parameters that a session decrypts or encrypts

  or_second : (a b : Bool) → b ≡ true → (a || b) ≡ true
  or_second true b is = refl
  or_second false b is = is

  encryption_asked : (d : Direction) (e : Entry) → asks_for d e ≡ true → uses_encryption e ≡ true
  encryption_asked direction.Decrypt e is = ap (λ (b : Bool). b || encrypts e) is
  encryption_asked direction.Encrypt e is = or_second (decrypts e) (encrypts e) is

  -- Suppose that two devices differ only in secrets. If an entry encrypts or decrypts a parameter,
  -- and its session uses no secret, the entry's authorization value is the same on both devices.
  value_same : (r : Record) (x : Session) (e : Entry) (g : Option Grant)
      → session_uses s r x e g ≡ false → uses_encryption e ≡ true
      → granted_value (without_secrets s r) g ≡ granted_value r g
  value_same r x e None free asked = refl
  value_same r x e (Some g) free asked = by (has_secret_value s r g.handle) refl
    where
      by : (b : Bool) → has_secret_value s r g.handle ≡ b
          → auth_value_of (without_secrets s r) g.handle ≡ auth_value_of r g.handle
      by false is = value_bare s r g.handle is
      by true is =
          let parts = neither (has_secret_key s x.binding) _ free in
          absurd
          (true≢false
          (sym (or_second (is_hmac_session x.kind || demands_value (Some g))
          (uses_encryption e) asked) ∙ not_second _ _ parts.1 is))

  -- Suppose that two devices differ only in secrets. If an entry uses no secret, a value that is
  -- computed from the entry's session is the same on both devices.
  of_session : {X : Type 0} (r : Record) (e : Entry) (g : Option Grant) (none : X)
      (f h : Session → X) → uses_secret s r e g ≡ false
      → ((x : Session) → session_uses s r x e g ≡ false → f x ≡ h x)
      → option_map_or f (session_of (without_secrets s r) e) none
      ≡ option_map_or h (session_of r e) none
  of_session {X} r e g none f h free same =
      ap (λ (found : Option Session). option_map_or f found none)
      (session_at_bare s r.sessions e.session)
      ∙ by (session_of r e) (λ x is. session_unused s r e g x free is)
    where
      by : (found : Option Session)
          → ((x : Session) → found ≡ Some x → session_uses s r x e g ≡ false)
          → option_map_or f (option_map (bare_session s) found) none ≡ option_map_or h found none
      by None unused = refl
      by (Some x) unused =
          let free : session_uses s r x e g ≡ false = unused x refl in
          ap f (session_shown s x (neither (has_secret_key s x.binding) _ free).0) ∙ same x free

  entry_same : (d : Direction) (r : Record) (g : Option Grant) (e : Entry) (text : List ℕ)
      → uses_secret s r e g ≡ false → uses_encryption e ≡ true
      → entry_parameters d (without_secrets s r) g e text ≡ entry_parameters d r g e text
  unfolding entry_parameters
  entry_same d r g e text free asked =
      of_session r e g text
      (λ x. with_first_buffer (session_bytes d x (granted_value (without_secrets s r) g) e)
      text) (λ x. with_first_buffer (session_bytes d x (granted_value r g) e) text) free
      (λ x unused.
      ap (λ (value : List ℕ). with_first_buffer (session_bytes d x value e) text)
      (value_same r x e g unused asked))

  abbrev parameters_by : Direction → Record → List ℕ → Option Granted → List ℕ
  parameters_by d r text found =
      option_map_or (λ (g : Granted). entry_parameters d r g.1 g.0 text) found text

  parameters_next : (d : Direction) (r : Record) (g : Granted) (granted : List Granted)
      (text : List ℕ) (b : Bool) → uses_secret s r g.0 g.1 ≡ false → asks_for d g.0 ≡ b
      → session_parameters d (without_secrets s r) granted text
      ≡ session_parameters d r granted text
      → parameters_by d (without_secrets s r) text
      (cond b (Some g) (find (λ x. asks_for d x.0) granted))
      ≡ parameters_by d r text (cond b (Some g) (find (λ x. asks_for d x.0) granted))
  parameters_next d r g granted text true free is rest =
      entry_same d r g.1 g.0 text free (encryption_asked d g.0 is)
  parameters_next d r g granted text false free is rest = rest

  parameters_same : (d : Direction) (r : Record) (granted : List Granted) (text : List ℕ)
      → NoneUses s r granted → session_parameters d (without_secrets s r) granted text
      ≡ session_parameters d r granted text
  parameters_same d r [] text none = refl
  parameters_same d r (g ∷ granted) text none =
      parameters_next d r g granted text (asks_for d g.0) none.0
      refl (parameters_same d r granted text none.1)

  pub request_same : (r : Record) (c : Whole) (grants : List (Option Grant)) (locality : ℕ)
      (random : List ℕ) → NoneUses s r (granted_entries c grants)
      → request_in (without_secrets s r) c grants locality random
      ≡ request_in r c grants locality random
  request_same r c grants locality random none =
      ap (λ (text : List ℕ). let x : Request =
      record {
        handles = c.handles;
        locality = locality;
        parameters = text;
        random =
            random;
      } in x)
      (parameters_same direction.Decrypt r (granted_entries c grants) c.parameters none)

  -- ---- the answer to each entry

  session_answer_same : (r : Record) (hashed : HashedParts) (g : Option Grant) (e : Entry)
      (x : Session) → session_uses s r x e g ≡ false
      → session_answer (without_secrets s r) hashed g e x ≡ session_answer r hashed g e x
  unfolding session_answer answer_mac
  session_answer_same r hashed g e x free = rw (used_same s covers r x e g free) refl

  entry_answer_same : (r : Record) (hashed : HashedParts) (g : Option Grant) (e : Entry)
      → uses_secret s r e g ≡ false → entry_answer (without_secrets s r) hashed g e
      ≡ entry_answer r hashed g e
  unfolding entry_answer
  entry_answer_same r hashed g e free =
      of_session r e g password_answer (session_answer (without_secrets s r) hashed g e)
      (session_answer r hashed g e) free (λ x unused. session_answer_same r hashed g e x unused)

  entries_answer_same : (r : Record) (hashed : HashedParts) (granted : List Granted)
      → NoneUses s r granted → entries_answer (without_secrets s r) hashed granted
      ≡ entries_answer r hashed granted
  entries_answer_same r hashed [] none = refl
  entries_answer_same r hashed (g ∷ granted) none =
      ap (λ (text : List ℕ). text ++ entries_answer (without_secrets s r) hashed granted)
      (entry_answer_same r hashed g.1 g.0 none.0)
      ∙ ap (λ (text : List ℕ). entry_answer r hashed g.1 g.0 ++ text)
      (entries_answer_same r hashed granted none.1)

  -- ---- sessions after the answer

  restarted_kind : (r : Record) (e : Entry) (hash : HashAlg) (k : SessionType)
      → restarted_by k (without_secrets s r) e hash ≡ without_secrets s (restarted_by k r e hash)
  unfolding with_session_policy
  restarted_kind r e hash type.Hmac = refl
  restarted_kind r e hash type.Trial = refl
  restarted_kind r e hash type.Policy =
      ap (λ (xs : List (Option Session)). record (without_secrets s r) { sessions = xs })
      (changed_at_each (bare_session s) session_byte session_byte (λ x. refl)
      (λ x. with_policy x (starting hash)) (λ x. with_policy x (starting hash)) (λ x. refl)
      r.sessions e.session.number)

  restarted_same : (r : Record) (e : Entry) → entry_restarted (without_secrets s r) e
      ≡ without_secrets s (entry_restarted r e)
  unfolding entry_restarted
  restarted_same r e =
      ap (λ (found : Option Session). option_map_or
      (λ (x : Session). restarted_by x.kind (without_secrets s r) e x.hash) found
      (without_secrets s r)) (session_at_bare s r.sessions e.session) ∙ by (session_of r e)
    where
      by : (found : Option Session)
          → option_map_or (λ (x : Session). restarted_by x.kind (without_secrets s r) e x.hash)
          (option_map (bare_session s) found) (without_secrets s r)
          ≡ without_secrets s
          (option_map_or (λ (x : Session). restarted_by x.kind r e x.hash) found r)
      by None = refl
      by (Some x) = restarted_kind r e x.hash x.kind

  ended_one : (r : Record) (e : Entry) (g : Option Grant)
      → entry_ended (without_secrets s r) e g ≡ without_secrets s (entry_ended r e g)
  unfolding entry_ended slots_without_session
  ended_one r e g =
      ap (λ (xs : List (Option Session)). cond (not (continues_session e.attributes))
      (record (without_secrets s r) { sessions = xs })
      (cond (is_some g) (entry_restarted (without_secrets s r) e) (without_secrets s r)))
      (without_number_each (bare_session s) session_byte session_byte (λ x. refl) r.sessions
      e.session.number)
      ∙ ap (λ (x : Record). cond (not (continues_session e.attributes))
      (without_secrets s (record r { sessions = slots_without_session r.sessions e.session }))
      (cond (is_some g) x (without_secrets s r))) (restarted_same r e)
      ∙ ap (cond (not (continues_session e.attributes))
      (without_secrets s (record r { sessions = slots_without_session r.sessions e.session })))
      (chosen (without_secrets s) (is_some g) (entry_restarted r e) r)
      ∙ chosen (without_secrets s) (not (continues_session e.attributes))
      (record r { sessions = slots_without_session r.sessions e.session })
      (cond (is_some g) (entry_restarted r e) r)

  ended_same : (r : Record) (granted : List Granted)
      → entries_ended (without_secrets s r) granted ≡ without_secrets s (entries_ended r granted)
  ended_same r [] = refl
  ended_same r (g ∷ granted) = ap (λ (x : Record). entries_ended x granted) (ended_one r g.0 g.1)
      ∙ ended_same (entry_ended r g.0 g.1) granted

  -- ---- the answer

  abbrev bare_answered : Answered → Answered
  bare_answered x = record { response = x.response; after = without_secrets s x.after }

  abbrev answer_of_parts : Whole → Written → List ℕ → List ℕ → Record → Answered
  answer_of_parts c a text area after =
      record { response = success_text c.entries a.handle text area; after = after }

  abbrev answer_on : Whole → List (Option Grant) → Written → Record → Answered
  answer_on c grants a t =
      let granted : List Granted = granted_entries c grants in
      let text : List ℕ = encrypted_answer t granted a.parameters in
      answer_of_parts c a text (entries_answer t (OfResponse (code_number c.code) text) granted)
      (entries_ended t granted)

  answer_on_same : (c : Whole) (grants : List (Option Grant)) (a : Written) (r : Record)
      → NoneUses s r (granted_entries c grants)
      → answer_on c grants a (without_secrets s r) ≡ bare_answered (answer_on c grants a r)
  answer_on_same c grants a r none =
      let granted : List Granted = granted_entries c grants in
      let text : List ℕ = encrypted_answer r granted a.parameters in
      ap (λ (t : List ℕ). answer_of_parts c a t
      (entries_answer (without_secrets s r) (OfResponse (code_number c.code) t) granted)
      (entries_ended (without_secrets s r) granted))
      (parameters_same direction.Encrypt r granted a.parameters none)
      ∙ ap (λ (area : List ℕ). answer_of_parts c a text area
      (entries_ended (without_secrets s r) granted))
      (entries_answer_same r (OfResponse (code_number c.code) text) granted none)
      ∙ ap (answer_of_parts c a text
      (entries_answer r (OfResponse (code_number c.code) text) granted))
      (ended_same r granted)

  pub answer_same : (c : Whole) (grants : List (Option Grant)) (a : Written) (effect : Record)
      (random : List ℕ) → NoneUses s (entries_rolled effect c.entries (drop a.drawn random)).after
      (granted_entries c grants) → answer_to c grants a (without_secrets s effect) random
      ≡ bare_answered (answer_to c grants a effect random)
  unfolding answer_to
  answer_same c grants a effect random none =
      ap (λ (drawn : Drawn). answer_on c grants a drawn.after)
      (rolled_same effect c.entries (drop a.drawn random))
      ∙ answer_on_same c grants a (entries_rolled effect c.entries (drop a.drawn random)).after none
