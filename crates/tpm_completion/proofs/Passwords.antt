-- The layer sends no command to the device for TPM2_SequenceUpdate and TPM2_SequenceComplete with a
-- password.
use Rattle.std.proofs.Common.{◌≡◌, ◌∙◌, Bool, true, false, cond, ℕ, List, [], ◌∷◌, Option, None, Result, Ok, Err, IfOk, ap, refl, subst, sym}
use Rattle.std.specs.Int.{w8, w32}
use Rattle.std.specs.Prelude.{◌==◌, nat_lt, ok_or}
use Rattle.tpm_auth.specs.Entries.{is_password}
use Rattle.tpm_bytes.specs.Reading.{◌>>=◌, Reads, bytes_at, number_at, or_fault, refused_if, sized_at}
use Rattle.tpm_bytes.specs.declared.cursor.Short.{Short}
use Rattle.tpm_record.specs.Record.{Record}
use Rattle.tpm_step.proofs.rows.Binding.{ok_at, ok_bind, ok_bind_is}
use Rattle.tpm_types_common.specs.Handle.{numbered_handle, password_handle}
use Rattle.tpm_types_common.specs.Refused.{checked_result}
use Rattle.tpm_types_common.specs.Rc.{plain}
use Rattle.tpm_types_common.specs.declared.check.Check.TheVariants as check
use Rattle.tpm_types_common.specs.declared.rc.Rc.{Rc}
use Rattle.tpm_types_common.specs.declared.rc.ResponseCode.TheVariants as code
use Rattle.tpm_types_common.specs.declared.refused.Refused.{Refused}
use Rattle.tpm_types_command.specs.AuthArea.{area_at, entries_in}
use Rattle.tpm_types_command.specs.AuthEntry.{Entry, entry_at}
use Rattle.tpm_completion.specs.Authorizing.{absent_refused, entries_at, first_passes, handle_at, handle_refused, only_entry, sequence_named}
use Rattle.tpm_completion.specs.Command.{Command, authorized_command}
use Rattle.tpm_completion.specs.Sending.{accepted_only, sent_by, sent_for, sent_in, unless_password}
use Rattle.tpm_completion.specs.SequenceRows.{Named, named_in}
use Rattle.tpm_completion.specs.Sequences.{in_slot}
use Rattle.tpm_completion.specs.declared.completion.Completion.{Completion}
use Rattle.tpm_completion.specs.declared.sending.Sent.{Sent}

-- if `x` succeeds with a value, a property of `x >>= f` has to hold only for this value
bind_at : {A B E : Type 0} (Q : B → Type 0) (x : Result A E) (a : A) (f : A → Result B E) → x ≡ Ok a
    → IfOk (f a) Q → IfOk (x >>= f) Q
bind_at Q x a f is holds = subst (λ y. IfOk (y >>= f) Q) (sym is) holds

-- The first entry, if there is one, names this session.
abbrev StartsWith : (session : ℕ) → List Entry → Type 0
StartsWith session [] = Unit {0}
StartsWith session (entry ∷ entries) = entry.session.number ≡ session

-- the session that an entry names is the number at the start of its bytes
entry_names : (area after : List ℕ) (session : ℕ) → number_at w32 area ≡ Ok (session, after)
    → IfOk (entry_at area) (λ entry. entry.0.session.number ≡ session)
unfolding entry_at
entry_names area after session is =
    let Q = λ (entry : Entry × List ℕ). entry.0.session.number ≡ session in
    let fault = plain code.Authsize in
    bind_at Q (or_fault (number_at w32 area) fault) (session, after) _
    (ap (λ (r : Result (ℕ × List ℕ) Short). or_fault r fault) is)
    (ok_bind Q (or_fault (sized_at 0xffff after) fault) _ (λ nonce.
    ok_bind Q (or_fault (number_at w8 nonce.1) fault) _ (λ attributes.
    ok_bind Q (or_fault (sized_at 0xffff attributes.1) fault) _ (λ hmac. refl))))

entries_name : (area after : List ℕ) (session : ℕ) → number_at w32 area ≡ Ok (session, after)
    → IfOk (entries_in 3 area) (StartsWith session)
entries_name [] after session is = tt
entries_name (byte ∷ bytes) after session is =
    ok_bind_is (StartsWith session) (entry_at (byte ∷ bytes)) _ (λ entry e.
    ok_bind (StartsWith session) (entries_in 2 entry.1) _ (λ others.
    ok_at (λ first. first.0.session.number ≡ session) (entry_at (byte ∷ bytes)) entry
    (entry_names (byte ∷ bytes) after session is) e))

-- the first entry of an authorization area names the session whose number follows the area's size
area_names : (text behind area rest after : List ℕ) (size session : ℕ)
    → number_at w32 text ≡ Ok (size, behind) → bytes_at size behind ≡ Ok (area, rest)
    → number_at w32 area ≡ Ok (session, after)
    → IfOk (area_at text) (λ entries. StartsWith session entries.0)
unfolding area_at
area_names text behind area rest after size session sized taken is =
    let Q = λ (entries : List Entry × List ℕ). StartsWith session entries.0 in
    let fault = plain code.Authsize in
    bind_at Q (or_fault (number_at w32 text) fault) (size, behind) _
    (ap (λ (r : Result (ℕ × List ℕ) Short). or_fault r fault) sized)
    (ok_bind Q (refused_if (nat_lt size 9) fault) _ (λ nine.
    bind_at Q (or_fault (bytes_at size behind) fault) (area, rest) _
    (ap (λ (r : Result (List ℕ × List ℕ) Short). or_fault r fault) taken)
    (ok_bind_is Q (entries_in 3 area) _ (λ entries e.
    ok_at (StartsWith session) (entries_in 3 area) entries
    (entries_name area after session is) e))))

only_names : (session : ℕ) (entries : List Entry) → StartsWith session entries
    → IfOk (only_entry entries) (λ entry. entry.session.number ≡ session)
unfolding only_entry
only_names session [] names = tt
only_names session (entry ∷ []) names =
    ok_bind (λ (e : Entry). e.session.number ≡ session) (first_passes entry) _ (λ valid. names)
only_names session (entry ∷ next ∷ more) names =
    ok_bind (λ (e : Entry). e.session.number ≡ session) (first_passes entry) _ (λ valid. tt)

-- the entries of an authorization area, as the layer reads them
entries_named : (text : List ℕ) (session : ℕ)
    → IfOk (area_at text) (λ entries. StartsWith session entries.0)
    → IfOk (entries_at text) (λ entries. StartsWith session entries.0)
unfolding entries_at
entries_named text session holds = kept (area_at text) holds where
  kept : (x : Result (List Entry × List ℕ) Rc) → IfOk x (λ entries. StartsWith session entries.0)
      → IfOk (checked_result check.Entries x) (λ entries. StartsWith session entries.0)
  kept (Ok entries) holds = holds
  kept (Err fault) holds = tt

handle_read : (text behind : List ℕ) (handle : ℕ) → number_at w32 text ≡ Ok (handle, behind)
    → handle_at 1 text ≡ Ok (numbered_handle handle, behind)
unfolding handle_at
handle_read text behind handle is =
    ap (λ (r : Result (ℕ × List ℕ) Short).
    or_fault r (handle_refused 1 code.Insufficient) >>= λ number.
    Ok (numbered_handle number.0, number.1)) is

-- the only entry of a command with one handle names the session at the start of its area
names_session : (c : Completion) (text entries area behind rest after : List ℕ)
    (handle size session : ℕ) → number_at w32 text ≡ Ok (handle, entries)
    → number_at w32 entries ≡ Ok (size, behind) → bytes_at size behind ≡ Ok (area, rest)
    → number_at w32 area ≡ Ok (session, after)
    → IfOk (named_in c text) (λ named. named.entry.session.number ≡ session)
unfolding named_in
names_session c text entries area behind rest after handle size session first sized taken is =
    let Q = λ (named : Named). named.entry.session.number ≡ session in
    let reference = code.ReferenceH0 in
    bind_at Q (handle_at 1 text) (numbered_handle handle, entries) _
    (handle_read text entries handle first)
    (ok_bind Q (sequence_named c 1 reference (numbered_handle handle)) _ (λ slot.
    ok_bind Q (ok_or (in_slot c slot) (absent_refused reference)) _ (λ object.
    ok_bind_is Q (entries_at entries) _ (λ all e. ok_bind_is Q (only_entry all.0) _ (λ entry f.
    let starts = ok_at (λ x. StartsWith session x.0) (entries_at entries) all
    (entries_named entries session
    (area_names entries behind area rest after size session sized taken is)) e in
    ok_at (λ x. x.session.number ≡ session) (only_entry all.0) entry
    (only_names session all.0 starts) f)))))

-- the same as `names_session`, for the result of reading the session
pub session_read : (text entries area behind rest after : List ℕ) (handle size : ℕ)
    (read : Result ℕ Short) → number_at w32 text ≡ Ok (handle, entries)
    → number_at w32 entries ≡ Ok (size, behind) → bytes_at size behind ≡ Ok (area, rest)
    → Reads (λ n. n) (number_at w32 area) area read after
    → IfOk read (λ session. (c : Completion)
    → IfOk (named_in c text) (λ named. named.entry.session.number ≡ session))
session_read text entries area behind rest after handle size (Ok session) first sized taken is =
    λ c.
    names_session c text entries area behind rest after handle size session first sized taken is
session_read text entries area behind rest after handle size (Err fault) first sized taken is = tt

-- an entry that names TPM_RS_PW contains a password
pub by_password : (session : ℕ) (x : Result Named Refused)
    → IfOk x (λ named. named.entry.session.number ≡ session) → session ≡ password_handle.number
    → IfOk x (λ named. is_password named.entry ≡ true)
by_password session (Ok named) names is = ap (λ n. n == password_handle.number) (names ∙ is)
by_password session (Err refused) names is = tt

-- the layer sends nothing for a command with a password, nor for one that it refuses
pub none_sent : (sends : Named → Result Sent Refused) (x : Result Named Refused)
    → IfOk x (λ named. is_password named.entry ≡ true)
    → accepted_only (unless_password sends x) ≡ None
none_sent sends (Ok named) is = rw is refl
none_sent sends (Err refused) is = refl

-- if one of two options is None, and the other is None too, the chosen option is None
none_if : (b : Bool) (x : Option Sent) → x ≡ None → cond b x None ≡ None
none_if true x is = is
none_if false x is = refl

none_sent_for : (r : Record) (c : Completion) (buffer response : List ℕ)
    → sent_in r c (authorized_command buffer) ≡ None → sent_for r c buffer response ≡ None
unfolding sent_for
none_sent_for r c buffer response is = none_if _ _ is

-- the layer sends nothing for a buffer that is not a command with sessions
pub none_read : (r : Record) (c : Completion) (buffer response : List ℕ) (fault : Short)
    → authorized_command buffer ≡ Err fault → sent_for r c buffer response ≡ None
none_read r c buffer response fault is =
    none_sent_for r c buffer response (ap (sent_in r c) is)

-- the layer sends nothing for a command with sessions for which `sent_by` sends nothing
pub none_sent_in : (r : Record) (c : Completion) (buffer response : List ℕ) (command : Command)
    → authorized_command buffer ≡ Ok command
    → accepted_only (sent_by r c command.code command.parameters) ≡ None
    → sent_for r c buffer response ≡ None
none_sent_in r c buffer response command is none =
    none_sent_for r c buffer response (ap (sent_in r c) is ∙ none)
