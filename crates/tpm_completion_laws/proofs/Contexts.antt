-- The context of a session can be loaded only once, and only if it was saved since the last start
-- of the layer.
use Rattle.std.proofs.Common.{◌≡◌, ◌≢◌, ℕ, zero, suc, ◌<◌, ◌^◌, ◌==◌, ◌&&◌, Bool, true, false, List, length, take, drop, get_or, Result, Ok, Err, refl, sym, ap, subst, ◌∙◌, inl, inr, arith}
use Rattle.std.specs.Prelude.{is_some, not, slice_set, if◌then◌else◌}
use Rattle.std.specs.Int.{w32, w64, from_be_bytes, to_be_bytes}
use Rattle.std.specs.Str.{bytes_eq}
use Rattle.std.proofs.lemmas.Bool.{cases_lt}
use Rattle.std.proofs.lemmas.Bool.Decides.{nat_tests}
use Rattle.std.proofs.lemmas.List.{get_or-set_same, get_or_past, length-set}
use Rattle.std.proofs.lemmas.Nat.{from_be_bytes-to_be_bytes_8}
use Rattle.std.proofs.lemmas.Slice.Eq.{bytes_eq-Decides}
use Rattle.tpm_bytes.proofs.Fields.{ok_is}
use Rattle.tpm_bytes.specs.Reading.{◌>>=◌, bytes_at, number_at, refused_if, too_short}
use Rattle.tpm_bytes.specs.declared.cursor.Short.{Short}
use Rattle.tpm_record.specs.Record.{Record}
use Rattle.tpm_session.specs.Sessions.{session_at}
use Rattle.tpm_types_common.specs.Handle.{numbered_handle}
use Rattle.tpm_completion.specs.Context.{context_text, token_at}
use Rattle.tpm_completion.specs.Saving.{Reply, handle_given, loaded_by, place_named, refusal_reply, session_load_reply, session_loaded, with_session}
use Rattle.tpm_completion.specs.declared.completion.Completion.{Completion}
use Rattle.tpm_completion.specs.declared.context.Token.{Token}
use Rattle.tpm_completion_laws.specs.Contexts.{IsLoadedOnce, RefusesAnotherStart}

-- ---- a context is loaded once

suc_test : (n : ℕ) → (suc n == 0) ≡ false
suc_test n = grind (arith, nat_tests)

never_both : (there : Bool) (number : ℕ) → (there && (not (number == 0) && (number == 0))) ≡ false
never_both true zero = refl
never_both true (suc n) = ap (λ (b : Bool). not b && b) (suc_test n)
never_both false n = refl

set_then_read : (contexts : List ℕ) (place : ℕ) → get_or (slice_set contexts place 0) place 0 ≡ 0
set_then_read contexts place =
    elim (cases_lt place (length contexts)) [
      | inl within ↦ get_or-set_same contexts place 0 0 within
      | inr past ↦ get_or_past (slice_set contexts place 0) place 0
          (omega (arith, past, length-set contexts place 0))
    ]

-- the reply that loads a session, or refuses it
abbrev loaded_if : Bool → Completion → Token → Reply
loaded_if loads c token =
    if loads then handle_given (with_session c (place_named token.handle) 0) token.handle
    else refusal_reply c 0x1cb

loaded_no_more : (later : Record) (c : Completion) (token : Token)
    → session_loaded later (with_session c (place_named token.handle) 0) token
    ≡ refusal_reply (with_session c (place_named token.handle) 0) 0x1cb
loaded_no_more later c token =
    let place = place_named token.handle in
    let after = with_session c place 0 in
    let there = is_some (session_at later.sessions token.handle) in
    ap (λ (n : ℕ). loaded_if (there && (not (token.context == 0) && (token.context == n))) after
    token)
    (set_then_read c.sessions place)
    ∙ ap (λ (b : Bool). loaded_if b after token) (never_both there token.context)

session_once : (loads : Bool) (later : Record) (c : Completion) (token : Token)
    → loaded_if loads c token ≢ refusal_reply c 0x1cb
    → session_loaded later (loaded_if loads c token).after token
    ≡ refusal_reply (loaded_if loads c token).after 0x1cb
session_once true later c token accepted = loaded_no_more later c token
session_once false later c token accepted = absurd (accepted refl)

token_once : (r later : Record) (c : Completion) (token : Token)
    → session_loaded r c token ≢ refusal_reply c 0x1cb
    → session_loaded later (session_loaded r c token).after token
    ≡ refusal_reply (session_loaded r c token).after 0x1cb
token_once r later c token accepted = session_once _ later c token accepted

-- no reply of the layer changes the layer's start number
starts_if : (loads : Bool) (c : Completion) (token : Token)
    → (loaded_if loads c token).after.start ≡ c.start
starts_if true c token = refl
starts_if false c token = refl

token_starts : (r : Record) (c : Completion) (token : Token)
    → (session_loaded r c token).after.start ≡ c.start
token_starts r c token = starts_if _ c token

pub is_loaded_once : IsLoadedOnce
unfolding session_load_reply
is_loaded_once r later c context token is accepted =
    let first : session_load_reply r c context ≡ session_loaded r c token = ap (loaded_by r c) is in
    let allowed : session_loaded r c token ≢ refusal_reply c 0x1cb = λ e. accepted (first ∙ e) in
    let Once : Reply → Type 0 = λ reply. session_load_reply later reply.after context
    ≡ refusal_reply reply.after 0x1cb in
    subst Once (sym first)
    (ap (λ (start : ℕ). loaded_by later (session_loaded r c token).after (token_at start context))
    (token_starts r c token)
    ∙ ap (loaded_by later (session_loaded r c token).after) is
    ∙ token_once r later c token allowed)

-- ---- a context of another start

bound : {A B E : Type 0} (x : Result A E) (f : A → Result B E) (y : B) → (x >>= f) ≡ Ok y
    → (a : A) × (x ≡ Ok a) × (f a ≡ Ok y)
bound (Ok a) f y e = (a, refl, e)
bound (Err fault) f y e = absurd cc

not_refused : (b : Bool) (a : Unit {0}) → refused_if (not b) too_short ≡ Ok a → b ≡ true
not_refused true a e = refl
not_refused false a e = absurd cc

abbrev token_of : (context handle : ℕ) → Token
token_of context handle = record { context = context; handle = numbered_handle handle }

abbrev token_checked : (start : ℕ) (text : List ℕ) (token : Token) → Result Token Short
token_checked start text token =
    refused_if (not (bytes_eq text (context_text start token))) too_short >>= (λ same. Ok token)

abbrev handle_read : (start : ℕ) (text : List ℕ) (context : ℕ) (rest : List ℕ) → Result Token Short
handle_read start text context rest = number_at w32 rest
    >>= (λ handle. token_checked start text (token_of context handle.0))

abbrev between_read : (start : ℕ) (text : List ℕ) → (ℕ × List ℕ) → Result Token Short
between_read start text context = bytes_at 26 context.1
    >>= (λ between. handle_read start text context.0 between.1)

token_is : (start : ℕ) (text : List ℕ) (token : Token) → token_at start text ≡ Ok token
    → text ≡ context_text start token
unfolding token_at
token_is start text token e =
    let one = bound (number_at w64 text) (between_read start text) token e in
    let two = bound (bytes_at 26 one.0.1) (λ between. handle_read start text one.0.0 between.1)
    token one.2 in
    let three = bound (number_at w32 two.0.1)
    (λ handle. token_checked start text (token_of one.0.0 handle.0)) token two.2 in
    let read : Token = token_of one.0.0 three.0.0 in
    let four = bound (refused_if (not (bytes_eq text (context_text start read))) too_short)
    (λ same. Ok read) token three.2 in
    let same : text ≡ context_text start read =
    (bytes_eq-Decides text (context_text start read)).0 (not_refused _ four.0 four.1) in
    subst (λ (t : Token). text ≡ context_text start t) (ok_is {E = Short} read token four.2) same

start_told : (start : ℕ) (token : Token) → take 8 (drop 26 (context_text start token))
    ≡ to_be_bytes w64 start
unfolding context_text
start_told start token = refl

starts_same : (start other : ℕ) (token others : Token) → start < 2 ^ 64 → other < 2 ^ 64
    → context_text other others ≡ context_text start token → other ≡ start
starts_same start other token others small other_small e =
    sym (from_be_bytes-to_be_bytes_8 other other_small)
    ∙ ap (from_be_bytes w64) (sym (start_told other others)
    ∙ ap (λ (l : List ℕ). take 8 (drop 26 l)) e ∙ start_told start token)
    ∙ from_be_bytes-to_be_bytes_8 start small

refused_by : (r : Record) (c : Completion) (read : Result Token Short)
    → ((token : Token) → read ≡ Ok token → ⊥) → loaded_by r c read ≡ refusal_reply c 0x1df
refused_by r c (Ok token) none = absurd (none token refl)
refused_by r c (Err e) none = refl

pub refuses_another_start : RefusesAnotherStart
unfolding session_load_reply
refuses_another_start r c other token small other_small differs =
    refused_by r c (token_at c.start (context_text other token))
    (λ read e. differs
    (starts_same c.start other read token small other_small
    (token_is c.start (context_text other token) read e)))
