-- Each assertion of a session was made by an accepted command, and the session has had the
-- assertion ever since.
use Rattle.std.proofs.Common.{◌≡◌, ◌⊎◌, ◌≤◌, ℕ, arith, List, [], ◌∷◌, append_assoc, length, take, Some, Result, Ok, Err, slice_get, refl, ap, sym, subst, ◌∙◌, inl, inr}
use Rattle.tpm_policy.specs.Assertion.{Assertion}
use Rattle.tpm_policy_meaning.specs.Asserted.{IsAmong}
use Rattle.tpm_types_common.specs.declared.handle.Handle.{Handle}
use Rattle.tpm_types_common.specs.declared.refused.Refused.{Refused}
use Rattle.tpm_commands.specs.CommandCode.{authorized_handles, shape_of}
use Rattle.tpm_commands.specs.declared.command_code.CommandCode.{CommandCode as Code}
use Rattle.tpm_commands.specs.declared.command_code.CommandCode.TheVariants as command
use Rattle.tpm_actions_policy.specs.Assertions.{session_handle}
use Rattle.tpm_step.specs.uses.AcceptedAssertions.{AllAskForTheirHandles}
use Rattle.tpm_step.specs.uses.AssertedBy.{IsAssertedBy, IsFirstAuthorized, Stands}
use Rattle.tpm_step.specs.uses.EntryHmacs.{AllShowHmacs, used_in}
use Rattle.tpm_step.specs.uses.Grounds.{AllHaveGrounds, UsesHaveGrounds}
use Rattle.tpm_step.specs.history.History.{AcceptedCommand, Done, History, ObjectPlaced, PastEvent, PowerCycled}
use Rattle.tpm_step.specs.history.Policies.{assertion_by, with_assertion}
use Rattle.tpm_step.specs.history.Sessions.{LiveSession, rolled_by, sessions_of}
use Rattle.tpm_step.proofs.history.LivingOn.{Asserted, Begun, Came, Stayed, entries_kept, row_came}

-- ---- the first handle of an accepted command was authorized

abbrev AsksForItsHandles : AcceptedCommand → Type 0
AsksForItsHandles c = c.request.handles ≡ c.command.handles

abbrev IsFirst : List Handle → Type 0
IsFirst handles = (handle : Handle) × (slice_get (take 1 handles) 0 ≡ Some handle)

first_of : (handles : List Handle) (session : Handle) (code : Code) → (code ≡ command.PolicySecret)
    ⊎ (code ≡ command.PolicyNv) → session_handle code handles ≡ Ok session → IsFirst handles
first_of [] session code (inl is) names =
    absurd (let none = ap (λ (c : Code). session_handle c []) (sym is) ∙ names in let never : ⊥ =
    cc in never)
first_of [] session code (inr is) names =
    absurd (let none = ap (λ (c : Code). session_handle c []) (sym is) ∙ names in let never : ⊥ =
    cc in never)
first_of (handle ∷ handles) session code either names = (handle, refl)

one_authorized : (code : Code) → (code ≡ command.PolicySecret) ⊎ (code ≡ command.PolicyNv)
    → authorized_handles code ≡ 1
unfolding shape_of
one_authorized code (inl is) = ap authorized_handles is
one_authorized code (inr is) = ap authorized_handles is

pub first_authorized : (history : History) (c : AcceptedCommand) (session : Handle)
    → (c.command.code ≡ command.PolicySecret) ⊎ (c.command.code ≡ command.PolicyNv)
    → session_handle c.command.code c.request.handles ≡ Ok session → AsksForItsHandles c
    → UsesHaveGrounds history c → IsFirstAuthorized history c
first_authorized history c session either names asks grounds =
    let first : IsFirst c.command.handles =
    subst IsFirst asks (first_of c.request.handles session c.command.code either names) in
    let used : used_in c.command 0 ≡ Some first.0 =
    ap (λ (n : ℕ). slice_get (take n c.command.handles) 0)
    (one_authorized c.command.code either) ∙ first.1 in
    let (entry, given, ground) = grounds 0 first.0 used in
    record { handle = first.0; used = used; entry = entry; given = given; ground = ground }

-- ---- after one more event

-- An accepted command made this assertion. Each handle that the command used was authorized.
pub record HasOrigin (history : History) (handle : Handle) (one : Assertion) : Type 0 where
  pub asserted : IsAssertedBy history handle one
  pub grounds : UsesHaveGrounds asserted.before asserted.command
  pub asks : AsksForItsHandles asserted.command

later_origin : (event : PastEvent) (history : History) (handle : Handle) (one : Assertion)
    → Stands one handle (event ∷ history) → HasOrigin history handle one
    → HasOrigin (event ∷ history) handle one
later_origin event history handle one stands origin =
    let by = origin.asserted in
    record {
      asserted = record {
        command = by.command;
        before = by.before;
        since = event ∷ by.since;
        past = ap (λ (h : History). event ∷ h) by.past;
        session = by.session;
        lives = by.lives;
        names = by.names;
        asserts = by.asserts;
        stands = (
          subst (λ (h : History). Stands one handle (event ∷ h))
              (by.past ∙ sym (append_assoc by.since (Done by.command ∷ []) by.before)) stands,
          by.stands,
        );
      };
      grounds = origin.grounds;
      asks = origin.asks;
    }

-- All assertions of this session were made by accepted commands, and each handle that these
-- commands used was authorized.
abbrev pub HaveOrigins : History → Handle → LiveSession → Type 0
HaveOrigins history handle s = (one : Assertion) → IsAmong one s.assertions
    → HasOrigin history handle one

module _ (c : AcceptedCommand) (history : History) (handle : Handle) (new : LiveSession)
    (lives : sessions_of (Done c ∷ history) handle ≡ Some new) (grounds : UsesHaveGrounds history c)
    (asks : AsksForItsHandles c) (earlier : (s : LiveSession) → sessions_of history handle ≡ Some s
    → HaveOrigins history handle s) where
  abbrev Origin : Assertion → Type 0
  Origin one = HasOrigin (Done c ∷ history) handle one

  later : (one : Assertion) → IsAmong one new.assertions → HasOrigin history handle one → Origin one
  later one among origin = later_origin (Done c) history handle one (new, lives, among) origin

  -- If the command itself makes an assertion, the command is the assertion's origin.
  itself : (old : LiveSession) (one : Assertion) → sessions_of history handle ≡ Some old
      → session_handle c.command.code c.request.handles ≡ Ok handle
      → assertion_by c.command.code c history old.hash old.nonce_tpm ≡ Ok one
      → IsAmong one new.assertions → Origin one
  itself old one lived names asserts among = record {
    asserted = record {
      command = c;
      before = history;
      since = [];
      past = refl;
      session = old;
      lives = lived;
      names = names;
      asserts = asserts;
      stands = ((new, lives, among), tt);
    };
    grounds = grounds;
    asks = asks;
  }

  asserted_origin : (old : LiveSession) (x : Result Assertion Refused) (one : Assertion)
      → sessions_of history handle ≡ Some old
      → session_handle c.command.code c.request.handles ≡ Ok handle
      → assertion_by c.command.code c history old.hash old.nonce_tpm ≡ x
      → IsAmong one new.assertions → IsAmong one (with_assertion x old.assertions) → Origin one
  asserted_origin old (Err e) one lived names asserts there among =
      later one there (earlier old lived one among)
  asserted_origin old (Ok told) one lived names asserts there (inr among) =
      later one there (earlier old lived one among)
  asserted_origin old (Ok told) one lived names asserts there (inl same) =
      itself old one lived names
      (asserts ∙ ap (λ (y : Assertion). let it : Result Assertion Refused = Ok y in it)
      (sym same)) there

  came_origin : (mid : LiveSession)
      → Came c.command.code c history (sessions_of history handle) handle mid → (one : Assertion)
      → IsAmong one new.assertions → IsAmong one mid.assertions → Origin one
  came_origin mid (Begun begun none) one there among = absurd (subst (IsAmong one) none among)
  came_origin mid (Stayed was) one there among = by was.0 was.1 was.2.asserted
    where
      by : (old : LiveSession) → sessions_of history handle ≡ Some old
          → (mid.assertions ≡ old.assertions) ⊎ (mid.assertions ≡ []) → Origin one
      by old lived (inr none) = absurd (subst (IsAmong one) none among)
      by old lived (inl same) =
          later one there (earlier old lived one (subst (IsAmong one) same among))
  came_origin mid (Asserted old lived it_does names made) one there among =
      asserted_origin old (assertion_by c.command.code c history old.hash old.nonce_tpm) one lived
      names refl there
      (subst (IsAmong one) (ap (λ (s : LiveSession). s.assertions) (sym made)) among)

  done_origins : 1 ≤ length (rolled_by c history (sessions_of history)).left
      → HaveOrigins (Done c ∷ history) handle new
  done_origins some one among =
      let (mid, was, keeps) = entries_kept c history some handle new lives in
      by mid (row_came c history (sessions_of history) handle mid c.command.code was) keeps.asserted
    where
      by : (mid : LiveSession) → Came c.command.code c history (sessions_of history handle) handle
          mid → (new.assertions ≡ mid.assertions) ⊎ (new.assertions ≡ []) → Origin one
      by mid came (inr none) = absurd (subst (IsAmong one) none among)
      by mid came (inl same) = came_origin mid came one among (subst (IsAmong one) same among)

pub have_origins : (history : History) → AllShowHmacs history → AllHaveGrounds history
    → AllAskForTheirHandles history → (handle : Handle) (s : LiveSession)
    → sessions_of history handle ≡ Some s → HaveOrigins history handle s
have_origins [] shows grounds asked handle s lives = absurd cc
have_origins (PowerCycled ∷ history) shows grounds asked handle s lives = absurd cc
have_origins (ObjectPlaced at object ∷ history) shows grounds asked handle s lives = λ one among.
    later_origin (ObjectPlaced at object) history handle one (s, lives, among)
    (have_origins history shows grounds asked handle s lives one among)
have_origins (Done c ∷ history) shows grounds asked handle s lives =
    done_origins c history handle s lives grounds.0 asked.0
    (have_origins history shows.1 grounds.1 asked.1 handle) (omega (arith, shows.0.left))
