-- In a replay, the session has the same nonce twice, or two different messages have the same HMAC.
use Rattle.std.proofs.Common.{◌≡◌, ◌≢◌, ◌⊎◌, ℕ, ◌+◌, ◌≤◌, arith, Bool, true, false, List, [], ◌∷◌, ◌++◌, append_assoc, length, length-append, take, drop, Option, Some, None, slice_get, refl, ap, sym, subst, ◌∙◌, inl, inr}
use Rattle.std.specs.Str.{bytes_eq}
use Rattle.std.proofs.lemmas.Bool.{false≢true}
use Rattle.std.proofs.lemmas.List.{drop_at, take_at}
use Rattle.std.proofs.lemmas.Option.{same_Some}
use Rattle.std.proofs.lemmas.Slice.Eq.{bytes_eq-Decides}
use Rattle.tpm_bytes.proofs.Fields.{ok_is}
use Rattle.tpm_mac.specs.Digest.{digest_size}
use Rattle.tpm_mac.specs.declared.algorithm.HashAlg.{HashAlg}
use Rattle.tpm_mac.proofs.DigestSize.{length-hash_of}
use Rattle.tpm_session.specs.ParameterHash.{command_hash_of}
use Rattle.tpm_types_common.specs.declared.handle.Handle.{Handle}
use Rattle.tpm_types_common.specs.declared.rc.Rc.{Rc}
use Rattle.tpm_types_command.specs.AuthEntry.{Entry}
use Rattle.tpm_types_command.specs.Command.{Whole}
use Rattle.tpm_auth.specs.Entries.{decrypts}
use Rattle.tpm_auth.specs.SessionGrant.{only_encrypts, other_entries}
use Rattle.tpm_policy_meaning.specs.Asserted.{IsAmong}
use Rattle.tpm_step.specs.uses.EntryHmacs.{AllShowHmacs, HasHmac, ShowsHmacs, cp_hash_in, hmac_in, nonce_where, text_in}
use Rattle.tpm_step.specs.history.History.{AcceptedCommand, Done, History, ObjectPlaced, PastEvent, PowerCycled}
use Rattle.tpm_step.specs.uses.Replays.{HasNonceAgain, HaveOneHmac, IsReplay, LivesThrough, Repeats, Replay, ReplaysRepeat, before_second, first_text, second_text, starts}
use Rattle.tpm_step.specs.history.Sessions.{LiveSession, rolled_by, sessions_of}
use Rattle.tpm_step.proofs.history.LivingOn.{Asserted, Begun, Came, Continues, Stayed, Was, continues_self, continues_then, entries_kept, entries_renewed, row_came}

-- ---- a session before and after an event

came_continues : (c : AcceptedCommand) (history : History) (handle : Handle) (new : LiveSession)
    → starts (Done c) handle ≡ false
    → Came c.command.code c history (sessions_of history handle) handle new
    → Was Continues (sessions_of history handle) new
came_continues c history handle new unstarted (Begun begun none) =
    absurd (false≢true (sym unstarted ∙ begun))
came_continues c history handle new unstarted (Stayed was) = (was.0, was.1, was.2.continues)
came_continues c history handle new unstarted (Asserted old lived it_does names made) = (
  old,
  lived,
  subst (Continues old) made
      (record {
        kind = refl;
        hash = refl;
        size = refl;
        latest = inl refl;
        earlier =
            λ nonce among. among;
      }),
)

some_left : (history : History) (c : AcceptedCommand) → ShowsHmacs history c
    → 1 ≤ length (rolled_by c history (sessions_of history)).left
some_left history c shows = omega (arith, shows.left)

done_continues : (c : AcceptedCommand) (history : History) (handle : Handle) (new : LiveSession)
    → ShowsHmacs history c → starts (Done c) handle ≡ false
    → sessions_of (Done c ∷ history) handle ≡ Some new
    → Was Continues (sessions_of history handle) new
done_continues c history handle new shows unstarted lives =
    let (mid, was, keeps) = entries_kept c history (some_left history c shows) handle new lives in
    let (old, lived, continues) =
    came_continues c history handle mid unstarted
    (row_came c history (sessions_of history) handle mid c.command.code was) in
    (old, lived, continues_then old mid new continues keeps.continues)

-- if an entry of a command names a session, the command gives this session a new nonce, and the old
-- nonce becomes one of the session's earlier nonces
done_renews : (c : AcceptedCommand) (history : History) (place : ℕ) (e : Entry)
    (old new : LiveSession) → ShowsHmacs history c → starts (Done c) e.session ≡ false
    → slice_get c.command.entries place ≡ Some e → sessions_of history e.session ≡ Some old
    → sessions_of (Done c ∷ history) e.session ≡ Some new
    → Continues old new × IsAmong old.nonce_tpm new.earlier_nonces
done_renews c history place e old new shows unstarted entry before after =
    let (mid, was, keeps, among) =
    entries_renewed c history (some_left history c shows) e.session new after place e entry
    refl in
    let (first, lived, continues) =
    came_continues c history e.session mid unstarted
    (row_came c history (sessions_of history) e.session mid c.command.code was) in
    let one : first ≡ old = same_Some first old (sym lived ∙ before) in
    let to_mid : Continues old mid = subst (λ (s : LiveSession). Continues s mid) one continues in (
      continues_then old mid new to_mid keeps.continues,
      by mid to_mid.latest keeps.continues.earlier among,
    )
  where
    by : (mid : LiveSession) → IsAmong old.nonce_tpm (mid.nonce_tpm ∷ mid.earlier_nonces)
        → ((nonce : List ℕ) → IsAmong nonce mid.earlier_nonces → IsAmong nonce new.earlier_nonces)
        → IsAmong mid.nonce_tpm new.earlier_nonces → IsAmong old.nonce_tpm new.earlier_nonces
    by mid (inl same) earlier among =
        subst (λ (nonce : List ℕ). IsAmong nonce new.earlier_nonces) (sym same) among
    by mid (inr had) earlier among = earlier old.nonce_tpm had

-- ---- a session before and after a sequence of events

lived_on : (handle : Handle) (events before : History) (new : LiveSession)
    → AllShowHmacs (events ++ before) → LivesThrough handle events before
    → sessions_of (events ++ before) handle ≡ Some new
    → Was Continues (sessions_of before handle) new
lived_on handle [] before new shows through lives = (new, lives, continues_self new)
lived_on handle (Done c ∷ events) before new shows through lives =
    let (mid, was, later) = done_continues c (events ++ before) handle new shows.0 through.0
    lives in
    let (old, lived, continues) = lived_on handle events before mid shows.1 through.2 was in
    (old, lived, continues_then old mid new continues later)
lived_on handle (PowerCycled ∷ events) before new shows through lives = absurd cc
lived_on handle (ObjectPlaced at object ∷ events) before new shows through lives =
    lived_on handle events before new shows through.2 lives

there_is : (found : Option LiveSession) → found ≢ None → (s : LiveSession) × (found ≡ Some s)
there_is (Some s) some = (s, refl)
there_is None some = absurd (some refl)

first_apart : (handle : Handle) (between : History) (first : PastEvent) (before : History)
    → LivesThrough handle (between ++ first ∷ []) before → (starts first handle ≡ false)
    × (sessions_of (first ∷ before) handle ≢ None) × LivesThrough handle between (first ∷ before)
first_apart handle [] first before through = (through.0, through.1, tt)
first_apart handle (event ∷ between) first before through =
    let (unstarted, some, rest) = first_apart handle between first before through.2 in (
      unstarted,
      some,
      (
        through.0,
        subst (λ (h : History). sessions_of (event ∷ h) handle ≢ None)
            (append_assoc between (first ∷ []) before) through.1,
        rest,
      ),
    )

lives_last : (handle : Handle) (events before : History) → sessions_of before handle ≢ None
    → LivesThrough handle events before → sessions_of (events ++ before) handle ≢ None
lives_last handle [] before some through = some
lives_last handle (event ∷ events) before some through = through.1

-- ---- the messages of HMACs

both_parts : (a b c d : List ℕ) → length a ≡ length c → a ++ b ≡ c ++ d → (a ≡ c) × (b ≡ d)
both_parts a b c d same is = (
  sym (take_at a b (length a) refl) ∙ ap (take (length a)) is ∙ take_at c d (length a) (sym same),
  sym (drop_at a b (length a) refl) ∙ ap (drop (length a)) is ∙ drop_at c d (length a) (sym same),
)

spread : (front decrypt encrypt attributes : List ℕ)
    → front ++ decrypt ++ encrypt ++ attributes ≡ front ++ (decrypt ++ (encrypt ++ attributes))
spread front decrypt encrypt attributes = append_assoc (front ++ decrypt) encrypt attributes
    ∙ append_assoc front decrypt (encrypt ++ attributes)

-- Two HMAC messages with hashes and nonces of the same sizes, and with the same nonceCaller, are
-- equal only if their nonceTPMs are equal.
nonce_alone : (hash other caller nonce again : List ℕ) (d e a d2 e2 a2 : List ℕ)
    → length hash ≡ length other → length nonce ≡ length again
    → hash ++ caller ++ nonce ++ d ++ e ++ a ≡ other ++ caller ++ again ++ d2 ++ e2 ++ a2
    → nonce ≡ again
nonce_alone hash other caller nonce again d e a d2 e2 a2 hashes nonces is =
    let heads : length (hash ++ caller) ≡ length (other ++ caller) =
    omega (arith, length-append hash caller, length-append other caller, hashes) in
    let fronts : length (hash ++ caller ++ nonce) ≡ length (other ++ caller ++ again) =
    omega (
      arith,
      length-append (hash ++ caller) nonce,
      length-append (other ++ caller) again,
      heads,
      nonces,
    ) in
    let whole = both_parts (hash ++ caller ++ nonce) (d ++ (e ++ a)) (other ++ caller ++ again)
    (d2 ++ (e2 ++ a2)) fronts
    (sym (spread (hash ++ caller ++ nonce) d e a) ∙ is
    ∙ spread (other ++ caller ++ again) d2 e2 a2) in
    (both_parts (hash ++ caller) nonce (other ++ caller) again heads whole.0).1

hash_size : (c : AcceptedCommand) (hash : HashAlg) → length (cp_hash_in c hash) ≡ digest_size hash
unfolding command_hash_of
hash_size c hash = length-hash_of hash _

text_nonce : (before after : History) (first second : AcceptedCommand) (place : ℕ) (e : Entry)
    (s t : LiveSession) → t.hash ≡ s.hash → length t.nonce_tpm ≡ length s.nonce_tpm
    → text_in before first place e s ≡ text_in after second place e t → s.nonce_tpm ≡ t.nonce_tpm
unfolding text_in
text_nonce before after first second place e s t hash size is =
    nonce_alone (cp_hash_in first s.hash) (cp_hash_in second t.hash) e.nonce s.nonce_tpm t.nonce_tpm
    (nonce_where before decrypts (other_entries first.command (place + 1)))
    (nonce_where before only_encrypts (other_entries first.command (place + 1)))
    (e.attributes.octet ∷ [])
    (nonce_where after decrypts (other_entries second.command (place + 1)))
    (nonce_where after only_encrypts (other_entries second.command (place + 1)))
    (e.attributes.octet ∷ [])
    (hash_size first s.hash ∙ ap digest_size (sym hash) ∙ sym (hash_size second t.hash)) (sym size)
    is

-- ---- replays

shows_before : (events history : History) → AllShowHmacs (events ++ history) → AllShowHmacs history
shows_before [] history shows = shows
shows_before (Done c ∷ events) history shows = shows_before events history shows.1
shows_before (PowerCycled ∷ events) history shows = shows_before events history shows
shows_before (ObjectPlaced at object ∷ events) history shows = shows_before events history shows

hmac_is : (history : History) (c : AcceptedCommand) (place : ℕ) (e : Entry) (s : LiveSession)
    → e.hmac ≢ [] → HasHmac history c place e s → e.hmac ≡ hmac_in history c place e s
hmac_is history c place e s some (inl is) = is
hmac_is history c place e s some (inr empty) = absurd (some empty.1)

module _ (replay : Replay) (holds : IsReplay replay)
    (shows : AllShowHmacs (Done replay.second ∷ before_second replay)) where
  shows_first : ShowsHmacs replay.before replay.first
  shows_first = (shows_before replay.between (Done replay.first ∷ replay.before) shows.1).0

  entry_again : slice_get replay.second.command.entries replay.place ≡ Some replay.entry
  entry_again =
      let spelled = ok_is {E = Rc} (replay.second.command, []) (replay.first.command, [])
      (sym holds.spelled_second ∙ holds.spelled_first) in
      let same : replay.second.command ≡ replay.first.command =
      ap (λ (x : Whole × List ℕ). x.0) spelled in
      ap (λ (c : Whole). slice_get c.entries replay.place) same ∙ holds.entry

  -- At the second command, the session has the same type, hash and size of nonces as at the first
  -- command. The nonce of the first command is among the session's earlier nonces.
  abbrev IsLater : LiveSession → Type 0
  IsLater t = (sessions_of (before_second replay) replay.entry.session ≡ Some t)
      × Continues replay.session t × IsAmong replay.session.nonce_tpm t.earlier_nonces

  later_one : (t : LiveSession) × IsLater t
  later_one =
      let (unstarted, some, through) =
      first_apart replay.entry.session replay.between (Done replay.first) replay.before
      holds.lives_on in
      let (t, lives) = there_is (sessions_of (before_second replay) replay.entry.session)
      (lives_last replay.entry.session replay.between (Done replay.first ∷ replay.before) some
      through) in
      let (mid, was, later) =
      lived_on replay.entry.session replay.between (Done replay.first ∷ replay.before) t shows.1
      through lives in
      let (continues, among) =
      done_renews replay.first replay.before replay.place replay.entry replay.session mid
      shows_first unstarted holds.entry holds.lives was in (
        t,
        (
          lives,
          continues_then replay.session mid t continues later,
          later.earlier replay.session.nonce_tpm among,
        ),
      )

  repeats : (t : LiveSession) → IsLater t → (same : Bool)
      → bytes_eq replay.session.nonce_tpm t.nonce_tpm ≡ same → HasNonceAgain replay.session t
      ⊎ HaveOneHmac replay t
  repeats t (lives, continues, among) true is =
      let one : replay.session.nonce_tpm ≡ t.nonce_tpm =
      (bytes_eq-Decides replay.session.nonce_tpm t.nonce_tpm).0 is in
      inl (sym one, subst (λ (nonce : List ℕ). IsAmong nonce t.earlier_nonces) one among)
  repeats t (lives, continues, among) false is =
      let hmac = hmac_is replay.before replay.first replay.place replay.entry replay.session
      holds.has_hmac
      (shows_first.hmacs replay.place replay.entry replay.session holds.entry
      holds.names_session holds.lives holds.is_hmac) in
      let again = hmac_is (before_second replay) replay.second replay.place replay.entry t
      holds.has_hmac
      (shows.0.hmacs replay.place replay.entry t entry_again holds.names_session lives
      (continues.kind ∙ holds.is_hmac)) in
      let nonces : first_text replay ≡ second_text replay t
      → replay.session.nonce_tpm ≡ t.nonce_tpm =
      text_nonce replay.before (before_second replay) replay.first replay.second replay.place
      replay.entry replay.session t continues.hash continues.size in
      inr (
        (λ text. false≢true
            (sym is ∙ (bytes_eq-Decides replay.session.nonce_tpm t.nonce_tpm).1 (nonces text))),
        hmac,
        again,
      )

  replay_repeats : Repeats replay
  replay_repeats = let (t, is) =
      later_one in record {
        now = t;
        lives = is.0;
        hash = is.1.hash;
        repeats =
            repeats t is (bytes_eq replay.session.nonce_tpm t.nonce_tpm) refl;
      }

pub replays_repeat : (history : History) → AllShowHmacs history → ReplaysRepeat history
replays_repeat history shows replay after is holds =
    replay_repeats replay holds
    (shows_before after (Done replay.second ∷ before_second replay) (subst AllShowHmacs is shows))
