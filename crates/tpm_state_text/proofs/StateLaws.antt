-- Decoding returns a state exactly when the bytes are its state text. No proper prefix of a state
-- text is a state text.
use Rattle.std.proofs.Common.{◌≡◌, ℕ, ◌+◌, ◌<◌, ◌≤◌, ◌^◌, Option, Some, true, List, ◌++◌, length, take, Result, Ok, Err, refl, sym, ap, ◌∙◌, append_assoc, arith}
use Rattle.std.specs.Prelude.{ok_or}
use Rattle.std.specs.Str.{bytes_eq}
use Rattle.std.proofs.lemmas.List.{length-take, take_at}
use Rattle.std.proofs.lemmas.Slice.Eq.{bytes_eq-Decides}
use Rattle.tpm_bytes.specs.Reading.{◌>>=◌, or_fault}
use Rattle.tpm_bytes.proofs.Fields.{AreBytes, bind_ok, ok_is, ok_or_ok, or_fault_ok}
use Rattle.tpm_mac.specs.Digest.{hash_of}
use Rattle.tpm_mac.specs.declared.algorithm.HashAlg.TheVariants.{Sha256}
use Rattle.tpm_commands.specs.declared.profile.Profile.{Profile}
use Rattle.tpm_commands.specs.declared.profile.Profile.TheVariants.{Symmetric, Complete}
use Rattle.tpm_image_text.specs.Body.{image_body_text}
use Rattle.tpm_image_text.specs.Frame.{digest_bytes, head_bytes, head_in, head_text, within_frame, word_of}
use Rattle.tpm_image_text.specs.Image.{image_text}
use Rattle.tpm_image_text.specs.NonVolatile.{kept_of}
use Rattle.tpm_image_text.specs.Version.{version_of}
use Rattle.tpm_state_text.specs.Body.{IsWholeState, WholeState, body_text, device_text, state_of_body, volatile_text}
use Rattle.tpm_state_text.specs.Frame.{framed_state, state_format, state_letter}
use Rattle.tpm_state_text.specs.Layer.{layer_part_text}
use Rattle.tpm_state_text.specs.Sizes.{state_text_size}
use Rattle.tpm_state_text.specs.State.{HasBehindHead, state_of_text, state_text}
use Rattle.tpm_state_text.specs.Version.{state_profile, state_version_number, state_version_numbered, state_version_of}
use Rattle.tpm_state_text.specs.declared.fault.StateFault.{StateFault}
use Rattle.tpm_state_text.specs.declared.fault.StateFault.TheVariants as fault
use Rattle.tpm_state_text.specs.declared.version.StateVersion.{StateVersion}
use Rattle.tpm_state_text.specs.declared.version.StateVersion.TheVariants.{One, Two, Three}
use Rattle.tpm_state_text.proofs.BodyLaws.{body_again, body_taken}
use Rattle.tpm_image_text.proofs.FrameLaws.{AreNumbered, cut_behind, cut_short, framed_again, framed_taken, length-framed}
use Rattle.tpm_types_common.proofs.Named.{link, none}
use Rattle.tpm_state_text.proofs.SizeLaws.{whole_small}

-- ---- encoding and decoding

-- the state in a framed body, if the version is read
abbrev state_by : StateVersion × List ℕ → Result WholeState StateFault
state_by said =
    ok_or (state_profile said.0) fault.Earlier
    >>= λ profile. or_fault (state_of_body profile said.1) fault.Body

state_numbered : AreNumbered state_format
unfolding state_version_numbered
state_numbered = record { is = is; known = known; again = again; small = small }
  where
    numbered : (n : ℕ) (version : StateVersion) → state_version_numbered n ≡ Some version
        → n ≡ state_version_number version
    numbered n version = link state_version_number n One _ version λ o. link state_version_number n
        Two _ o λ o. link state_version_number n Three _ o (none state_version_number n)

    is : (word : List ℕ) (n : ℕ) (version : StateVersion)
        → bytes_eq word (word_of state_letter) ≡ true → state_version_numbered n ≡ Some version
        → (word ≡ word_of state_letter) × (n ≡ state_version_number version)
    is word n version known found =
        ((bytes_eq-Decides word (word_of state_letter)).0 known, numbered n version found)

    known : (version : StateVersion)
        → bytes_eq (word_of state_letter) (word_of state_letter) ≡ true
    known version = (bytes_eq-Decides (word_of state_letter) (word_of state_letter)).1 refl

    again : (version : StateVersion) → state_version_numbered (state_version_number version)
        ≡ Some version
    again One = refl
    again Two = refl
    again Three = refl

    small : (version : StateVersion) → state_version_number version < 2 ^ 16
    small One = omega arith
    small Two = omega arith
    small Three = omega arith

-- the version of a profile is read as that profile
profile_told : (profile : Profile) → state_profile (state_version_of profile) ≡ Some profile
profile_told Symmetric = refl
profile_told Complete = refl

-- a version that is read as a profile is the version of that profile
version_is : (version : StateVersion) (profile : Profile) → state_profile version ≡ Some profile
    → version ≡ state_version_of profile
version_is One profile is = absurd cc
version_is Two Symmetric is = refl
version_is Two Complete is = absurd cc
version_is Three Symmetric is = absurd cc
version_is Three Complete is = refl

text_framed : (state : WholeState) → IsWholeState state
    → within_frame state_format (state_text state)
    ≡ Ok (state_version_of state.device.fixed.profile, body_text state.device.fixed.profile state)
unfolding state_text
text_framed state is =
    framed_again state_format state_numbered (state_version_of state.device.fixed.profile)
    (body_text state.device.fixed.profile state)
    (omega (arith, whole_small state.device.fixed.profile state is))

pub text_told : (state : WholeState) → IsWholeState state
    → state_of_text (state_text state) ≡ Ok state
text_told state is =
    let profile = state.device.fixed.profile in
    ap (λ (framed : Result (StateVersion × List ℕ) StateFault). framed >>= state_by)
    (text_framed state is)
    ∙ ap (λ (p : Option Profile). ok_or p fault.Earlier
    >>= λ p. or_fault (state_of_body p (body_text profile state)) fault.Body)
    (profile_told profile)
    ∙ ap (λ (s : Result WholeState _). or_fault s fault.Body)
    (body_again profile state (record { whole = is; same = refl }))

pub text_found : (text : List ℕ) (state : WholeState) → AreBytes text
    → state_of_text text ≡ Ok state → IsWholeState state × (text ≡ state_text state)
unfolding state_text
text_found text state fits e =
    let a = bind_ok (within_frame state_format text) state_by state e in
    let frame = framed_taken state_format state_numbered text a.0 fits a.1 in
    let c = bind_ok (ok_or (state_profile a.0.0) fault.Earlier)
    (λ profile. or_fault (state_of_body profile a.0.1) fault.Body) state a.2 in
    let version = version_is a.0.0 c.0
    (ok_or_ok (state_profile a.0.0) fault.Earlier c.0 c.1) in
    let body = body_taken c.0 a.0.1 state frame.1
    (or_fault_ok (state_of_body c.0 a.0.1) fault.Body state c.2) in (
      body.1.whole,
      frame.0 ∙ ap (λ (v : StateVersion). framed_state v a.0.1) version
          ∙ ap (framed_state (state_version_of c.0)) body.0
          ∙ ap (λ (p : Profile). framed_state (state_version_of p) (body_text p state))
          (sym body.1.same),
    )

pub one_state : (state other : WholeState) → IsWholeState state → IsWholeState other
    → state_text state ≡ state_text other → state ≡ other
one_state state other is are same =
    ok_is {E = StateFault} state other (sym (text_told state is) ∙ ap state_of_text same
    ∙ text_told other are)

-- ---- sizes, and prefixes

pub text_small : (state : WholeState) → IsWholeState state
    → length (state_text state) ≤ state_text_size
unfolding state_text
text_small state is =
    let profile = state.device.fixed.profile in
    omega (
      arith,
      length-framed state_format (state_version_of profile) (body_text profile state),
      whole_small profile state is,
    )

pub front_short : (text : List ℕ) (n : ℕ) → n < 42 → state_of_text (take n text) ≡ Err fault.Short
front_short text n few =
    ap (λ (framed : Result (StateVersion × List ℕ) StateFault). framed >>= state_by)
    (cut_short state_format (take n text) (omega (arith, few, length-take n text)))

pub front_cut : (state : WholeState) (n : ℕ) → IsWholeState state → 42 ≤ n
    → n < length (state_text state) → state_of_text (take n (state_text state)) ≡ Err fault.Length
unfolding state_text
front_cut state n is long less =
    let profile = state.device.fixed.profile in
    let version = state_version_of profile in
    let size = length-framed state_format version (body_text profile state) in
    ap (λ (framed : Result (StateVersion × List ℕ) StateFault). framed >>= state_by)
    (cut_behind state_format state_numbered version (body_text profile state) n
    (omega (arith, whole_small profile state is)) long (omega (arith, less, size)))

-- ---- the image in a state text

-- a concatenation begins with its first part
front_is : (front rest : List ℕ) → take (length front) (front ++ rest) ≡ front
front_is front rest = take_at front rest (length front) refl

pub body_in_image : (state : WholeState)
    → HasBehindHead (image_text (version_of state.device.fixed.profile) (kept_of state.device))
    (image_body_text (version_of state.device.fixed.profile) (kept_of state.device))
unfolding image_text
body_in_image state =
    let version = version_of state.device.fixed.profile in
    let body = image_body_text version (kept_of state.device) in
    front_is body
    (hash_of Sha256 (head_text version (head_bytes + length body + digest_bytes) ++ body))

pub body_in_state : (state : WholeState)
    → HasBehindHead (state_text state)
    (image_body_text (version_of state.device.fixed.profile) (kept_of state.device))
unfolding state_text body_text device_text
body_in_state state =
    let profile = state.device.fixed.profile in
    let image = image_body_text (version_of profile) (kept_of state.device) in
    let volatile = volatile_text state.device in
    let layer = layer_part_text state.layer in
    let digest =
    hash_of Sha256
    (head_in state_format (state_version_of profile) (head_bytes + length (image ++ volatile ++ layer) + digest_bytes)
    ++ (image ++ volatile ++ layer)) in
    ap (take (length image)) (let parts : image ++ volatile ++ layer ++ digest
    ≡ image ++ (volatile ++ (layer ++ digest)) = simp append_assoc refl in parts)
    ∙ front_is image (volatile ++ (layer ++ digest))
