-- Frames: decoding returns a body exactly when the bytes are that body in its frame. Truncated
-- bytes are refused.
use Rattle.std.proofs.Common.{◌≡◌, ℕ, ◌+◌, ◌-◌, ◌^◌, ◌<◌, ◌≤◌, Bool, true, false, Option, Some, None, List, ◌++◌, length, take, drop, Result, Ok, Err, refl, sym, ap, subst, ◌∙◌, append_assoc, arith, length-append}
use Rattle.std.specs.Prelude.{◌==◌, ◌||◌, nat_lt, not, ok_or}
use Rattle.std.specs.Int.{w16, w32, to_be_bytes}
use Rattle.std.specs.Str.{bytes_eq}
use Rattle.std.proofs.Math.Seq.{take-add, take-append-add}
use Rattle.std.proofs.lemmas.Bool.{eqb-true, le-ltb, lt-ltb, ltb-false, ne_eqb}
use Rattle.std.proofs.lemmas.Bool.Decides.{Decides-eqb}
use Rattle.std.proofs.lemmas.List.{drop_at, length-drop, length-take, length-take-le, take-append-drop, take-take, take_at}
use Rattle.std.proofs.lemmas.Slice.Eq.{bytes_eq-Decides}
use Rattle.tpm_bytes.specs.Reading.{◌>>=◌, refused_if}
use Rattle.tpm_bytes.proofs.Fields.{AreBytes, AreBytes-take, ok_is, wide16, wide32}
use Rattle.tpm_mac.specs.Digest.{hash_of}
use Rattle.tpm_mac.specs.declared.algorithm.HashAlg.TheVariants.{Sha256}
use Rattle.tpm_mac.proofs.DigestSize.{length-hash_of}
use Rattle.tpm_types_common.proofs.Spelled.{rest_fits}
use Rattle.tpm_image_text.specs.Frame.{Format, before_digest, digest_bytes, digest_of, complete_word, digested_text, framed_in, head_bytes, head_in, image_format, image_version, is_image_word, length_of, number_of, symmetric_word, within_frame, word_of}
use Rattle.tpm_image_text.specs.Version.{version_letter, version_number}
use Rattle.tpm_image_text.specs.declared.version.Version.{Version}
use Rattle.tpm_image_text.specs.declared.version.Version.TheVariants.{One, Two, CompleteOne}
use Rattle.tpm_image_text.proofs.VersionLaws.{is_complete, number_small, numbered-again, numbered-is}

-- A magic word and a number decode to a version of a format exactly when they are those of that
-- version.
pub record AreNumbered {V E : Type 0} (format : Format V E) : Type 0 where
  pub is : (word : List ℕ) (n : ℕ) (version : V) → format.is_word word ≡ true
      → format.numbered word n ≡ Some version
      → (word ≡ word_of (format.letter version)) × (n ≡ format.number version)
  pub known : (version : V) → format.is_word (word_of (format.letter version)) ≡ true
  pub again : (version : V)
      → format.numbered (word_of (format.letter version)) (format.number version) ≡ Some version
  pub small : (version : V) → format.number version < 2 ^ 16

left_holds : (a : Bool) → (a || false) ≡ true → a ≡ true
left_holds true any = refl
left_holds false any = absurd cc

-- a word that is a magic word of images is that of a version with the same profile
word_is : (word : List ℕ) (version : Version) (complete : Bool)
    → bytes_eq word complete_word ≡ complete → complete ≡ is_complete version
    → (bytes_eq word symmetric_word || complete) ≡ true
    → word ≡ word_of (version_letter version)
word_is word One false told has any = (bytes_eq-Decides word symmetric_word).0 (left_holds _ any)
word_is word One true told has any = absurd cc
word_is word Two false told has any = (bytes_eq-Decides word symmetric_word).0 (left_holds _ any)
word_is word Two true told has any = absurd cc
word_is word CompleteOne false told has any = absurd cc
word_is word CompleteOne true told has any = (bytes_eq-Decides word complete_word).0 told

pub image_numbered : AreNumbered image_format
image_numbered = record { is = is; known = known; again = again; small = number_small }
  where
    is : (word : List ℕ) (n : ℕ) (version : Version) → is_image_word word ≡ true
        → image_version word n ≡ Some version
        → (word ≡ word_of (version_letter version)) × (n ≡ version_number version)
    is word n version known found =
        let has = numbered-is (bytes_eq word complete_word) n version found in
        (word_is word version (bytes_eq word complete_word) refl has.0 known, has.1)

    known : (version : Version) → is_image_word (word_of (version_letter version)) ≡ true
    known One = refl
    known Two = refl
    known CompleteOne = refl

    again : (version : Version)
        → image_version (word_of (version_letter version)) (version_number version) ≡ Some version
    again One = numbered-again One
    again Two = numbered-again Two
    again CompleteOne = numbered-again CompleteOne

abbrev whole_of : List ℕ → ℕ
whole_of body = head_bytes + length body + digest_bytes

-- the part of the bytes between the head and the digest
abbrev inner : List ℕ → List ℕ
inner text = drop head_bytes (before_digest text)

fits_behind : (text : List ℕ) → AreBytes text → (n : ℕ) → AreBytes (drop n text)
fits_behind text fits n =
    rest_fits (take n text) (drop n text) (subst AreBytes (sym (take-append-drop n text)) fits)

module _ {V E : Type 0} (format : Format V E) where
  -- ---- what the frame's tests check

  record IsFramed (version : V) (text : List ℕ) : Type 0 where
    long : head_bytes + digest_bytes ≤ length text
    word : format.is_word (take 4 text) ≡ true
    number : format.numbered (take 4 text) (number_of text) ≡ Some version
    whole : length_of text ≡ length text
    digest : hash_of Sha256 (before_digest text) ≡ digest_of text

  passes : (version : V) (text : List ℕ) → IsFramed version text
      → within_frame format text ≡ Ok (version, inner text)
  unfolding within_frame
  passes version text is =
      let long = le-ltb (length text) (head_bytes + digest_bytes) is.long in
      let whole = (Decides-eqb (length_of text) (length text)).1 is.whole in
      let digest = (bytes_eq-Decides (hash_of Sha256 (before_digest text)) (digest_of text)).1
      is.digest in
      rw (long, is.word, is.number, whole, digest) refl

  -- if decoding a frame succeeds, all five tests passed
  none_refuses : (short word : Bool) (version : Option V) (whole digest : Bool) (body : List ℕ)
      (said : V × List ℕ)
      → (refused_if short format.short >>= λ a. refused_if (not word) format.magic
      >>= λ b. ok_or version format.version >>= λ v. refused_if (not whole) format.whole
      >>= λ c. refused_if (not digest) format.digest >>= λ d. let done : Result (V × List ℕ) E =
      Ok (v, body) in done) ≡ Ok said → (v : V) × (short ≡ false) × (word ≡ true)
      × (version ≡ Some v) × (whole ≡ true) × (digest ≡ true) × ((v, body) ≡ said)
  none_refuses false true (Some v) true true body said e =
      (v, refl, refl, refl, refl, refl, ok_is {E = E} (v, body) said e)
  none_refuses true word version whole digest body said e = absurd cc
  none_refuses false false version whole digest body said e = absurd cc
  none_refuses false true None whole digest body said e = absurd cc
  none_refuses false true (Some v) false digest body said e = absurd cc
  none_refuses false true (Some v) true false body said e = absurd cc

  has_passed : (text : List ℕ) (said : V × List ℕ) → within_frame format text ≡ Ok said
      → (version : V) × IsFramed version text × ((version, inner text) ≡ said)
  unfolding within_frame
  has_passed text said e =
      let t = none_refuses (nat_lt (length text) (head_bytes + digest_bytes))
      (format.is_word (take 4 text)) (format.numbered (take 4 text) (number_of text))
      (length_of text == length text)
      (bytes_eq (hash_of Sha256 (before_digest text)) (digest_of text)) (inner text) said e in
      let is : IsFramed t.0 text = record {
        long = ltb-false _ _ t.1;
        word = t.2;
        number = t.3;
        whole = eqb-true _ _ t.4;
        digest = (bytes_eq-Decides _ _).0 t.5;
      } in
      (t.0, is, t.6)

  -- ---- a body in its frame

  pub length-framed : (version : V) (body : List ℕ)
      → length (framed_in format version body) ≡ whole_of body
  length-framed version body =
      let head = head_in format version (whole_of body) in
      let front = head ++ body in
      omega (
        arith,
        length-append head body,
        length-append front (hash_of Sha256 front),
        length-hash_of Sha256 front,
      )

  -- the size decoded from a head is the size that was written, whatever follows the head
  length_said : (version : V) (whole : ℕ) (rest : List ℕ) → whole < 2 ^ 32
      → length_of (head_in format version whole ++ rest) ≡ whole
  length_said version whole rest small = wide32.again whole small

  -- ---- truncated bytes

  pub cut_short : (text : List ℕ) → length text < head_bytes + digest_bytes
      → within_frame format text ≡ Err format.short
  unfolding within_frame
  cut_short text short = rw (lt-ltb (length text) (head_bytes + digest_bytes) short) refl

  module _ (numbers : AreNumbered format) where
    -- the version decoded from a head is the version that was written, whatever follows the head
    version_said : (version : V) (whole : ℕ) (rest : List ℕ)
        → format.numbered (word_of (format.letter version))
        (number_of (head_in format version whole ++ rest)) ≡ Some version
    version_said version whole rest =
        ap (format.numbered (word_of (format.letter version)))
        (wide16.again (format.number version) (numbers.small version)) ∙ numbers.again version

    pub framed_again : (version : V) (body : List ℕ) → whole_of body < 2 ^ 32
        → within_frame format (framed_in format version body) ≡ Ok (version, body)
    framed_again version body small =
        let text = framed_in format version body in
        let head = head_in format version (whole_of body) in
        let front = head ++ body in
        let digest = hash_of Sha256 front in
        let whole = length-framed version body in
        let place : length front ≡ length text - digest_bytes =
        omega (arith, whole, length-append head body) in
        let before : before_digest text ≡ front = take_at front digest _ place in
        let is : IsFramed version text = record {
          long = omega (arith, whole);
          word = numbers.known version;
          number = version_said version (whole_of body) (body ++ digest);
          whole = ap length_of (append_assoc head body digest)
              ∙ length_said version (whole_of body) (body ++ digest) small ∙ sym whole;
          digest = ap (hash_of Sha256) before ∙ sym (drop_at front digest _ place);
        } in
        passes version text is ∙ ap (λ (l : List ℕ). Ok (version, drop head_bytes l)) before

    -- ---- bytes that contain a body

    head_is : (version : V) (text : List ℕ) → AreBytes text → IsFramed version text
        → take head_bytes text ≡ head_in format version (length text)
    head_is version text fits is =
        let number = take 2 (drop 4 text) in
        let size = take 4 (drop 6 text) in
        let two : length number ≡ 2 =
        omega (arith, is.long, length-take 2 (drop 4 text), length-drop 4 text) in
        let four : length size ≡ 4 =
        omega (arith, is.long, length-take 4 (drop 6 text), length-drop 6 text) in
        let said = numbers.is (take 4 text) (number_of text) version is.word is.number in
        let named : number ≡ to_be_bytes w16 (format.number version) =
        sym (wide16.back number two (AreBytes-take 2 (drop 4 text) (fits_behind text fits 4)))
        ∙ ap (to_be_bytes w16) said.1 in
        let whole : size ≡ to_be_bytes w32 (length text) =
        sym (wide32.back size four (AreBytes-take 4 (drop 6 text) (fits_behind text fits 6)))
        ∙ ap (to_be_bytes w32) is.whole in
        take-add 6 4 text
        ∙ ap (λ (l : List ℕ). l ++ size) (take-add 4 2 text)
        ∙ rw (said.0, named, whole) refl

    pub framed_taken : (text : List ℕ) (said : V × List ℕ) → AreBytes text
        → within_frame format text ≡ Ok said → (text ≡ framed_in format said.0 said.1)
        × AreBytes said.1
    framed_taken text said fits e =
        let is = has_passed text said e in
        let before = before_digest text in
        let body = inner text in
        let place = length text - digest_bytes in
        let size : length body ≡ place - head_bytes =
        omega (arith, is.1.long, length-drop head_bytes before, length-take place text) in
        let whole : length text ≡ whole_of body = omega (arith, is.1.long, size) in
        let head : take head_bytes before ≡ head_in format is.0 (whole_of body) =
        take-take head_bytes place text (omega (arith, is.1.long)) ∙ head_is is.0 text fits is.1
        ∙ ap (head_in format is.0) whole in
        let front : before ≡ head_in format is.0 (whole_of body) ++ body =
        sym (take-append-drop head_bytes before) ∙ ap (λ (l : List ℕ). l ++ body) head in
        let parts : text ≡ digested_text before =
        sym (take-append-drop place text)
        ∙ ap (λ (l : List ℕ). before ++ l) (sym is.1.digest) in
        subst (λ (s : V × List ℕ). (text ≡ framed_in format s.0 s.1) × AreBytes s.1) is.2 (
          parts ∙ ap digested_text front,
          fits_behind before (AreBytes-take place text fits) head_bytes,
        )

    -- if bytes begin with a head and are long enough for a digest too, but are shorter than the
    -- size that the head states, they are refused because of their size
    other_length : (version : V) (whole : ℕ) (rest : List ℕ) → whole < 2 ^ 32
        → (let text = head_in format version whole ++ rest in head_bytes + digest_bytes
        ≤ length text → length text < whole → within_frame format text ≡ Err format.whole)
    unfolding within_frame
    other_length version whole rest small long less =
        let text = head_in format version whole ++ rest in
        let not_short = le-ltb (length text) (head_bytes + digest_bytes) long in
        let word : format.is_word (take 4 text) ≡ true = numbers.known version in
        let other : (length_of text == length text) ≡ false =
        ne_eqb (length_of text) (length text)
        (λ same. absurd (omega (arith, less, same, length_said version whole rest small))) in
        rw (not_short, word, version_said version whole rest, other) refl

    pub cut_behind : (version : V) (body : List ℕ) (n : ℕ) → whole_of body < 2 ^ 32
        → head_bytes + digest_bytes ≤ n → n < whole_of body
        → within_frame format (take n (framed_in format version body)) ≡ Err format.whole
    cut_behind version body n small long less =
        let head = head_in format version (whole_of body) in
        let behind = body ++ hash_of Sha256 (head ++ body) in
        let left = take (n - head_bytes) behind in
        let parts : take n (framed_in format version body) ≡ head ++ left =
        ap (take n) (append_assoc head body (hash_of Sha256 (head ++ body)))
        ∙ ap (λ m. take m (head ++ behind)) (let same : n ≡ head_bytes + (n - head_bytes) =
        omega (arith, long) in same)
        ∙ take-append-add head behind (n - head_bytes) in
        let size : length (head ++ left) ≡ n =
        ap length (sym parts) ∙ length-take-le n (framed_in format version body)
        (omega (arith, less, length-framed version body)) in
        ap (within_frame format) parts
        ∙ other_length version (whole_of body) left small (omega (arith, size, long))
        (omega (arith, size, less))
