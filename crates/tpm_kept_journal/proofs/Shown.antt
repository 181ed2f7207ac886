-- The head that a device writes for its state is the head that `head_of` defines for the encoding
-- of this state.
use Rattle.std.proofs.Common.{◌≡◌, ◌≤◌, ◌&&◌, ℕ, suc, zero, Bool, true, cond, List, [], ◌∷◌, ◌++◌, length, sym, ap, ◌∙◌, arith, le-leb}
use Rattle.std.specs.Prelude.{is_some}
use Rattle.std.specs.Int.{w64, to_be_bytes}
use Rattle.tpm_bytes.specs.Reading.{AreBytes}
use Rattle.tpm_journal_text.proofs.Bytes.{all_small}
use Rattle.tpm_journal_text.specs.Head.{content_limit, current_kind, head_sum, head_text}
use Rattle.tpm_state_text.specs.State.{state_text}
use Rattle.tpm_state_text.proofs.StateLaws.{text_small}
use Rattle.tpm_kept_journal.specs.Opening.{head_of, head_sum_of, is_state_text, no_head}
use Rattle.tpm_kept_journal.specs.State.{DeviceState, IsDeviceState, bytes_of, content_in, state_of_bytes, time_in, whole_of}
use Rattle.tpm_image_text.specs.Fields.{are_bytes}
use Rattle.tpm_kept_journal.proofs.States.{content_of, state_told, time_of}
use Rattle.tpm_image_text.proofs.Bytes.{are_bytes-Decides}

bytes_joined : (front back : List ℕ) → AreBytes front → AreBytes back → AreBytes (front ++ back)
bytes_joined [] back are others i = others i
bytes_joined (byte ∷ front) back are others zero = are 0
bytes_joined (byte ∷ front) back are others (suc i) =
    bytes_joined front back (λ k. are (suc k)) others i

number_bytes : (n : ℕ) → AreBytes (to_be_bytes w64 n)
number_bytes n =
    all_small (to_be_bytes w64 n) (
      omega arith,
      (
        omega arith,
        (
          omega arith,
          (omega arith, (omega arith, (omega arith, (omega arith, (omega arith, tt))))),
        ),
      ),
    )

both : (a b : Bool) → a ≡ true → b ≡ true → (a && b) ≡ true
both a b is so = ap (λ (x : Bool). x && b) is ∙ so

module _ (s : DeviceState) (is : IsDeviceState s) (are : AreBytes (state_text (whole_of s))) where
  abbrev text : List ℕ
  text = bytes_of s

  all_bytes : AreBytes text
  unfolding bytes_of
  all_bytes = bytes_joined (to_be_bytes w64 s.time) (state_text (whole_of s)) (number_bytes s.time)
      are

  small : length (content_in text) ≤ content_limit current_kind
  small = omega (arith, ap length (content_of s), text_small (whole_of s) is.whole)

  writable : is_state_text text ≡ true
  unfolding is_state_text
  writable =
      both (are_bytes text) _ ((are_bytes-Decides text).1 all_bytes)
      (both (is_some (state_of_bytes text)) _ (ap is_some (state_told s is)) (le-leb _ _ small))

  pub head_shown : head_text current_kind s.time (state_text (whole_of s)) ≡ head_of text
  unfolding head_of
  head_shown =
      sym (
      ap (λ (b : Bool). cond b (head_text current_kind (time_in text) (content_in text)) (no_head text))
      writable
      ∙ ap (λ (n : ℕ). head_text current_kind n (content_in text)) (time_of s is.time)
      ∙ ap (head_text current_kind s.time) (content_of s)
      )

  pub sum_shown : head_sum s.time (state_text (whole_of s)) ≡ head_sum_of text
  unfolding head_sum_of
  sum_shown =
      sym (
      ap (λ (b : Bool). cond b (head_sum (time_in text) (content_in text)) 0) writable
      ∙ ap (λ (n : ℕ). head_sum n (content_in text)) (time_of s is.time)
      ∙ ap (head_sum s.time) (content_of s)
      )
