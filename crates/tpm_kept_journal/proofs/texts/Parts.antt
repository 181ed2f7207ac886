-- Lemmas about reading and testing parts of a journal.
use Rattle.std.proofs.Common.{◌≡◌, ℕ, ◌*◌, ◌≤◌, Bool, true, false, List, ◌++◌, length, take, drop, Option, Some, None, Result, Ok, Err, refl, ap, sym, ◌∙◌}
use Rattle.std.specs.Prelude.{Decides, nat_le}
use Rattle.std.proofs.lemmas.Bool.{leb-true, le-leb}
use Rattle.std.proofs.lemmas.List.{take_at, take-append-drop}
use Rattle.std.proofs.lemmas.Slice.Eq.{bytes_eq-Decides}
use Rattle.hex.specs.Hex.{decode_of, encode_lower}
use Rattle.hex.specs.declared.error.FromHexError.{FromHexError}
use Rattle.hex.proofs.HexLemmas.{decode_of-encode_lower, decode_of-ok}
use Rattle.tpm_bytes.specs.Reading.{AreBytes}
use Rattle.tpm_image_text.proofs.Bytes.{bytes_nil}
use Rattle.tpm_kept_journal.specs.texts.Parts.{begins_with, decoded_bytes, hex_at, read_or_none, where_so}

-- ---- optional values that depend on a test

module _ {A : Type 0} where
  held_or : A → Option A → A
  held_or other (Some a) = a
  held_or other None = other

  pub so_told : (b : Bool) (a : A) → b ≡ true → where_so b a ≡ Some a
  so_told true a so = refl
  so_told false a so = absurd cc

  pub not_told : (b : Bool) (a : A) → (b ≡ true → ⊥) → where_so b a ≡ None
  not_told true a not = absurd (not refl)
  not_told false a not = refl

  pub so_found : (b : Bool) (a other : A) → where_so b a ≡ Some other → (b ≡ true) × (a ≡ other)
  unfolding held_or
  so_found true a other so = (refl, ap (held_or a) so)
  so_found false a other so = absurd cc

pub Decides-leb : (a b : ℕ) → Decides (nat_le a b) (a ≤ b)
Decides-leb a b = (leb-true a b, le-leb a b)

-- ---- hex digits

pub spelled_again : (bytes : List ℕ) → AreBytes bytes → decoded_bytes (encode_lower bytes) ≡ bytes
spelled_again bytes are = ap read_or_none (decode_of-encode_lower bytes are)

read_are_bytes : (digits : List ℕ) (found : Result (List ℕ) FromHexError) → decode_of digits ≡ found
    → AreBytes (read_or_none found)
read_are_bytes digits (Ok bytes) is = (decode_of-ok digits bytes is).3
read_are_bytes digits (Err fault) is = bytes_nil

pub spelled_are_bytes : (digits : List ℕ) → AreBytes (decoded_bytes digits)
spelled_are_bytes digits = read_are_bytes digits (decode_of digits) refl

-- If the hex digits of these bytes are at an offset, `hex_at` returns the bytes.
pub hex_is_at : (place count : ℕ) (text bytes : List ℕ) → AreBytes bytes → count ≡ length bytes
    → take (2 * length bytes) (drop place text) ≡ encode_lower bytes
    → hex_at place count text ≡ bytes
hex_is_at place count text bytes are many at =
    ap (λ (n : ℕ). hex_at place n text) many ∙ ap decoded_bytes at ∙ spelled_again bytes are

-- ---- the prefix of a list

pub begins_with-Decides : (text front : List ℕ)
    → Decides (begins_with text front) (text ≡ front ++ drop (length front) text)
begins_with-Decides text front =
    let same = bytes_eq-Decides (take (length front) text) front in (
      λ so. sym (take-append-drop (length front) text)
          ∙ ap (λ (l : List ℕ). l ++ drop (length front) text) (same.0 so),
      λ is. same.1 (ap (take (length front)) is
          ∙ take_at front (drop (length front) text) (length front) refl),
    )

-- A list that consists of a prefix and further bytes begins with that prefix.
pub begins : (text front rest : List ℕ) → text ≡ front ++ rest → begins_with text front ≡ true
begins text front rest is =
    (bytes_eq-Decides (take (length front) text) front).1
    (ap (take (length front)) is ∙ take_at front rest (length front) refl)
