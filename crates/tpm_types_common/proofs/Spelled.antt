-- If a read returns each field of a structure exactly when the input starts with the field's
-- encoding, the same holds for the structure.
use Rattle.std.proofs.Common.{◌≡◌, ℕ, ◌+◌, List, [], ◌++◌, length, drop, Result, Ok, refl, sym, ap, subst, ◌∙◌, append_assoc, append-nil}
use Rattle.std.proofs.lemmas.List.{take_at, drop_at, get_or-drop}
use Rattle.tpm_bytes.specs.Reading.{◌>>=◌}
use Rattle.tpm_bytes.proofs.Fields.{AreBytes, AreBytes-take, Takes, Takes-then, bind_ok, ok_is}
use Rattle.tpm_bytes.proofs.Spelling.{IsAgain, IsTaken}

-- A read returns a value exactly when the value is valid and the input starts with its encoding.
pub record Spelled {A E : Type 0} (text : A → List ℕ) (Is : A → Type 0)
    (at : List ℕ → Result (A × List ℕ) E) : Type 0 where
  pub taken : IsTaken text Is at
  pub again : IsAgain text Is at

-- This is `Spelled` for the fields that are read after some first fields. A read returns a value
-- exactly when three conditions hold: the value is valid; it contains the first fields; and the
-- input starts with the encoding of the other fields.
pub record Behind {B C E : Type 0} (seen : B → C) (text : B → List ℕ) (Is : B → Type 0)
    (at : C → List ℕ → Result (B × List ℕ) E) : Type 0 where
  pub taken : (before : C) (bytes : List ℕ) (x : B × List ℕ) → AreBytes bytes
      → at before bytes ≡ Ok x → Takes bytes (text x.0) x.1 × Is x.0 × (seen x.0 ≡ before)
  pub again : (x : B) (rest : List ℕ) → Is x → at (seen x) (text x ++ rest) ≡ Ok (x, rest)

-- ---- one field after another

-- `Behind` holds after the last field: nothing remains to be read, and the fields make up the whole
-- value.
pub all_read : {B C E : Type 0} (seen : B → C) (made : C → B) → ((c : C) → seen (made c) ≡ c)
    → ((x : B) → made (seen x) ≡ x)
    → Behind {E = E} seen (λ _. []) (λ _. Unit {0}) (λ c bytes. Ok (made c, bytes))
all_read {B} {C} {E} seen made same whole = record {
  taken = λ before bytes x fits e. subst (λ (y : B × List ℕ). Takes bytes [] y.1 × Unit {0}
      × (seen y.0 ≡ before)) (ok_is {E = E} (made before, bytes) x e)
      (record { parts = refl; rest_fits = fits }, tt, same before);
  again = λ x rest is. ap (λ (y : B). Ok (y, rest)) (whole x);
}

-- If `Spelled` holds for the next field and `Behind` holds for the fields after it, then `Behind`
-- holds for all these fields.
pub then : {A B C E : Type 0} {text : A → List ℕ} {Is : A → Type 0}
    {at : List ℕ → Result (A × List ℕ) E} {seen : B → C × A} {others : B → List ℕ}
    {Are : B → Type 0} {behind : C × A → List ℕ → Result (B × List ℕ) E} → Spelled text Is at
    → Behind seen others Are behind
    → Behind (λ x. (seen x).0) (λ x. text (seen x).1 ++ others x) (λ x. Is (seen x).1 × Are x)
    (λ c bytes. at bytes >>= λ a. behind (c, a.0) a.1)
then {A} {B} {C} {E} {text} {Is} {at} {seen} {others} {Are} {behind} field next = record {
  taken = λ before bytes x fits e.
      let a = bind_ok (at bytes) (λ a. behind (before, a.0) a.1) x e in
      let first = field.taken bytes a.0 fits a.1 in
      let rest = next.taken (before, a.0.0) a.0.1 x first.0.rest_fits a.2 in
      let both = Takes-then bytes (text a.0.0) a.0.1 (others x.0) x.1 first.0 rest.0 in
      subst (λ (c : C × A). Takes bytes (text c.1 ++ others x.0) x.1 × (Is c.1 × Are x.0)
      × (c.0 ≡ before)) (sym rest.2) (both, (first.1, rest.1), refl);
  again = λ x rest are.
      let c = seen x in
      ap (λ (l : List ℕ). at l >>= λ a. behind (c.0, a.0) a.1)
      (append_assoc (text c.1) (others x) rest)
      ∙ ap (λ (r : Result (A × List ℕ) E). r >>= λ a. behind (c.0, a.0) a.1)
      (field.again c.1 (others x ++ rest) are.0)
      ∙ next.again x rest are.1;
}

-- `Spelled` holds for a whole structure, if it holds for the first field, and `Behind` holds for
-- the other fields. How the other fields are read may depend on the first field.
pub first : {A B E : Type 0} {text : A → List ℕ} {Is : A → Type 0}
    {at : List ℕ → Result (A × List ℕ) E} {seen : B → A} {others : B → List ℕ} {Are : B → Type 0}
    {behind : A → List ℕ → Result (B × List ℕ) E} → Spelled text Is at
    → Behind seen others Are behind
    → Spelled (λ x. text (seen x) ++ others x) (λ x. Is (seen x) × Are x)
    (λ bytes. at bytes >>= λ a. behind a.0 a.1)
first {A} {B} {E} {text} {Is} {at} {seen} {others} {Are} {behind} field next = record {
  taken = λ bytes x fits e.
      let a = bind_ok (at bytes) (λ a. behind a.0 a.1) x e in
      let front = field.taken bytes a.0 fits a.1 in
      let rest = next.taken a.0.0 a.0.1 x front.0.rest_fits a.2 in
      let both = Takes-then bytes (text a.0.0) a.0.1 (others x.0) x.1 front.0 rest.0 in
      subst (λ (c : A). Takes bytes (text c ++ others x.0) x.1 × (Is c × Are x.0)) (sym rest.2)
      (both, (front.1, rest.1));
  again = λ x rest are.
      let c = seen x in
      ap (λ (l : List ℕ). at l >>= λ a. behind a.0 a.1) (append_assoc (text c) (others x) rest)
      ∙ ap (λ (r : Result (A × List ℕ) E). r >>= λ a. behind a.0 a.1)
      (field.again c (others x ++ rest) are.0)
      ∙ next.again x rest are.1;
}

-- If `Spelled` holds for the remaining fields, whatever the fields before them contain, then
-- `Behind` holds for the remaining fields.
pub for_each : {B C E : Type 0} (seen : B → C) (text : B → List ℕ) (Is : B → Type 0)
    (at : C → List ℕ → Result (B × List ℕ) E)
    → ((c : C) → Spelled text (λ x. Is x × (seen x ≡ c)) (at c)) → Behind seen text Is at
for_each seen text Is at each = record {
  taken = λ before bytes x fits e. let t =
      (each before).taken bytes x fits e in (t.0, t.1.0, t.1.1);
  again = λ x rest is. (each (seen x)).again x rest (is, refl);
}

-- `Spelled` still holds if the encoding is replaced by an equal encoding, and the condition for
-- valid values by an equivalent condition.
pub respelled : {A E : Type 0} {text other : A → List ℕ} {Is Are : A → Type 0}
    {at : List ℕ → Result (A × List ℕ) E} → Spelled text Is at → ((x : A) → other x ≡ text x)
    → ((x : A) → Is x → Are x) → ((x : A) → Are x → Is x) → Spelled other Are at
respelled {A} {E} {text} {other} {Is} {Are} {at} law same to from = record {
  taken = λ bytes x fits e. let t =
      law.taken bytes x fits e in (
        subst (λ (l : List ℕ). Takes bytes l x.1) (sym (same x.0)) t.0,
        to x.0 t.1,
      );
  again = λ x rest are. ap (λ (l : List ℕ). at (l ++ rest)) (same x)
      ∙ law.again x rest (from x are);
}

-- ---- a list of bytes in two parts

pub front_fits : (front rest : List ℕ) → AreBytes (front ++ rest) → AreBytes front
front_fits front rest fits =
    subst AreBytes (take_at front rest (length front) refl)
    (AreBytes-take (length front) (front ++ rest) fits)

pub rest_fits : (front rest : List ℕ) → AreBytes (front ++ rest) → AreBytes rest
rest_fits front rest fits = subst AreBytes (drop_at front rest (length front) refl) later
  where
    later : AreBytes (drop (length front) (front ++ rest))
    later i = rw get_or-drop (fits (length front + i))

-- if the bytes are `text` followed by `rest`, then reading `text` leaves `rest`
pub takes : (bytes text rest : List ℕ) → AreBytes bytes → bytes ≡ text ++ rest
    → Takes bytes text rest
takes bytes text rest fits parts =
    record { parts = parts; rest_fits = rest_fits text rest (subst AreBytes parts fits) }

-- ---- the same bytes, joined in a different order

pub two_texts : (a b : List ℕ) → a ++ b ≡ a ++ (b ++ [])
two_texts a b = simp append-nil refl

pub four_texts : (a b c d : List ℕ) → a ++ b ++ c ++ d ≡ a ++ (b ++ (c ++ (d ++ [])))
four_texts a b c d = simp (append_assoc, append-nil) refl

pub six_texts : (a b c d e f : List ℕ) → a ++ b ++ c ++ d ++ e ++ f
    ≡ a ++ (b ++ (c ++ (d ++ (e ++ (f ++ [])))))
six_texts a b c d e f = simp (append_assoc, append-nil) refl

pub seven_texts : (a b c d e f g : List ℕ)
    → a ++ b ++ c ++ d ++ e ++ f ++ g ≡ a ++ (b ++ (c ++ (d ++ (e ++ (f ++ (g ++ []))))))
seven_texts a b c d e f g = simp (append_assoc, append-nil) refl
