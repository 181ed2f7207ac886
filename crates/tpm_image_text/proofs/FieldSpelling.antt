-- The fields of an image. A decoder is called exact if it returns a value if and only if the bytes
-- begin with the value's encoding. The decoders of fields are exact, and so are the decoders
-- composed of them.
use Rattle.std.proofs.Common.{◌≡◌, ℕ, ◌^◌, ◌<◌, ◌≤◌, Bool, true, false, cond, List, [], ◌∷◌, ◌++◌, length, Option, Some, Result, Ok, Err, refl, sym, ap, subst, ◌∙◌, append_assoc, append-nil, arith}
use Rattle.std.specs.Prelude.{◌==◌, nat_lt, not, ok_or}
use Rattle.std.specs.Int.{Width, w8, w16, w64, to_be_bytes}
use Rattle.std.specs.List.{flat_map, AllByRecursion}
use Rattle.std.proofs.lemmas.Bool.{eqb-true, le-ltb, ltb-false}
use Rattle.std.proofs.lemmas.Nat.{be_bytes_8, from_be_bytes-to_be_bytes_8}
use Rattle.std.proofs.lemmas.Slice.Eq.{bytes_eq-Decides}
use Rattle.tpm_bytes.specs.Many.{many_at}
use Rattle.tpm_bytes.specs.Reading.{◌>>=◌, bytes_at, number_at, or_fault, refused_if}
use Rattle.tpm_bytes.specs.Writing.{sized_text}
use Rattle.tpm_bytes.proofs.Fields.{AreBytes, IsWide, Takes, Takes-then, bind_ok, bytes_again, bytes_take, number_or_again, number_or_takes, ok_is, ok_or_ok, or_fault_ok, passed, wide8, wide16}
use Rattle.tpm_bytes.proofs.Spelling.{many_again, many_taken}
use Rattle.tpm_types_common.specs.AuthValue.{IsAuthValue}
use Rattle.tpm_types_common.specs.Rc.{plain}
use Rattle.tpm_types_common.specs.YesNo.{yes_no_at, yes_no_named}
use Rattle.tpm_types_common.specs.declared.rc.ResponseCode.TheVariants as code
use Rattle.tpm_types_common.proofs.FieldLaws.{buffer_spelled}
use Rattle.tpm_types_common.proofs.Named.{link, none}
use Rattle.tpm_types_common.proofs.Spelled.{Behind, Spelled, first, for_each, respelled}
use Rattle.tpm_image_text.specs.Fields.{auth_value_in, buffer_in, bytes_in, counted_in, counted_text, filling, in_body, is_trimmed, malformed_fault, number_in, passing, yes_no_in, yes_no_number, yes_no_text}
use Rattle.tpm_image_text.specs.declared.fault.Malformed.{Malformed}

-- ---- decoders composed of other decoders

-- a decoder is still exact after its faults are replaced by another fault
pub in_body_spelled : {A E : Type 0} {text : A → List ℕ} {Is : A → Type 0}
    {at : List ℕ → Result (A × List ℕ) E} → Spelled text Is at → Spelled text Is (in_body at)
in_body_spelled {A} {E} {text} {Is} {at} law = record {
  taken = λ bytes x fits e. law.taken bytes x fits (or_fault_ok (at bytes) malformed_fault x e);
  again = λ x rest is. ap (λ (r : Result (A × List ℕ) E). or_fault r malformed_fault)
      (law.again x rest is);
}

-- a decoder with the same results as an exact decoder is exact
pub same_reading : {A E : Type 0} {text : A → List ℕ} {Is : A → Type 0}
    {at other : List ℕ → Result (A × List ℕ) E} → ((bytes : List ℕ) → other bytes ≡ at bytes)
    → Spelled text Is at → Spelled text Is other
same_reading same law = record {
  taken = λ bytes x fits e. law.taken bytes x fits (sym (same bytes) ∙ e);
  again = λ x rest is. same _ ∙ law.again x rest is;
}

-- an exact decoder is still exact if it runs only after a test has passed
pub behind_test : {A E : Type 0} {text : A → List ℕ} {Is Are : A → Type 0}
    {at : List ℕ → Result (A × List ℕ) E} (refuses : Bool) (fault : E)
    → ((x : A) → refuses ≡ false → Is x → Are x) → ((x : A) → Are x → (refuses ≡ false) × Is x)
    → Spelled text Is at
    → Spelled text Are (λ bytes. refused_if refuses fault >>= λ passed. at bytes)
behind_test {A} {E} {text} {Is} {Are} {at} refuses fault to from law = record {
  taken = λ bytes x fits e.
      let a = bind_ok (refused_if refuses fault) (λ passed. at bytes) x e in
      let t = law.taken bytes x fits a.2 in
      (t.0, to x.0 (passed refuses fault a.0 a.1) t.1);
  again = λ x rest are. let f = from x are in rw (f.0) (law.again x rest f.1);
}

pub not_false : (b : Bool) → not b ≡ false → b ≡ true
not_false true e = refl
not_false false e = absurd cc

-- an exact decoder is still exact if it also tests and converts the decoded value
pub tested : {A B E : Type 0} {text : A → List ℕ} {Is : A → Type 0}
    {at : List ℕ → Result (A × List ℕ) E} (test : A → Bool) (refusal : E) (made : A → B)
    (given : B → A) → ((x : A) → given (made x) ≡ x) → ((y : B) → made (given y) ≡ y)
    → Spelled text Is at → Spelled (λ y. text (given y))
    (λ y. Is (given y) × (test (given y) ≡ true))
    (λ bytes. at bytes >>= λ x. refused_if (not (test x.0)) refusal
    >>= λ passed. Ok (made x.0, x.1))
tested {A} {B} {E} {text} {Is} {at} test refusal made given same whole law = record {
  taken = λ bytes y fits e.
      let a =
      bind_ok (at bytes) (λ x. refused_if (not (test x.0)) refusal
      >>= λ passed. Ok (made x.0, x.1)) y e in
      let b = bind_ok (refused_if (not (test a.0.0)) refusal) (λ passed. Ok (made a.0.0, a.0.1)) y
      a.2 in
      let t = law.taken bytes a.0 fits a.1 in
      let holds = not_false (test a.0.0) (passed (not (test a.0.0)) refusal b.0 b.1) in
      let spelled = subst (λ (x : A). Takes bytes (text x) a.0.1 × (Is x × (test x ≡ true)))
      (sym (same a.0.0)) (t.0, (t.1, holds)) in
      let done : B × List ℕ = (made a.0.0, a.0.1) in
      subst (λ (z : B × List ℕ). Takes bytes (text (given z.0)) z.1
      × (Is (given z.0) × (test (given z.0) ≡ true))) (ok_is done y b.2) spelled;
  again = λ y rest is. rw (law.again (given y) rest is.0, is.1, whole y) refl;
}

pub passing_spelled : {A : Type 0} {text : A → List ℕ} {Is : A → Type 0}
    {at : List ℕ → Result (A × List ℕ) Malformed} (test : A → Bool) → Spelled text Is at
    → Spelled text (λ x. Is x × (test x ≡ true)) (passing test at)
passing_spelled test law = tested test malformed_fault (λ x. x) (λ x. x) (λ _. refl) (λ _. refl) law

-- an exact decoder is still exact if it converts the decoded value, provided that the decoded and
-- the converted value determine each other
pub made_of : {A B E : Type 0} {text : A → List ℕ} {Is : A → Type 0}
    {at : List ℕ → Result (A × List ℕ) E} (made : A → B) (given : B → A) {Are : B → Type 0}
    → ((x : A) → Is x → (given (made x) ≡ x) × Are (made x))
    → ((y : B) → Are y → (made (given y) ≡ y) × Is (given y)) → Spelled text Is at
    → Spelled (λ y. text (given y)) Are (λ bytes. at bytes >>= λ x. Ok (made x.0, x.1))
made_of {A} {B} {E} {text} {Is} {at} made given {Are} to from law = record {
  taken = λ bytes y fits e.
      let a = bind_ok (at bytes) (λ x. Ok (made x.0, x.1)) y e in
      let t = law.taken bytes a.0 fits a.1 in
      let is = to a.0.0 t.1 in
      let spelled : Takes bytes (text (given (made a.0.0))) a.0.1 =
      subst (λ (x : A). Takes bytes (text x) a.0.1) (sym is.0) t.0 in
      let done : B × List ℕ = (made a.0.0, a.0.1) in
      subst (λ (z : B × List ℕ). Takes bytes (text (given z.0)) z.1 × Are z.0) (ok_is done y a.2)
      (spelled, is.1);
  again = λ y rest are. let f = from y are in rw (law.again (given y) rest f.1, f.0) refl;
}

-- ---- decoders that must consume all bytes

module _ {A : Type 0} {text : A → List ℕ} {Is : A → Type 0}
    {at : List ℕ → Result (A × List ℕ) Malformed} (law : Spelled text Is at) where
  -- if no bytes are left over, the decoder consumed all of the bytes
  all_taken : (bytes front left : List ℕ) → bytes ≡ front ++ left → (length left == 0) ≡ true
      → bytes ≡ front
  all_taken bytes front [] parts none = parts ∙ append-nil front
  all_taken bytes front (byte ∷ left) parts none = absurd (omega (arith, eqb-true _ _ none))

  pub filling_taken : (bytes : List ℕ) (x : A) → AreBytes bytes → filling at bytes ≡ Ok x
      → (bytes ≡ text x) × Is x
  filling_taken bytes x fits e =
      let a = bind_ok (at bytes) (λ y. refused_if (not (length y.1 == 0)) malformed_fault
      >>= λ ended. Ok y.0) x e in
      let refuses = not (length a.0.1 == 0) in
      let b = bind_ok (refused_if refuses malformed_fault) (λ ended. Ok a.0.0) x a.2 in
      let t = law.taken bytes a.0 fits a.1 in
      let whole = all_taken bytes (text a.0.0) a.0.1 t.0.parts
      (not_false (length a.0.1 == 0) (passed refuses malformed_fault b.0 b.1)) in
      subst (λ (y : A). (bytes ≡ text y) × Is y) (ok_is {E = Malformed} a.0.0 x b.2) (whole, t.1)

  pub filling_again : (x : A) → Is x → filling at (text x) ≡ Ok x
  filling_again x is = ap (filling at) (sym (append-nil (text x))) ∙ rw (law.again x [] is) refl

-- ---- a decoder chosen by a test

-- if there is only one possible value, the decoder that returns it and consumes no bytes is exact
pub only : {A E : Type 0} {text : A → List ℕ} {Is : A → Type 0} (one : A) → text one ≡ [] → Is one
    → ((x : A) → Is x → x ≡ one) → Spelled {E = E} text Is (λ bytes. Ok (one, bytes))
only {A} {E} {text} {Is} one empty is same = record {
  taken = λ bytes x fits e. subst (λ (y : A × List ℕ). Takes bytes (text y.0) y.1 × Is y.0)
      (ok_is {E = E} (one, bytes) x e) (record { parts = rw empty refl; rest_fits = fits }, is);
  again = λ x rest are. rw (same x are, empty) refl;
}

-- if there is no possible value, the decoder that always fails is exact
pub never : {A E : Type 0} {text : A → List ℕ} {Is : A → Type 0} (fault : E) → ((x : A) → Is x → ⊥)
    → Spelled text Is (λ bytes. Err fault)
never fault none = record {
  taken = λ bytes x fits e. absurd cc;
  again = λ x rest is. absurd (none x is);
}

-- a decoder that chooses one of two decoders by a test is exact if the chosen decoder is exact
pub either : {A E : Type 0} {text : A → List ℕ} {Is : A → Type 0}
    {at other : List ℕ → Result (A × List ℕ) E} (test : Bool) → (test ≡ true → Spelled text Is at)
    → (test ≡ false → Spelled text Is other)
    → Spelled text Is (λ bytes. cond test (at bytes) (other bytes))
either true law _ = let l = law refl in record { taken = l.taken; again = l.again }
either false _ law = let l = law refl in record { taken = l.taken; again = l.again }

-- ---- concatenations, grouped differently

pub three_texts : (a b c : List ℕ) → a ++ b ++ c ≡ a ++ (b ++ (c ++ []))
three_texts a b c = simp (append_assoc, append-nil) refl

-- ---- a decoder with one more field

-- a decoder is still exact after a field with only one possible value is added
pub then_always : {A B C E : Type 0} {text : A → List ℕ} {Is : A → Type 0}
    {at : List ℕ → Result (A × List ℕ) E} {seen : B → C} {others : B → List ℕ} {Are : B → Type 0}
    {behind : C → List ℕ → Result (B × List ℕ) E} (one : A) → Is one → ((x : A) → Is x → x ≡ one)
    → Spelled text Is at → Behind seen others Are behind
    → Behind seen (λ x. text one ++ others x) Are (λ c bytes. at bytes >>= λ a. behind c a.1)
then_always {A} {B} {C} {E} {text} {Is} {at} {seen} {others} {Are} {behind} one is same field next =
    record {
      taken = λ before bytes x fits e.
          let a = bind_ok (at bytes) (λ a. behind before a.1) x e in
          let t = field.taken bytes a.0 fits a.1 in
          let front : Takes bytes (text one) a.0.1 =
          subst (λ (c : A). Takes bytes (text c) a.0.1) (same a.0.0 t.1) t.0 in
          let rest = next.taken before a.0.1 x front.rest_fits a.2 in
          (Takes-then bytes (text one) a.0.1 (others x.0) x.1 front rest.0, rest.1, rest.2);
      again = λ x rest are.
          ap (λ (l : List ℕ). at l >>= λ a. behind (seen x) a.1)
          (append_assoc (text one) (others x) rest)
          ∙ ap (λ (r : Result (A × List ℕ) E). r >>= λ a. behind (seen x) a.1)
          (field.again one (others x ++ rest) is)
          ∙ next.again x rest are;
    }

-- ---- numbers that represent values

pub wide64 : IsWide w64 (2 ^ 64)
wide64 = record {
  len = λ n. refl;
  back = λ bytes len fits. be_bytes_8 bytes _ len fits refl;
  again = λ n lt. from_be_bytes-to_be_bytes_8 n lt;
  below = λ bytes fits. omega (
    arith,
    fits 0,
    fits 1,
    fits 2,
    fits 3,
    fits 4,
    fits 5,
    fits 6,
    fits 7,
  );
}

pub number_in_spelled : (w : Width) (limit : ℕ) → IsWide w limit
    → Spelled (to_be_bytes w) (λ n. n < limit) (number_in w)
number_in_spelled w limit wide = record {
  taken = λ bytes x fits e. number_or_takes w limit wide malformed_fault bytes x fits e;
  again = λ n rest small. number_or_again w limit wide malformed_fault n rest small;
}

-- a decoder that reads a number and returns the value that the number represents is exact
pub names_spelled : {A E : Type 0} (w : Width) (limit : ℕ) → IsWide w limit
    → (number_of : A → ℕ) (named : ℕ → Option A) (cut unknown : E)
    → ((n : ℕ) (x : A) → named n ≡ Some x → n ≡ number_of x)
    → ((x : A) → named (number_of x) ≡ Some x) → ((x : A) → number_of x < limit)
    → Spelled (λ x. to_be_bytes w (number_of x)) (λ x. Unit {0})
    (λ text. or_fault (number_at w text) cut >>= λ number. ok_or (named number.0) unknown
    >>= λ one. Ok (one, number.1))
names_spelled {A} {E} w limit wide number_of named cut unknown is found small = record {
  taken = λ bytes x fits e.
      let a = bind_ok (or_fault (number_at w bytes) cut)
      (λ number. ok_or (named number.0) unknown >>= λ one. Ok (one, number.1)) x e in
      let b = bind_ok (ok_or (named a.0.0) unknown) (λ one. Ok (one, a.0.1)) x a.2 in
      let t = number_or_takes w limit wide cut bytes a.0 fits a.1 in
      let same : a.0.0 ≡ number_of b.0 = is a.0.0 b.0 (ok_or_ok (named a.0.0) unknown b.0 b.1) in
      let spelled : Takes bytes (to_be_bytes w (number_of b.0)) a.0.1 =
      subst (λ (n : ℕ). Takes bytes (to_be_bytes w n) a.0.1) same t.0 in
      let made : A × List ℕ = (b.0, a.0.1) in
      subst (λ (y : A × List ℕ). Takes bytes (to_be_bytes w (number_of y.0)) y.1 × Unit {0})
      (ok_is made x b.2) (spelled, tt);
  again = λ x rest _. rw (number_or_again w limit wide cut (number_of x) rest (small x), found x)
      refl;
}

-- ---- yes or no

yes_no_named-is : (number : ℕ) (is_yes : Bool) → yes_no_named number ≡ Some is_yes
    → number ≡ yes_no_number is_yes
yes_no_named-is number is_yes =
    link yes_no_number number false _ is_yes λ o. link yes_no_number number true _ o
    (none yes_no_number number)

yes_no_named-again : (is_yes : Bool) → yes_no_named (yes_no_number is_yes) ≡ Some is_yes
yes_no_named-again true = refl
yes_no_named-again false = refl

yes_no_number-small : (is_yes : Bool) → yes_no_number is_yes < 2 ^ 8
yes_no_number-small true = omega arith
yes_no_number-small false = omega arith

yes_no_at_spelled : Spelled yes_no_text (λ is_yes. Unit {0}) yes_no_at
unfolding yes_no_at
yes_no_at_spelled = names_spelled w8 (2 ^ 8) wide8 yes_no_number yes_no_named
    (plain code.Insufficient) (plain code.Value) yes_no_named-is yes_no_named-again
    yes_no_number-small

pub yes_no_spelled : Spelled yes_no_text (λ is_yes. Unit {0}) yes_no_in
yes_no_spelled = in_body_spelled yes_no_at_spelled

-- ---- bytes

bytes_at_spelled : (count : ℕ) → Spelled (λ bytes. bytes) (λ bytes. length bytes ≡ count)
    (bytes_at count)
bytes_at_spelled count = record {
  taken = λ bytes x fits e. let t = bytes_take count bytes x.0 x.1 fits e in (t.0, t.1);
  again = λ bytes rest is. bytes_again bytes rest count is;
}

pub bytes_spelled : (count : ℕ) → Spelled (λ bytes. bytes) (λ bytes. length bytes ≡ count)
    (bytes_in count)
bytes_spelled count = in_body_spelled (bytes_at_spelled count)

pub buffer_in_spelled : (limit : ℕ) → limit < 2 ^ 16
    → Spelled sized_text (λ bytes. length bytes ≤ limit) (buffer_in limit)
buffer_in_spelled limit narrow = in_body_spelled (buffer_spelled limit narrow)

pub auth_value_spelled : Spelled sized_text IsAuthValue auth_value_in
unfolding auth_value_in
auth_value_spelled =
    respelled (passing_spelled is_trimmed (buffer_in_spelled 32 (omega arith)))
    (λ value. refl)
    (λ value is. (is.0, (bytes_eq-Decides _ _).0 is.1))
    (λ value is. (is.0, (bytes_eq-Decides _ _).1 is.1))

-- ---- lists

pub many_spelled : {A E : Type 0} {text : A → List ℕ} {Is : A → Type 0}
    {at : List ℕ → Result (A × List ℕ) E} (count : ℕ) → Spelled text Is at
    → Spelled (flat_map text) (λ xs. (length xs ≡ count) × AllByRecursion Is xs) (many_at at count)
many_spelled {A} {E} {text} {Is} {at} count law = record {
  taken = λ bytes x fits e. let t =
      many_taken text Is at law.taken count bytes x fits e in (t.0, (t.1, t.2));
  again = λ xs rest is. ap (λ n. many_at at n (flat_map text xs ++ rest)) (sym is.0)
      ∙ many_again text Is at law.again xs rest is.1;
}

pub counted_spelled : {A : Type 0} {text : A → List ℕ} {Is : A → Type 0}
    {at : List ℕ → Result (A × List ℕ) Malformed} (most : ℕ) → most < 2 ^ 16 → Spelled text Is at
    → Spelled (counted_text text) (λ xs. (length xs ≤ most) × AllByRecursion Is xs)
    (counted_in most at)
counted_spelled {A} {text} {Is} {at} most narrow law =
    respelled (first (number_in_spelled w16 (2 ^ 16) wide16)
    (for_each length (flat_map text) (λ xs. (length xs ≤ most) × AllByRecursion Is xs) _
    each))
    (λ xs. refl) (λ xs is. is.1) (λ xs is. (omega (arith, narrow, is.0), is))
  where
    each : (count : ℕ) → Spelled (flat_map text)
        (λ xs. ((length xs ≤ most) × AllByRecursion Is xs) × (length xs ≡ count))
        (λ bytes. refused_if (nat_lt most count) malformed_fault >>= λ few. many_at at count bytes)
    each count =
        behind_test (nat_lt most count) malformed_fault
        (λ xs few is. ((omega (arith, ltb-false most count few, is.0), is.1), is.0))
        (λ xs is. (le-ltb most count (omega (arith, is.0.0, is.1)), (is.1, is.0.1)))
        (many_spelled count law)
