-- If two numbers are encoded in the same number of bytes, the first byte in which they differ
-- decides which number is less.
use Rattle.std.proofs.Common.{◌≡◌, ℕ, suc, zero, ◌+◌, ◌-◌, ◌*◌, ◌%◌, ◌^◌, ◌<◌, ◌≤◌, Bool, true, false, ◌==◌, ◌&&◌, ◌||◌, nat_le, nat_lt, int_lt, List, [], ◌∷◌, length, drop, take, length-drop, slice_index, pos, negsuc, ◌-ℤ◌, refl, ap, arith, subst, sym, ◌∙◌}
use Rattle.std.proofs.lemmas.Bool.{eq-eqb, eqb-true, eqb-false, ne_eqb, le-ltb, leb-false, leb-true, lt-ltb, ltb-false, ltb-true}
use Rattle.std.proofs.Math.Seq.{take-length}
use Rattle.std.proofs.lemmas.List.{length-take}
use Rattle.std.proofs.lemmas.Int.Digits.{number_lt}
use Rattle.std.specs.Int.Digits.{AllBelowBase, number_from_digits_after}
use Rattle.tpm_policy.specs.Comparison.{signed_number, unsigned_number}

abbrev pub AreBytes : List ℕ → Type 0
AreBytes bytes = (i : ℕ) → slice_index bytes i < 256

-- the number that a prefix and these bytes encode together, if the prefix alone encodes `n`
abbrev number_after : ℕ → List ℕ → ℕ
number_after n bytes = number_from_digits_after 256 n bytes

-- If one number is less than another, it is still less after the same number of bytes is appended
-- to both.
number_after_lt : (m n : ℕ) (xs ys : List ℕ) → length xs ≡ length ys → AreBytes xs → m < n
    → number_after m xs < number_after n ys
number_after_lt m n [] [] same fit less = less
number_after_lt m n [] (y ∷ ys) same fit less = absurd (omega arith)
number_after_lt m n (x ∷ xs) [] same fit less = absurd (omega arith)
number_after_lt m n (x ∷ xs) (y ∷ ys) same fit less =
    let small : x < 256 = fit 0 in
    number_after_lt (m * 256 + x) (n * 256 + y) xs ys (omega arith) (λ i. fit (suc i)) (omega arith)

-- whether a number is less than another, as decided by the first byte in which they differ
abbrev is_less : List ℕ → List ℕ → Bool
is_less [] others = false
is_less (byte ∷ bytes) [] = false
is_less (byte ∷ bytes) (other ∷ others) =
    nat_lt byte other || (byte == other && is_less bytes others)

-- If the previous bytes are equal, the next bytes x and y decide which number is less. If x and y
-- are equal too, the remaining bytes decide.
step_is : (m x y : ℕ) (xs ys : List ℕ) (lt eq : Bool) → length xs ≡ length ys
    → AreBytes xs → AreBytes ys
    → ((n : ℕ) → nat_lt (number_after n xs) (number_after n ys) ≡ is_less xs ys)
    → nat_lt x y ≡ lt → (x == y) ≡ eq
    → nat_lt (number_after (m * 256 + x) xs) (number_after (m * 256 + y) ys)
    ≡ (lt || (eq && is_less xs ys))
step_is m x y xs ys true eq same fit fits rest is_lt is_eq =
    let less : x < y = ltb-true x y is_lt in
    lt-ltb _ _ (number_after_lt (m * 256 + x) (m * 256 + y) xs ys same fit (omega arith))
step_is m x y xs ys false true same fit fits rest is_lt is_eq =
    subst (λ (z : ℕ). nat_lt (number_after (m * 256 + x) xs) (number_after (m * 256 + z) ys)
    ≡ is_less xs ys)
    (eqb-true x y is_eq) (rest (m * 256 + x))
step_is m x y xs ys false false same fit fits rest is_lt is_eq =
    let most : y ≤ x = ltb-false x y is_lt in
    let other = eqb-false x y is_eq in
    let more : y < x = omega (arith, other) in
    let least : number_after (m * 256 + y) ys < number_after (m * 256 + x) xs =
    number_after_lt (m * 256 + y) (m * 256 + x) ys xs (sym same) fits (omega arith) in
    le-ltb _ _ (omega arith)

less_after : (xs ys : List ℕ) → length xs ≡ length ys → AreBytes xs → AreBytes ys
    → (m : ℕ) → nat_lt (number_after m xs) (number_after m ys) ≡ is_less xs ys
less_after [] [] same fit fits m = le-ltb m m (omega arith)
less_after [] (y ∷ ys) same fit fits m = absurd (omega arith)
less_after (x ∷ xs) [] same fit fits m = absurd (omega arith)
less_after (x ∷ xs) (y ∷ ys) same fit fits m =
    let rest : length xs ≡ length ys = omega arith in
    step_is m x y xs ys (nat_lt x y) (x == y) rest (λ i. fit (suc i)) (λ i. fits (suc i))
    (less_after xs ys rest (λ i. fit (suc i)) (λ i. fits (suc i))) refl refl

-- The first bytes of two numbers decide which is less; if they are equal, the remaining bytes do.
less_by_first : (x y : ℕ) (xs ys : List ℕ) → length xs ≡ length ys
    → AreBytes (x ∷ xs) → AreBytes (y ∷ ys)
    → nat_lt (unsigned_number (x ∷ xs)) (unsigned_number (y ∷ ys))
    ≡ (nat_lt x y || (x == y && nat_lt (unsigned_number xs) (unsigned_number ys)))
less_by_first x y xs ys same fit fits =
    less_after (x ∷ xs) (y ∷ ys) (omega arith) fit fits 0
    ∙ ap (λ (less : Bool). nat_lt x y || (x == y && less))
    (sym (less_after xs ys same (λ i. fit (suc i)) (λ i. fits (suc i)) 0))

-- If a and b are ordered like x and y, comparing a and b has the same result as comparing x and y.
same_lt : (a b x y : ℕ) → (x < y → a < b) → (y ≤ x → b ≤ a) → nat_lt a b ≡ nat_lt x y
same_lt a b x y up down = by (nat_lt x y) refl
  where
    by : (t : Bool) → nat_lt x y ≡ t → nat_lt a b ≡ t
    by true is = lt-ltb a b (up (ltb-true x y is))
    by false is = le-ltb a b (down (ltb-false x y is))

same_eq : (a b x y : ℕ) → (x ≡ y → a ≡ b) → (a ≡ b → x ≡ y) → (a == b) ≡ (x == y)
same_eq a b x y up down = by (x == y) refl
  where
    by : (t : Bool) → (x == y) ≡ t → (a == b) ≡ t
    by true is = eq-eqb a b (up (eqb-true x y is))
    by false is = ne_eqb a b (λ same. eqb-false x y is (down same))

all_below : (bytes : List ℕ) → AreBytes bytes → AllBelowBase 256 bytes
all_below [] fit = tt
all_below (x ∷ xs) fit = (fit 0, all_below xs (λ i. fit (suc i)))

-- Subtracting a larger natural number from a smaller number yields a negative integer.
below_zero : (n whole : ℕ) → n < whole → pos n -ℤ pos whole ≡ negsuc (whole - suc n)
below_zero n zero below = absurd (omega arith)
below_zero n (suc more) below = rw (lt-ltb n (suc more) below) refl

-- a byte plus half of a byte's range (128), wrapping around
abbrev raised : ℕ → ℕ
raised byte = (byte + 128) % 256

-- If adding 128 changes two bytes by the same amount (both or neither wrap around), it does not
-- change their order.
raised_alike : (x y : ℕ) (less : Bool) → (raised x + y ≡ raised y + x)
    → (nat_lt x y || (x == y && less))
    ≡ (nat_lt (raised x) (raised y) || (raised x == raised y && less))
raised_alike x y less alike =
    let lt : nat_lt (raised x) (raised y) ≡ nat_lt x y =
    same_lt (raised x) (raised y) x y (λ h. omega (arith, alike, h))
    (λ h. omega (arith, alike, h)) in
    let eq : (raised x == raised y) ≡ (x == y) =
    same_eq (raised x) (raised y) x y (λ h. omega (arith, alike, h))
    (λ h. omega (arith, alike, h)) in
    rw (lt, eq) refl

signed_by : (x y : ℕ) (xs ys : List ℕ) (below belows : Bool) → length xs ≡ length ys
    → AreBytes (x ∷ xs) → AreBytes (y ∷ ys) → nat_le 128 x ≡ below → nat_le 128 y ≡ belows
    → int_lt (signed_number (x ∷ xs)) (signed_number (y ∷ ys))
    ≡ (nat_lt (raised x) (raised y)
    || (raised x == raised y && nat_lt (unsigned_number xs) (unsigned_number ys)))
signed_by x y xs ys false false same fit fits is_below are_below =
    let x_low : x < 128 = leb-false 128 x is_below in
    let y_low : y < 128 = leb-false 128 y are_below in
    rw (is_below, are_below) (less_by_first x y xs ys same fit fits
    ∙ raised_alike x y _ (omega arith))
signed_by x y xs ys true true same fit fits is_below are_below =
    let x_high : 128 ≤ x = leb-true 128 x is_below in
    let y_high : 128 ≤ y = leb-true 128 y are_below in
    let x_byte : x < 256 = fit 0 in
    let y_byte : y < 256 = fits 0 in
    let lengths : length (x ∷ xs) ≡ length (y ∷ ys) = omega arith in
    let wholes : 256 ^ length (x ∷ xs) ≡ 256 ^ length (y ∷ ys) = ap (λ (n : ℕ). 256 ^ n) lengths in
    let one = number_lt 256 (x ∷ xs) (all_below (x ∷ xs) fit) in
    let other = number_lt 256 (y ∷ ys) (all_below (y ∷ ys) fits) in
    let turned : nat_lt (256 ^ length (y ∷ ys) - suc (unsigned_number (y ∷ ys)))
    (256 ^ length (x ∷ xs) - suc (unsigned_number (x ∷ xs)))
    ≡ nat_lt (unsigned_number (x ∷ xs)) (unsigned_number (y ∷ ys)) =
    same_lt _ _ _ _ (λ h. omega (arith, one, other, wholes, h))
    (λ h. omega (arith, one, other, wholes, h)) in
    rw (is_below, are_below, below_zero _ _ one, below_zero _ _ other)
    (turned ∙ less_by_first x y xs ys same fit fits ∙ raised_alike x y _ (omega arith))
signed_by x y xs ys true false same fit fits is_below are_below =
    let x_high : 128 ≤ x = leb-true 128 x is_below in
    let y_low : y < 128 = leb-false 128 y are_below in
    let x_byte : x < 256 = fit 0 in
    let one = number_lt 256 (x ∷ xs) (all_below (x ∷ xs) fit) in
    let less : nat_lt (raised x) (raised y) ≡ true = lt-ltb _ _ (omega arith) in
    rw (is_below, are_below, below_zero _ _ one, less) refl
signed_by x y xs ys false true same fit fits is_below are_below =
    let x_low : x < 128 = leb-false 128 x is_below in
    let y_high : 128 ≤ y = leb-true 128 y are_below in
    let y_byte : y < 256 = fits 0 in
    let other = number_lt 256 (y ∷ ys) (all_below (y ∷ ys) fits) in
    let less : nat_lt (raised x) (raised y) ≡ false = le-ltb _ _ (omega arith) in
    let differ : (raised x == raised y) ≡ false = ne_eqb _ _ (λ h. omega (arith, h)) in
    rw (is_below, are_below, below_zero _ _ other, less, differ) refl

-- the bytes after the first byte
abbrev rest_of : List ℕ → List ℕ
rest_of bytes = take (length bytes - 1) (drop 1 bytes)

rest_is : (x : ℕ) (xs : List ℕ) → rest_of (x ∷ xs) ≡ xs
rest_is x xs = let size : length (x ∷ xs) - 1 ≡ length xs =
    omega arith in rw (size) (take-length xs)

-- If two byte strings have the same size, they still have the same size without their first bytes.
pub rest-length : (bytes others : List ℕ) → length bytes ≡ length others
    → length (rest_of bytes) ≡ length (rest_of others)
rest-length bytes others same = simp (length-take, length-drop, same) refl

-- The first bytes of two nonempty byte strings decide which is less; if they are equal, the
-- remaining bytes decide.
pub unsigned_less : (bytes others : List ℕ) → 1 ≤ length bytes → length bytes ≡ length others
    → AreBytes bytes → AreBytes others
    → nat_lt (unsigned_number bytes) (unsigned_number others)
    ≡ (nat_lt (slice_index bytes 0) (slice_index others 0)
    || (slice_index bytes 0 == slice_index others 0
    && nat_lt (unsigned_number (rest_of bytes)) (unsigned_number (rest_of others))))
unsigned_less [] others some same fit fits = absurd (omega arith)
unsigned_less (x ∷ xs) [] some same fit fits = absurd (omega arith)
unsigned_less (x ∷ xs) (y ∷ ys) some same fit fits =
    rw (rest_is x xs, rest_is y ys) (less_by_first x y xs ys (omega arith) fit fits)

pub signed_less : (bytes others : List ℕ) → 1 ≤ length bytes → length bytes ≡ length others
    → AreBytes bytes → AreBytes others
    → int_lt (signed_number bytes) (signed_number others)
    ≡ (nat_lt (raised (slice_index bytes 0)) (raised (slice_index others 0))
    || (raised (slice_index bytes 0) == raised (slice_index others 0)
    && nat_lt (unsigned_number (rest_of bytes)) (unsigned_number (rest_of others))))
signed_less [] others some same fit fits = absurd (omega arith)
signed_less (x ∷ xs) [] some same fit fits = absurd (omega arith)
signed_less (x ∷ xs) (y ∷ ys) some same fit fits =
    rw (rest_is x xs, rest_is y ys)
    (signed_by x y xs ys (nat_le 128 x) (nat_le 128 y) (omega arith) fit fits refl refl)
