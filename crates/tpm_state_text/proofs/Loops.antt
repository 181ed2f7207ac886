-- Lemmas about reading or writing slots one after another: the slots processed so far, followed by
-- the remaining slots, are the whole list.
use Rattle.std.proofs.Common.{◌≡◌, ℕ, zero, suc, ◌+◌, ◌-◌, ◌*◌, ◌^◌, ◌<◌, ◌≤◌, Bool, List, [], ◌∷◌, ◌++◌, length, take, drop, get_or, slice_set, Option, Some, None, Result, Ok, Err, refl, sym, ap, ◌∙◌, append_assoc, arith}
use Rattle.std.specs.List.{flat_map}
use Rattle.std.proofs.Math.Nat.{mul-le-mul_left}
use Rattle.std.proofs.lemmas.List.{append-nil, take_all, take_more_set}
use Rattle.tpm_bytes.specs.Many.{many_at}
use Rattle.tpm_bytes.proofs.Joining.{behind, none_more}
use Rattle.tpm_containers.specs.Slots.{at_place, free}
use Rattle.tpm_image_text.specs.Fields.{bytes_in, malformed_fault}
use Rattle.tpm_image_text.specs.Filling.{Fills}
use Rattle.tpm_image_text.specs.Sizes.{text_size}
use Rattle.tpm_image_text.specs.declared.fault.FillFault.{FillFault}
use Rattle.tpm_image_text.specs.declared.fault.FillFault.TheVariants as unfilled
use Rattle.tpm_image_text.specs.declared.fault.Malformed.{Malformed}
use Rattle.tpm_image_text.proofs.BankLaws.{behind_none, one_more_read}
use Rattle.tpm_image_text.proofs.Writing.{written_more}
use Rattle.tpm_state_text.specs.Banks.{bank_in}
use Rattle.tpm_state_text.specs.Filling.{FillsPlace, with_value}

-- ---- reading

module _ {A E : Type 0} (at : List ℕ → Result (A × List ℕ) E) (count : ℕ) where
  -- the result of reading the whole list: the elements before a position, followed by the elements
  -- that remain to be read
  pub left : (place : ℕ) (things : List A) (text : List ℕ) → Result (List A × List ℕ) E
  left place things text = behind (take place things) (many_at at (count - place) text)

  pub left_begun : (things : List A) (text : List ℕ) → left 0 things text ≡ many_at at count text
  unfolding left
  left_begun things text = behind_none _
      ∙ ap (λ (n : ℕ). many_at at n text) (let all : count - 0 ≡ count = omega arith in all)

  pub left_more : (place : ℕ) (things : List A) (thing : A) (text rest : List ℕ) → place < count
      → length things ≡ count → at text ≡ Ok (thing, rest)
      → left (place + 1) (slice_set things place thing) rest ≡ left place things text
  unfolding left
  left_more place things thing text rest below long is =
      ap (λ (front : List A). behind front (many_at at (count - (place + 1)) rest))
      (take_more_set things place thing (omega (arith, below, long)))
      ∙ one_more_read at (take place things) (count - place) (count - (place + 1)) thing text rest
      (omega (arith, below)) is

  pub left_done : (place : ℕ) (things : List A) (text : List ℕ) → place ≡ count
      → length things ≡ count → left place things text ≡ Ok (things, text)
  unfolding left
  left_done place things text whole long =
      let none : count - place ≡ 0 = omega (arith, whole) in
      ap (λ (n : ℕ). behind (take place things) (many_at at n text)) none
      ∙ ap (λ (l : List A). let done : Result (List A × List ℕ) E = Ok (l, text) in done)
      (append-nil (take place things) ∙ take_all place things (omega (arith, whole, long)))

  pub left_cut : (place : ℕ) (things : List A) (fault : E) (text : List ℕ) → place < count
      → at text ≡ Err fault → left place things text ≡ Err fault
  unfolding left
  left_cut place things fault text below is =
      none_more at (take place things) (count - place) (count - (place + 1)) fault text
      (omega (arith, below)) is

pub ruleset left_laws = (left_begun, left_more, left_done, left_cut)

-- the result of reading a whole bank: the values before a position, followed by the values that
-- remain to be read
pub bank_left : (size place : ℕ) (values : List (List ℕ)) (text : List ℕ)
    → Result (List (List ℕ) × List ℕ) Malformed
bank_left size place values text = left (bytes_in size) 24 place values text

pub bank_begun : (size : ℕ) (values : List (List ℕ)) (text : List ℕ)
    → bank_left size 0 values text ≡ bank_in size text
unfolding bank_in bank_left
bank_begun size values text = left_begun (bytes_in size) 24 values text

pub bank_more : (size place : ℕ) (values : List (List ℕ)) (value text rest : List ℕ) → place < 24
    → length values ≡ 24 → bytes_in size text ≡ Ok (value, rest)
    → bank_left size (place + 1) (slice_set values place value) rest
    ≡ bank_left size place values text
unfolding bank_left
bank_more size place values value text rest below long is =
    left_more (bytes_in size) 24 place values value text rest below long is

pub bank_done : (size place : ℕ) (values : List (List ℕ)) (text : List ℕ) → place ≡ 24
    → length values ≡ 24 → bank_left size place values text ≡ Ok (values, text)
unfolding bank_left
bank_done size place values text whole long =
    left_done (bytes_in size) 24 place values text whole long

pub bank_cut : (size place : ℕ) (values : List (List ℕ)) (fault : Malformed) (text : List ℕ)
    → place < 24 → bytes_in size text ≡ Err fault → bank_left size place values text ≡ Err fault
unfolding bank_left
bank_cut size place values fault text below is =
    left_cut (bytes_in size) 24 place values fault text below is

pub ruleset bank_laws = (bank_begun, bank_more, bank_done, bank_cut)

-- ---- slots

pub length_set : {A : Type 0} (xs : List A) (place : ℕ) (x : A)
    → length (slice_set xs place x) ≡ length xs
length_set [] place x = refl
length_set (y ∷ xs) zero x = refl
length_set (y ∷ xs) (suc place) x = ap (λ (n : ℕ). suc n) (length_set xs place x)

-- The slot `from` and all later slots are free.
pub IsFreeFrom : {A : Type 0} → ℕ → List (Option A) → Type 0
IsFreeFrom from places = (place : ℕ) → from ≤ place → at_place places place ≡ None

at_free : {A : Type 0} (count place : ℕ) → at_place (free {X = A} count) place ≡ None
at_free zero place = refl
at_free (suc count) zero = refl
at_free (suc count) (suc place) = at_free count place

pub all_free : {A : Type 0} (count : ℕ) (places : List (Option A)) → places ≡ free count
    → IsFreeFrom 0 places
unfolding IsFreeFrom
all_free count places are place from = rw are (at_free count place)

pub this_free : {A : Type 0} (from : ℕ) (places : List (Option A)) → IsFreeFrom from places
    → at_place places from ≡ None
unfolding IsFreeFrom
this_free from places are = are from (omega arith)

at_other : {A : Type 0} (places : List (Option A)) (place other : ℕ) (value : Option A)
    → place < other → at_place (slice_set places place value) other ≡ at_place places other
at_other [] place other value below = refl
at_other (x ∷ xs) zero zero value below = absurd (omega arith)
at_other (x ∷ xs) zero (suc other) value below = refl
at_other (x ∷ xs) (suc place) zero value below = absurd (omega arith)
at_other (x ∷ xs) (suc place) (suc other) value below = at_other xs place other value (omega arith)

pub free_more : {A : Type 0} (from : ℕ) (places : List (Option A)) (value : Option A)
    → IsFreeFrom from places → IsFreeFrom (from + 1) (slice_set places from value)
unfolding IsFreeFrom
free_more from places value are place above =
    at_other places from place value (omega arith) ∙ are place (omega arith)

set_none : {A : Type 0} (places : List (Option A)) (place : ℕ) → at_place places place ≡ None
    → slice_set places place None ≡ places
set_none [] place is = refl
set_none (x ∷ xs) zero is = ap (λ (c : Option _). c ∷ xs) (sym is)
set_none (x ∷ xs) (suc place) is = ap (λ (l : List (Option _)). x ∷ l) (set_none xs place is)

-- storing an optional value in a free slot sets the slot to the value, or leaves the slot free if
-- there is no value
pub value_set : {A : Type 0} (places : List (Option A)) (place : ℕ) (value : Option A)
    → at_place places place ≡ None → with_value places place value ≡ slice_set places place value
value_set places place None is = sym (set_none places place is)
value_set places place (Some x) is = refl

-- if reading a slot fails, the whole call fails with the same fault
pub place_cut : {A : Type 0} (can : Bool) (read : Result (Option A × List ℕ) Malformed)
    (old new filled : List (Option A)) (place : ℕ) (rest behind : List ℕ)
    (whole : Result (List (Option A) × List ℕ) Malformed) (fault : FillFault)
    → (read ≡ Err malformed_fault → whole ≡ Err malformed_fault)
    → FillsPlace can read old place (Err fault) new rest → Fills can whole filled (Err fault) behind
place_cut can read old new filled place rest behind whole unfilled.Malformed ends is = ends is
place_cut can read old new filled place rest behind whole unfilled.NoMemory ends may = may

-- ---- writing

at_is : {A : Type 0} (places : List (Option A)) (place : ℕ) → place < length places
    → at_place places place ≡ get_or places place None
at_is [] place below = absurd (omega arith)
at_is (x ∷ xs) zero below = refl
at_is (x ∷ xs) (suc place) below = at_is xs place (omega arith)

-- writing one more slot does not change the final output
pub placed_more : {A : Type 0} (text_of : Option A → List ℕ) (text new whole : List ℕ)
    (places : List (Option A)) (place : ℕ) → place < length places
    → new ≡ text ++ text_of (at_place places place)
    → text ++ flat_map text_of (drop place places) ≡ whole
    → new ++ flat_map text_of (drop (place + 1) places) ≡ whole
placed_more text_of text new whole places place below more so_far =
    written_more text_of text new whole places place None below
    (more ∙ ap (λ (v : Option _). text ++ text_of v) (at_is places place below)) so_far

-- if 24 elements of the same size fit, each of them fits
pub one_fits : (size i length start : ℕ) → size ≤ 32 → i < 24 → start + 24 * size ≤ text_size
    → length ≡ start + i * size → (size * 1 < 2 ^ 63) × (length + size ≤ text_size)
one_fits size i length start few below room is =
    let up_to : size * (i + 1) ≤ size * 24 = mul-le-mul_left size (omega (arith, below)) in
    (omega (arith, few), omega (arith, up_to, room, is))

-- writing four encodings one after another writes their concatenation
pub four_written : (t a b c d p q r s : List ℕ) → a ≡ t ++ p → b ≡ a ++ q → c ≡ b ++ r → d ≡ c ++ s
    → d ≡ t ++ (p ++ q ++ r ++ s)
four_written t a b c d p q r s first second third fourth =
    rw (fourth, third, second, first) (simp append_assoc refl)
