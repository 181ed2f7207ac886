-- Lemmas about reading the values of a PCR bank one after another.
use Rattle.std.proofs.Common.{◌≡◌, ℕ, suc, ◌+◌, ◌-◌, ◌<◌, List, [], ◌∷◌, ◌++◌, length, take, slice_set, Result, Ok, Err, refl, sym, ap, ◌∙◌, arith}
use Rattle.std.proofs.lemmas.List.{append-nil, take_all, take_more_set}
use Rattle.tpm_bytes.specs.Many.{many_at}
use Rattle.tpm_bytes.specs.Reading.{◌>>=◌}
use Rattle.tpm_bytes.proofs.Joining.{behind, moved, none_more}
use Rattle.tpm_image_text.specs.Body.{bank_in}
use Rattle.tpm_image_text.specs.Fields.{bytes_in}
use Rattle.tpm_image_text.specs.declared.fault.Malformed.{Malformed}

-- prepending an empty list to the elements that were read changes nothing
pub behind_none : {A E : Type 0} (read : Result (List A × List ℕ) E) → behind [] read ≡ read
behind_none (Ok x) = refl
behind_none (Err e) = refl

-- reading one more element of a list does not change the result of the whole loop
pub one_more_read : {A E : Type 0} (at : List ℕ → Result (A × List ℕ) E) (front : List A) (m n : ℕ)
    (x : A) (text rest : List ℕ) → m ≡ suc n → at text ≡ Ok (x, rest)
    → behind (front ++ x ∷ []) (many_at at n rest) ≡ behind front (many_at at m text)
one_more_read {A} {E} at front m n x text rest e is =
    moved front x (many_at at n rest)
    ∙ ap (λ (r : Result (A × List ℕ) E). behind front
    (r >>= λ first. many_at at n first.1 >>= λ others. Ok (first.0 ∷ others.0, others.1)))
    (sym is)
    ∙ ap (λ k. behind front (many_at at k text)) (sym e)

-- the result of the whole loop: the values before a position, followed by the values that remain to
-- be read
pub values_left : (size place : ℕ) (values : List (List ℕ)) (text : List ℕ)
    → Result (List (List ℕ) × List ℕ) Malformed
values_left size place values text =
    behind (take place values) (many_at (bytes_in size) (16 - place) text)

pub bank_begun : (size : ℕ) (values : List (List ℕ)) (text : List ℕ)
    → values_left size 0 values text ≡ bank_in size text
unfolding bank_in values_left
bank_begun size values text = behind_none _

-- reading one more value of a bank does not change the result of the whole loop
pub bank_more : (size place : ℕ) (values : List (List ℕ)) (value text rest : List ℕ) → place < 16
    → length values ≡ 16 → bytes_in size text ≡ Ok (value, rest)
    → values_left size (place + 1) (slice_set values place value) rest
    ≡ values_left size place values text
unfolding values_left
bank_more size place values value text rest below long is =
    let at = bytes_in size in
    ap (λ (l : List (List ℕ)). behind l (many_at at (16 - (place + 1)) rest))
    (take_more_set values place value (omega (arith, below, long)))
    ∙ one_more_read at (take place values) (16 - place) (16 - (place + 1)) value text rest
    (omega (arith, below)) is

-- after all values of a bank are read, the result of the loop consists of these values
pub bank_done : (size place : ℕ) (values : List (List ℕ)) (text : List ℕ) → place ≡ 16
    → length values ≡ 16 → values_left size place values text ≡ Ok (values, text)
unfolding values_left
bank_done size place values text whole long =
    let left : 16 - place ≡ 0 = omega (arith, whole) in
    ap (λ (n : ℕ). behind (take place values) (many_at (bytes_in size) n text)) left
    ∙ ap (λ (l : List (List ℕ)). Ok (l, text))
    (append-nil (take place values) ∙ take_all place values (omega (arith, whole, long)))

-- if a value of a bank is truncated, the whole loop fails with the same fault as reading the value
pub bank_cut : (size place : ℕ) (values : List (List ℕ)) (fault : Malformed) (text : List ℕ)
    → place < 16 → bytes_in size text ≡ Err fault → values_left size place values text ≡ Err fault
unfolding values_left
bank_cut size place values fault text below is =
    none_more (bytes_in size) (take place values) (16 - place) (16 - (place + 1)) fault text
    (omega (arith, below)) is

pub ruleset bank_laws = (bank_begun, bank_more, bank_done, bank_cut)
