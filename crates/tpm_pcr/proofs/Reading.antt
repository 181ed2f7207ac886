-- Reading PCRs one by one, bank by bank, returns the first eight values of the selection.
use Rattle.tpm_bytes.specs.Numbers.{numbers_below}
use Rattle.std.proofs.Common.{◌≡◌, ℕ, ◌+◌, ◌-◌, ◌<◌, ◌≤◌, Bool, true, false, ◌&&◌, cond, nat_lt, List, [], ◌∷◌, ◌++◌, length, get_or, drop, min, take, map, filter, refl, ap, sym, ◌∙◌, arith, add-one, append_assoc, append-nil, length-append, length-take}
use Rattle.std.proofs.Math.Seq.{take-append-add}
use Rattle.std.proofs.lemmas.List.{drop_more, take-append-le, take_all, map-append, length-map}
use Rattle.std.proofs.lemmas.List.Elements.{filter-append}
use Rattle.std.proofs.lemmas.List.Sums.{fold-append}
use Rattle.std.proofs.lemmas.Bool.Decides.{nat_tests}
use Rattle.std.specs.List.{flat_map}
use Rattle.tpm_pcr.specs.Values.{BankValues}
use Rattle.tpm_types_common.specs.declared.pcr_selection.BankSelection.{BankSelection}
use Rattle.tpm_types_common.specs.Pcr.{is_selected, with_pcr}
use Rattle.tpm_pcr.specs.Banks.{all_pcrs, answer_selection, pcr_value, read_values, select_with, selected_pcrs, selected_values}

lt_true : (a b : ℕ) → nat_lt a b ≡ true → a < b
lt_true a b e = grind (arith, nat_tests)

le_false : (a b : ℕ) → nat_lt a b ≡ false → b ≤ a
le_false a b e = grind (arith, nat_tests)

lt_false : (a b : ℕ) → nat_lt a b ≡ false → a < b → ⊥
lt_false a b e below = let above : b ≤ a = grind (arith, nat_tests) in absurd (omega arith)

-- If a list has fewer than `room` elements, appending an element also appends it to the first
-- `room` elements.
take_push_room : {X : Type 0} (room : ℕ) (xs : List X) (x : X) → nat_lt (length xs) room ≡ true
    → take room (xs ++ x ∷ []) ≡ take room xs ++ x ∷ []
take_push_room room xs x e =
    let below : length xs < room = grind (arith, nat_tests) in
    let longer : length (xs ++ x ∷ []) ≤ room = omega (arith, length-append xs (x ∷ [])) in
    let short : length xs ≤ room = omega arith in
    take_all room (xs ++ x ∷ []) longer ∙ ap (λ l. l ++ x ∷ []) (sym (take_all room xs short))

-- If a list has at least `room` elements, appending an element does not change its first `room`
-- elements.
take_push_full : {X : Type 0} (room : ℕ) (xs : List X) (x : X) → nat_lt (length xs) room ≡ false
    → take room (xs ++ x ∷ []) ≡ take room xs
take_push_full room xs x e =
    let above : room ≤ length xs = grind (arith, nat_tests) in
    take-append-le room xs (x ∷ []) above

pub take_push : {X : Type 0} (room : ℕ) (xs : List X) (x : X) (b : Bool)
    → nat_lt (length xs) room ≡ b → take room (xs ++ x ∷ [])
    ≡ cond b (take room xs ++ x ∷ []) (take room xs)
take_push room xs x true e = take_push_room room xs x e
take_push room xs x false e = take_push_full room xs x e

-- Two comparisons that imply each other have the same result.
same_test : (a b c d : ℕ) (x y : Bool) → nat_lt a b ≡ x → nat_lt c d ≡ y → (a < b → c < d)
    → (c < d → a < b) → x ≡ y
same_test a b c d true true e f h k = refl
same_test a b c d false false e f h k = refl
same_test a b c d true false e f h k = absurd (lt_false c d f (h (lt_true a b e)))
same_test a b c d false true e f h k = absurd (lt_false a b e (k (lt_true c d f)))

-- Suppose that `old` values were read, and then up to k more, but no more than eight in all. Then
-- the number of values is less than eight exactly when k is less than 8 - `old`.
pub room_left : (old k : ℕ) → nat_lt (old + min (8 - old) k) 8 ≡ nat_lt k (8 - old)
room_left old k = same_test (old + min (8 - old) k) 8 k (8 - old) _ _ refl refl (λ h. omega arith)
    (λ h. omega arith)

-- The first `room` chosen PCRs below n + 1 are those below n, followed by PCR n if it is chosen and
-- there is room for it.
chosen_by : (p : ℕ → Bool) (n room : ℕ) (b : Bool) → p n ≡ b
    → take room (filter p (numbers_below (n + 1)))
    ≡ cond (b && nat_lt (length (filter p (numbers_below n))) room)
    (take room (filter p (numbers_below n)) ++ n ∷ []) (take room (filter p (numbers_below n)))
chosen_by p n room true e =
    rw (add-one, filter-append p (numbers_below n) (n ∷ []), e)
    (take_push room (filter p (numbers_below n)) n _ refl)
chosen_by p n room false e =
    rw (add-one, filter-append p (numbers_below n) (n ∷ []), e, append-nil) refl

pub chosen_more : (p : ℕ → Bool) (n room : ℕ)
    → take room (filter p (numbers_below (n + 1)))
    ≡ cond (p n && nat_lt (length (filter p (numbers_below n))) room)
    (take room (filter p (numbers_below n)) ++ n ∷ []) (take room (filter p (numbers_below n)))
chosen_more p n room = chosen_by p n room (p n) refl

select_cond : (b : Bool) (pcrs : List ℕ) (n : ℕ)
    → cond b (with_pcr (select_with pcrs) n) (select_with pcrs)
    ≡ select_with (cond b (pcrs ++ n ∷ []) pcrs)
select_cond true pcrs n = sym (fold-append with_pcr 0 pcrs (n ∷ []))
select_cond false pcrs n = refl

values_cond : (b : Bool) (f : ℕ → List ℕ) (front : List (List ℕ)) (pcrs : List ℕ) (n : ℕ)
    → cond b ((front ++ map f pcrs) ++ f n ∷ []) (front ++ map f pcrs)
    ≡ front ++ map f (cond b (pcrs ++ n ∷ []) pcrs)
values_cond true f front pcrs n = append_assoc front (map f pcrs) (f n ∷ [])
    ∙ ap (λ (l : List (List ℕ)). front ++ l) (sym (map-append f pcrs (n ∷ [])))
values_cond false f front pcrs n = refl

-- The next PCR is read exactly when it is chosen and fewer than 8 - `old` chosen PCRs are below it.
reads_next : (p : ℕ → Bool) (n pcr old count : ℕ) → pcr ≡ n
    → count ≡ old + min (8 - old) (length (filter p (numbers_below n)))
    → (p pcr && nat_lt count 8) ≡ (p n && nat_lt (length (filter p (numbers_below n))) (8 - old))
reads_next p n pcr old count is counted =
    ap (λ k. p k && nat_lt count 8) is
    ∙ ap (λ k. p n && nat_lt k 8) counted
    ∙ ap (λ b. p n && b) (room_left old (length (filter p (numbers_below n))))

pub select_step : (p : ℕ → Bool) (n pcr old count select : ℕ) → pcr ≡ n
    → count ≡ old + min (8 - old) (length (filter p (numbers_below n)))
    → select ≡ select_with (take (8 - old) (filter p (numbers_below n)))
    → cond (p pcr && nat_lt count 8) (with_pcr select pcr) select
    ≡ select_with (take (8 - old) (filter p (numbers_below (n + 1))))
select_step p n pcr old count select is counted so =
    rw (reads_next p n pcr old count is counted, is, so, chosen_more p n (8 - old))
    (select_cond _ (take (8 - old) (filter p (numbers_below n))) n)

pub values_step : (p : ℕ → Bool) (f : ℕ → List ℕ) (n pcr old count : ℕ)
    (front values : List (List ℕ)) → pcr ≡ n
    → count ≡ old + min (8 - old) (length (filter p (numbers_below n)))
    → values ≡ front ++ map f (take (8 - old) (filter p (numbers_below n)))
    → cond (p pcr && nat_lt count 8) (values ++ f pcr ∷ []) values
    ≡ front ++ map f (take (8 - old) (filter p (numbers_below (n + 1))))
values_step p f n pcr old count front values is counted so =
    rw (reads_next p n pcr old count is counted, is, so, chosen_more p n (8 - old))
    (values_cond _ f front (take (8 - old) (filter p (numbers_below n))) n)

-- The number of values read is the number before this bank plus the number of chosen PCRs below n,
-- up to eight in all.
pub values_count : (p : ℕ → Bool) (f : ℕ → List ℕ) (n old count : ℕ) (front values : List (List ℕ))
    → length front ≡ old → length values ≡ count
    → values ≡ front ++ map f (take (8 - old) (filter p (numbers_below n)))
    → count ≡ old + min (8 - old) (length (filter p (numbers_below n)))
values_count p f n old count front values before after so =
    sym after
    ∙ ap length so
    ∙ length-append front (map f (take (8 - old) (filter p (numbers_below n))))
    ∙ rw (length-map, length-take, before) refl

-- All selected PCRs are below 24.
pub selected_pcrs-is : (bank : BankSelection) (n : ℕ) → n ≡ 24
    → selected_pcrs bank ≡ filter (is_selected bank.select) (numbers_below n)
unfolding selected_pcrs all_pcrs
selected_pcrs-is bank n e = rw e refl

take_within : {X : Type 0} (room : ℕ) (xs ys : List X) → room ≤ length xs
    → take room (xs ++ ys) ≡ take room xs ++ take (room - length xs) ys
take_within room xs ys fits =
    let none : room - length xs ≡ 0 = omega arith in
    take-append-le room xs ys fits ∙ rw (none, append-nil) refl

take_beyond : {X : Type 0} (room n : ℕ) (xs ys : List X) → room ≡ length xs + n
    → take room (xs ++ ys) ≡ take room xs ++ take (room - length xs) ys
take_beyond room n xs ys e =
    let left : room - length xs ≡ n = omega arith in
    let all : length xs ≤ room = omega arith in
    rw (left, take_all room xs all, e) (take-append-add xs ys n)

take_by : {X : Type 0} (room : ℕ) (xs ys : List X) (b : Bool) → nat_lt (length xs) room ≡ b
    → take room (xs ++ ys) ≡ take room xs ++ take (room - length xs) ys
take_by room xs ys true e = let below : length xs < room =
    lt_true (length xs) room e in take_beyond room (room - length xs) xs ys (omega arith)
take_by room xs ys false e = let above : room ≤ length xs =
    le_false (length xs) room e in take_within room xs ys above

-- The first `room` elements of two concatenated lists are those of the first list, followed by
-- elements of the second list if there is room for them.
pub take-append : {X : Type 0} (room : ℕ) (xs ys : List X)
    → take room (xs ++ ys) ≡ take room xs ++ take (room - length xs) ys
take-append room xs ys = take_by room xs ys _ refl

-- The number of values that still fit decreases by the number of values read.
pub room_after : (old new k : ℕ) → new ≡ old + min (8 - old) k → 8 - new ≡ (8 - old) - k
room_after old new k e = omega arith

-- The selection returned for the remaining banks starts with the next bank, followed by the
-- selection returned for the banks after it.
pub answered_more : (room after i : ℕ) (banks front : List BankSelection) (bank : BankSelection)
    (select : ℕ) → i < length banks → bank ≡ get_or banks i bank
    → select ≡ select_with (take room (selected_pcrs bank))
    → after ≡ room - length (selected_pcrs bank)
    → (front ++ record bank { select = select } ∷ []) ++ answer_selection after (drop (i + 1) banks)
    ≡ front ++ answer_selection room (drop i banks)
answered_more room after i banks front bank select below is kept left =
    append_assoc front _ _
    ∙ ap (λ (l : List BankSelection). front ++ l) (
    ap (λ n. record bank { select = select } ∷ answer_selection n (drop (i + 1) banks)) left
    ∙ ap (λ n. record bank { select = n } ∷ answer_selection (room - length (selected_pcrs bank))
    (drop (i + 1) banks)) kept
    ∙ ap (λ (b : BankSelection). answer_selection room (b ∷ drop (i + 1) banks)) is
    ∙ sym (ap (answer_selection room) (drop_more banks i bank below))
    )

-- The values read from the remaining banks are the values of the next bank, followed by the values
-- of the banks after it.
pub read_more : (all : BankValues) (room after i : ℕ) (banks : List BankSelection)
    (bank : BankSelection) (front : List (List ℕ)) → i < length banks → bank ≡ get_or banks i bank
    → after ≡ room - length (selected_pcrs bank)
    → (front ++ take room (selected_values all bank)) ++ read_values all after (drop (i + 1) banks)
    ≡ front ++ read_values all room (drop i banks)
unfolding read_values
read_more all room after i banks bank front below is left =
    append_assoc front _ _
    ∙ ap (λ (l : List (List ℕ)). front ++ l) (
    ap (λ n. take room (selected_values all bank)
    ++ take n (flat_map (selected_values all) (drop (i + 1) banks)))
    (left ∙ ap (λ n. room - n)
    (sym (length-map (selected_pcrs bank) (pcr_value all bank.hash))))
    ∙ sym (take-append room (selected_values all bank)
    (flat_map (selected_values all) (drop (i + 1) banks)))
    ∙ ap (λ (b : BankSelection). take room
    (flat_map (selected_values all) (b ∷ drop (i + 1) banks))) is
    ∙ sym (ap (λ l. take room (flat_map (selected_values all) l)) (drop_more banks i bank below))
    )

pub read_values-nil : (all : BankValues) (room : ℕ) → read_values all room [] ≡ []
unfolding read_values
read_values-nil all room = take_all room [] (omega arith)
