-- Executing a sequence of entries yields a valid state. Truncating the sequence leaves complete
-- entries and possibly a part of one more entry.
use Rattle.std.proofs.Common.{◌≡◌, ℕ, ◌+◌, ◌-◌, ◌<◌, ◌≤◌, Bool, true, false, List, [], ◌∷◌, ◌++◌, length, take, refl, sym, ap, ◌∙◌, subst, arith, append_assoc, length-append}
use Rattle.std.specs.Prelude.{nat_le}
use Rattle.std.proofs.lemmas.Bool.Decides.{nat_tests}
use Rattle.std.proofs.lemmas.Grind.{common_steps}
use Rattle.std.proofs.lemmas.List.{take_all, take-append-le}
use Rattle.std.proofs.Math.Seq.{take-append-add}
use Rattle.tpm_keeping.specs.Journal.{Entered, Journal, IsJournal, Spot, entries, next_spot, run, trail, whole_in}

-- a head, followed by the entries for commands
abbrev pub whole : Journal → (head : List ℕ) → Spot → List (List ℕ) → List ℕ
whole j head p cs = head ++ entries j p cs

pub entered_both : (j : Journal) (cs ds : List (List ℕ)) → Entered j cs → Entered j ds
    → Entered j (cs ++ ds)
entered_both j [] ds h more = more
entered_both j (c ∷ cs) ds h more = (h.0, entered_both j cs ds h.1 more)

pub entered_first : (j : Journal) (cs ds : List (List ℕ)) → Entered j (cs ++ ds) → Entered j cs
entered_first j [] ds h = tt
entered_first j (c ∷ cs) ds h = (h.0, entered_first j cs ds h.1)

pub entered_last : (j : Journal) (cs ds : List (List ℕ)) → Entered j (cs ++ ds) → Entered j ds
entered_last j [] ds h = h
entered_last j (c ∷ cs) ds h = entered_last j cs ds h.1

pub run_both : (j : Journal) (s : List ℕ) (cs ds : List (List ℕ))
    → run j s (cs ++ ds) ≡ run j (run j s cs) ds
run_both j s [] ds = refl
run_both j s (c ∷ cs) ds = run_both j (j.after s c) cs ds

pub trail_both : (j : Journal) (p : Spot) (cs ds : List (List ℕ))
    → trail j p (cs ++ ds) ≡ trail j (trail j p cs) ds
trail_both j p [] ds = refl
trail_both j p (c ∷ cs) ds = trail_both j (next_spot j p c) cs ds

-- The state after a list of entries is the result of executing their commands.
pub trail_state : (j : Journal) (p : Spot) (cs : List (List ℕ))
    → (trail j p cs).state ≡ run j p.state cs
trail_state j p [] = refl
trail_state j p (c ∷ cs) = trail_state j (next_spot j p c) cs

-- The result of executing commands in a valid state is a valid state.
pub run_lives : (j : Journal) (s : List ℕ) (cs : List (List ℕ)) → IsJournal j → j.is_state s ≡ true
    → j.is_state (run j s cs) ≡ true
run_lives j s [] laws lives = lives
run_lives j s (c ∷ cs) laws lives = run_lives j (j.after s c) cs laws (laws.leads s c lives)

pub trail_lives : (j : Journal) (p : Spot) (cs : List (List ℕ)) → IsJournal j
    → j.is_state p.state ≡ true → j.is_state (trail j p cs).state ≡ true
trail_lives j p [] laws lives = lives
trail_lives j p (c ∷ cs) laws lives =
    trail_lives j (next_spot j p c) cs laws (laws.leads p.state c lives)

pub entries_both : (j : Journal) (p : Spot) (cs ds : List (List ℕ))
    → entries j p (cs ++ ds) ≡ entries j p cs ++ entries j (trail j p cs) ds
entries_both j p [] ds = refl
entries_both j p (c ∷ cs) ds =
    let rest = entries j (next_spot j p c) cs in
    ap (λ (t : List ℕ). j.entry p c ++ t) (entries_both j (next_spot j p c) cs ds)
    ∙ sym (append_assoc (j.entry p c) rest (entries j (trail j (next_spot j p c) cs) ds))

pub whole_both : (j : Journal) (head : List ℕ) (p : Spot) (cs ds : List (List ℕ))
    → whole j head p (cs ++ ds) ≡ whole j head p cs ++ entries j (trail j p cs) ds
whole_both j head p cs ds =
    ap (λ (t : List ℕ). head ++ t) (entries_both j p cs ds)
    ∙ sym (append_assoc head (entries j p cs) (entries j (trail j p cs) ds))

pub whole_length : (j : Journal) (head : List ℕ) (p : Spot) (cs ds : List (List ℕ))
    → length (whole j head p cs) ≤ length (whole j head p (cs ++ ds))
whole_length j head p cs ds =
    omega (
      arith,
      ap length (whole_both j head p cs ds),
      length-append (whole j head p cs) (entries j (trail j p cs) ds),
    )

-- ---- prefixes

pub front_past : (x y : List ℕ) (count : ℕ) → length x ≤ count
    → take count (x ++ y) ≡ x ++ take (count - length x) y
front_past x y count le =
    let same : length x + (count - length x) ≡ count = omega arith in
    ap (λ (n : ℕ). take n (x ++ y)) (sym same) ∙ take-append-add x y (count - length x)

front_twice : (n : ℕ) (x : List ℕ) → take n (take n x) ≡ take n x
front_twice n x = take_all n (take n x) (grind (arith, common_steps))

-- If the encoding of some entries is truncated and litter is appended, the result consists of
-- complete entries and a torn end, which may be empty.
pub record IsCut (j : Journal) (s : Spot) (cs : List (List ℕ)) (tail : List ℕ) (count : ℕ)
    (litter : List ℕ) : Type 0 where
  pub left : List ℕ
  pub is : take count (entries j s cs ++ tail) ++ litter ≡ entries j s (whole_in j s cs count)
      ++ left
  pub torn : j.is_torn (trail j s (whole_in j s cs count)) left ≡ true

cut_one : (j : Journal) (s : Spot) (c : List ℕ) (cs : List (List ℕ)) (tail : List ℕ) (count : ℕ)
    (litter : List ℕ) → IsJournal j
    → j.is_state s.state ≡ true → j.is_entered c ≡ true → j.is_litter litter ≡ true → (b : Bool)
    → nat_le (length (j.entry s c)) count ≡ b
    → IsCut j (next_spot j s c) cs tail (count - length (j.entry s c)) litter
    → IsCut j s (c ∷ cs) tail count litter
cut_one j s c cs tail count litter laws lives entered ok true is h =
    let e = j.entry s c in
    let m = count - length e in
    let rest = entries j (next_spot j s c) cs in
    let inside = whole_in j (next_spot j s c) cs m in
    let fits : length e ≤ count = grind (arith, nat_tests) in
    let all : whole_in j s (c ∷ cs) count ≡ c ∷ inside = rw is refl in
    let text : take count ((e ++ rest) ++ tail) ++ litter
    ≡ (e ++ entries j (next_spot j s c) inside) ++ h.left =
    ap (λ (t : List ℕ). take count t ++ litter) (append_assoc e rest tail)
    ∙ (ap (λ (t : List ℕ). t ++ litter) (front_past e (rest ++ tail) count fits)
    ∙ (append_assoc e (take m (rest ++ tail)) litter
    ∙ (ap (λ (t : List ℕ). e ++ t) h.is
    ∙ sym (append_assoc e (entries j (next_spot j s c) inside) h.left)))) in
    record {
      left = h.left;
      is = text ∙ ap (λ (ds : List (List ℕ)). entries j s ds ++ h.left) (sym all);
      torn = ap (λ (ds : List (List ℕ)). j.is_torn (trail j s ds) h.left) all ∙ h.torn;
    }
cut_one j s c cs tail count litter laws lives entered ok false is h =
    let e = j.entry s c in
    let rest = entries j (next_spot j s c) cs in
    let short : count < length e = grind (arith, nat_tests) in
    let none : whole_in j s (c ∷ cs) count ≡ [] = rw is refl in
    let text : take count ((e ++ rest) ++ tail) ≡ take count e =
    ap (take count) (append_assoc e rest tail)
    ∙ take-append-le count e (rest ++ tail) (omega arith) in
    let torn : j.is_torn s (take count e ++ litter) ≡ true =
    ap (λ (t : List ℕ). j.is_torn s (t ++ litter)) (sym (front_twice count e))
    ∙ laws.littered s (take count e) count litter (laws.front s c count lives entered short) ok in
    record {
      left = take count e ++ litter;
      is = ap (λ (t : List ℕ). t ++ litter) text
          ∙ ap (λ (ds : List (List ℕ)). entries j s ds ++ (take count e ++ litter)) (sym none);
      torn = ap (λ (ds : List (List ℕ)). j.is_torn (trail j s ds) (take count e ++ litter)) none
          ∙ torn;
    }

pub is_cut : (j : Journal) (s : Spot) (cs : List (List ℕ)) (tail : List ℕ) (count : ℕ)
    (litter : List ℕ) → IsJournal j
    → j.is_state s.state ≡ true → Entered j cs → j.is_litter litter ≡ true
    → j.is_torn (trail j s cs) tail ≡ true → IsCut j s cs tail count litter
is_cut j s [] tail count litter laws lives entered ok torn = record {
  left = take count tail ++ litter;
  is = refl;
  torn = laws.littered s tail count litter torn ok;
}
is_cut j s (c ∷ cs) tail count litter laws lives entered ok torn =
    let rest = is_cut j (next_spot j s c) cs tail (count - length (j.entry s c)) litter laws
    (laws.leads s.state c lives) entered.1 ok torn in
    cut_one j s c cs tail count litter laws lives entered.0 ok (nat_le (length (j.entry s c)) count)
    refl rest

-- The first list of commands is a prefix of the second.
pub record IsFront (cs all : List (List ℕ)) : Type 0 where
  pub more : List (List ℕ)
  pub is : all ≡ cs ++ more

front_one : (j : Journal) (s : Spot) (c : List ℕ) (cs : List (List ℕ)) (count : ℕ) (b : Bool)
    → nat_le (length (j.entry s c)) count ≡ b
    → IsFront (whole_in j (next_spot j s c) cs (count - length (j.entry s c))) cs
    → IsFront (whole_in j s (c ∷ cs) count) (c ∷ cs)
front_one j s c cs count true is h =
    let all : whole_in j s (c ∷ cs) count
    ≡ c ∷ whole_in j (next_spot j s c) cs (count - length (j.entry s c)) = rw is refl in
    record {
      more = h.more;
      is = ap (λ (ds : List (List ℕ)). c ∷ ds) h.is
          ∙ ap (λ (ds : List (List ℕ)). ds ++ h.more) (sym all);
    }
front_one j s c cs count false is h =
    let none : whole_in j s (c ∷ cs) count ≡ [] = rw is refl in
    record { more = c ∷ cs; is = ap (λ (ds : List (List ℕ)). ds ++ (c ∷ cs)) (sym none) }

pub is_front : (j : Journal) (s : Spot) (cs : List (List ℕ)) (count : ℕ)
    → IsFront (whole_in j s cs count) cs
is_front j s [] count = record { more = []; is = refl }
is_front j s (c ∷ cs) count =
    front_one j s c cs count (nat_le (length (j.entry s c)) count) refl
    (is_front j (next_spot j s c) cs (count - length (j.entry s c)))

pub whole_in_entered : (j : Journal) (s : Spot) (cs : List (List ℕ)) (count : ℕ) → Entered j cs
    → Entered j (whole_in j s cs count)
whole_in_entered j s cs count entered =
    let front = is_front j s cs count in
    entered_first j (whole_in j s cs count) front.more (subst (Entered j) front.is entered)

-- Truncation to `count` bytes keeps each command whose entry ends within these bytes.
pub keeps_sure : (j : Journal) (s : Spot) (surely rest : List (List ℕ)) (count : ℕ)
    → length (entries j s surely) ≤ count
    → whole_in j s (surely ++ rest) count ≡ surely
    ++ whole_in j (trail j s surely) rest (count - length (entries j s surely))
keeps_sure j s [] rest count le = let same : count ≡ count - 0 =
    omega arith in ap (whole_in j s rest) same
keeps_sure j s (c ∷ surely) rest count le =
    let e = j.entry s c in
    let others = entries j (next_spot j s c) surely in
    let both : length (e ++ others) ≡ length e + length others = length-append e others in
    let fits : nat_le (length e) count ≡ true = grind (arith, nat_tests) in
    let inside = keeps_sure j (next_spot j s c) surely rest (count - length e) (omega arith) in
    let counts : (count - length e) - length others ≡ count - length (e ++ others) = omega arith in
    rw fits (ap (λ (ds : List (List ℕ)). c ∷ ds) inside
    ∙ ap (λ (n : ℕ). c ∷ (surely ++ whole_in j (trail j (next_spot j s c) surely) rest n)) counts)
