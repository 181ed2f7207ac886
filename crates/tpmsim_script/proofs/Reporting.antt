-- The report of a script is made line by line.
use Rattle.std.proofs.Common.{◌≡◌, ℕ, zero, suc, ◌+◌, ◌-◌, ◌<◌, ◌≤◌, ◌==◌, Bool, true, false, not, List, [], ◌∷◌, ◌++◌, length, take, Option, Some, None, refl, sym, ap, ap₂, ◌∙◌, append_assoc, append-nil, arith, cond}
use Rattle.std.specs.Prelude.{nat_lt}
use Rattle.std.specs.List.{flat_map, onto_first}
use Rattle.std.specs.Option.{option_or}
use Rattle.std.proofs.lemmas.Bool.{eq-eqb, le-ltb, lt-ltb, ne_eqb}
use Rattle.std.proofs.lemmas.Grind.{flat_map-append}
use Rattle.tpmsim_script.specs.Report.{hinted_line, faults_text, script_faults}
use Rattle.tpmsim_script.specs.Checking.{Fault, fault_at, faults_of, first_number, line_check, waited_behind}
use Rattle.tpmsim_script.specs.Line.{lines_of}

-- the faults of the remaining lines; the first of these lines has the number `number`
abbrev pub left : (waited number : ℕ) → (text : List ℕ) → List Fault
left waited number text = faults_of waited number (take (1048577 - number) (lines_of text))

pub left_more : (waited number : ℕ) (text line others : List ℕ) → number ≤ 1048576
    → lines_of text ≡ line ∷ lines_of others
    → left waited number text ≡ fault_at (line_check waited line) number line
    ++ left (waited_behind (line_check waited line) waited) (number + 1) others
left_more waited number text line others small e =
    let size : 1048577 - number ≡ suc (1048577 - (number + 1)) = omega (arith, small) in
    ap₂ (λ n lines. faults_of waited number (take n lines)) size e

take_none : (count : ℕ) → take count (lines_of []) ≡ []
take_none zero = refl
take_none (suc count) = refl

-- An empty text has no remaining lines.
pub left_none : (waited number : ℕ) (text : List ℕ) → length text ≡ 0 → left waited number text ≡ []
left_none waited number [] e = ap (faults_of waited number) (take_none (1048577 - number))
left_none waited number (byte ∷ text) e = absurd cc

pub text_more : (old new : List ℕ) (faults others whole : List Fault) → whole ≡ faults ++ others
    → new ≡ old ++ flat_map hinted_line faults
    → new ++ flat_map hinted_line others ≡ old ++ flat_map hinted_line whole
text_more old new faults others whole e f =
    ap (λ (l : List ℕ). l ++ flat_map hinted_line others) f
    ∙ append_assoc old (flat_map hinted_line faults) (flat_map hinted_line others)
    ∙ ap (λ (l : List ℕ). old ++ l) (sym (flat_map-append hinted_line faults others)
    ∙ ap (flat_map hinted_line) (sym e))

first_of : (faults others : List Fault) → first_number (faults ++ others)
    ≡ option_or (first_number faults) (first_number others)
first_of [] others = refl
first_of (fault ∷ faults) others = refl

or_or : (a b c : Option ℕ) → option_or (option_or a b) c ≡ option_or a (option_or b c)
or_or None b c = refl
or_or (Some a) b c = refl

pub first_more : (old new : Option ℕ) (faults others whole : List Fault) → whole ≡ faults ++ others
    → new ≡ option_or old (first_number faults)
    → option_or new (first_number others) ≡ option_or old (first_number whole)
first_more old new faults others whole e f = ap (λ first. option_or first (first_number others)) f
    ∙ or_or old (first_number faults) (first_number others)
    ∙ ap (option_or old) (sym (first_of faults others) ∙ ap first_number (sym e))

pub or_none : (first : Option ℕ) → option_or first None ≡ first
or_none None = refl
or_none (Some number) = refl

some_line : (byte : ℕ) (lines : List (List ℕ)) → 0 < length (onto_first byte lines)
some_line byte [] = omega arith
some_line byte (line ∷ lines) = omega arith

-- A text that is not empty has at least one line.
pub some_lines : (text : List ℕ) → 0 < length text → 0 < length (lines_of text)
some_lines [] some = some
some_lines (byte ∷ text) some = by_break (byte == 10)
  where
    by_break : (b : Bool)
        → 0 < length (cond b ([] ∷ lines_of text) (onto_first byte (lines_of text)))
    by_break true = omega arith
    by_break false = some_line byte (lines_of text)

-- ---- the faults so far

-- The report of the lines checked so far, followed by the report of the remaining lines, is the
-- report of the whole script. The first bad line of the script is the first bad line so far. If no
-- line so far is bad, it is the first bad line among the remaining lines. Together, the lines so
-- far and the remaining lines are all lines of the script.
pub record SoFar (text : List ℕ) (first : Option ℕ) (waited number : ℕ) (rest whole : List ℕ)
    (whole_first : Option ℕ) (lines : ℕ) : Type 0 where
  pub text_is : text ++ flat_map hinted_line (left waited number rest) ≡ whole
  pub first_is : option_or first (first_number (left waited number rest)) ≡ whole_first
  pub count_is : length (lines_of rest) + number ≡ lines + 1

pub begun : (text : List ℕ) (first : Option ℕ) (waited : ℕ) (rest : List ℕ) → waited ≡ 0
    → SoFar text first waited 1 rest (text ++ faults_text rest)
    (option_or first (first_number (script_faults rest))) (length (lines_of rest))
begun text first waited rest e = record {
  text_is = ap (λ w. text ++ flat_map hinted_line (left w 1 rest)) e;
  first_is = ap (λ w. option_or first (first_number (left w 1 rest))) e;
  count_is = refl;
}

count_more : (text line others : List ℕ) (number lines : ℕ) → lines_of text ≡ line ∷ lines_of others
    → length (lines_of text) + number ≡ lines + 1
    → length (lines_of others) + (number + 1) ≡ lines + 1
count_more text line others number lines e count =
    let size : length (lines_of text) ≡ suc (length (lines_of others)) = ap length e in
    omega (arith, size, count)

pub turned : (old new : List ℕ) (first next : Option ℕ) (waited after number : ℕ)
    (rest line others whole : List ℕ) (whole_first : Option ℕ) (lines : ℕ)
    → number ≤ 1048576 → lines_of rest ≡ line ∷ lines_of others
    → new ≡ old ++ flat_map hinted_line (fault_at (line_check waited line) number line)
    → next ≡ option_or first (first_number (fault_at (line_check waited line) number line))
    → after ≡ waited_behind (line_check waited line) waited
    → SoFar old first waited number rest whole whole_first lines
    → SoFar new next after (number + 1) others whole whole_first lines
turned old new first next waited after number rest line others whole whole_first lines small cut
    new_is next_is after_is sofar =
    let more = left_more waited number rest line others small cut in
    let found = fault_at (line_check waited line) number line in
    let behind = waited_behind (line_check waited line) waited in
    record {
      text_is = ap (λ w. new ++ flat_map hinted_line (left w (number + 1) others)) after_is
          ∙ text_more old new found (left behind (number + 1) others) (left waited number rest) more
          new_is ∙ sofar.text_is;
      first_is = ap (λ w. option_or next (first_number (left w (number + 1) others))) after_is
          ∙ first_more first next found (left behind (number + 1) others) (left waited number rest)
          more next_is ∙ sofar.first_is;
      count_is = count_more rest line others number lines cut sofar.count_is;
    }

-- If no line remains, the report so far is the report of the whole script.
all_told : (text : List ℕ) (first : Option ℕ) (waited number : ℕ) (rest whole : List ℕ)
    (whole_first : Option ℕ) (lines : ℕ)
    → left waited number rest ≡ [] → SoFar text first waited number rest whole whole_first lines
    → (text ≡ whole) × (first ≡ whole_first)
all_told text first waited number rest whole whole_first lines none sofar = (
  sym (append-nil text) ∙ ap (λ faults. text ++ flat_map hinted_line faults) (sym none)
      ∙ sofar.text_is,
  sym (or_none first) ∙ ap (λ faults. option_or first (first_number faults)) (sym none)
      ∙ sofar.first_is,
)

pub ended : (text : List ℕ) (first : Option ℕ) (waited number : ℕ) (rest whole : List ℕ)
    (whole_first : Option ℕ) (lines : ℕ)
    → length rest ≡ 0 → SoFar text first waited number rest whole whole_first lines
    → (text ≡ whole) × (first ≡ whole_first)
ended text first waited number rest whole whole_first lines none sofar =
    all_told text first waited number rest whole whole_first lines
    (left_none waited number rest none) sofar

pub ended_at_limit : (text : List ℕ) (first : Option ℕ) (waited : ℕ) (rest whole : List ℕ)
    (whole_first : Option ℕ) (lines : ℕ)
    → SoFar text first waited 1048577 rest whole whole_first lines
    → (text ≡ whole) × (first ≡ whole_first)
ended_at_limit text first waited rest whole whole_first lines sofar =
    all_told text first waited 1048577 rest whole whole_first lines refl sofar

no_lines : (text : List ℕ) → length text ≡ 0 → length (lines_of text) ≡ 0
no_lines [] e = refl
no_lines (byte ∷ text) e = absurd cc

-- If no text remains, the script does not exceed the limit on lines.
pub no_more : (text : List ℕ) (first : Option ℕ) (waited number : ℕ) (rest whole : List ℕ)
    (whole_first : Option ℕ) (lines : ℕ)
    → number ≤ 1048576 → length rest ≡ 0
    → SoFar text first waited number rest whole whole_first lines
    → nat_lt 1048576 lines ≡ not (length rest == 0)
no_more text first waited number rest whole whole_first lines small none sofar =
    let gone = no_lines rest none in
    le-ltb 1048576 lines (omega (arith, small, gone, sofar.count_is))
    ∙ sym (ap not (eq-eqb (length rest) 0 none))

-- After the maximum number of lines, the script exceeds this limit if and only if some text
-- remains.
more_by : (rest : List ℕ) (lines : ℕ) → length (lines_of rest) + 1048577 ≡ lines + 1
    → nat_lt 1048576 lines ≡ not (length rest == 0)
more_by [] lines count = le-ltb 1048576 lines (omega (arith, count))
more_by (byte ∷ rest) lines count =
    let some : 0 < length (lines_of (byte ∷ rest)) = some_lines (byte ∷ rest) (omega arith) in
    let full : length (byte ∷ rest) ≡ 0 → ⊥ = λ e. omega (arith, e) in
    lt-ltb 1048576 lines (omega (arith, some, count))
    ∙ sym (ap not (ne_eqb (length (byte ∷ rest)) 0 full))

pub more_at_limit : (text : List ℕ) (first : Option ℕ) (waited number : ℕ) (rest whole : List ℕ)
    (whole_first : Option ℕ) (lines : ℕ)
    → number ≡ 1048577 → SoFar text first waited number rest whole whole_first lines
    → nat_lt 1048576 lines ≡ not (length rest == 0)
more_at_limit text first waited number rest whole whole_first lines e sofar =
    more_by rest lines (ap (λ n. length (lines_of rest) + n) (sym e) ∙ sofar.count_is)
