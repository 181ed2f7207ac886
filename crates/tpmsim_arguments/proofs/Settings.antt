-- A `serve` command line is a request to serve a device with the given settings. Here each value is
-- a separate word, as in `--socket PATH`.
use Rattle.std.proofs.Common.{◌≡◌, ◌∙◌, ◌++◌, ap, refl, sym, subst, true, false, Bool, codes, fold, List, [], ◌∷◌, Some, None, append-nil, append_assoc, is_some, find, unwrap_or}
use Rattle.clap.specs.Words.{Row, Rule, Shape, Text}
use Rattle.clap.specs.Kinds.{Kinds, or_else}
use Rattle.clap.specs.Walk.{Held, Names, Waiting, Walk, answers_to, arg_by_id, finished, idle, nothing_held, option, option_word, settled, walk, walk_from, walked}
use Rattle.clap.specs.Simple.{built, entered, help_shape, label_of, names_of}
use Rattle.clap.specs.Faults.{built_fault, check_fault, defaults_fault, entered_fault, level_fault, settle_fault, turn_fault, walk_fault}
use Rattle.clap.specs.declared.builder.value_parser.Reading.TheVariants.{AsWritten}
use Rattle.clap.specs.declared.parser.matches.ValueSource.TheVariants.{CommandLine}
use Rattle.clap.proofs.OnLiterals.{clap_on_literals}
use Rattle.tpm_number.specs.Number.{decimal_of}
use Rattle.tpmsim_arguments.specs.Invocation.{asked_in, asked_of, in_image}
use Rattle.tpmsim_arguments.specs.CommandLine.{program}
use Rattle.tpmsim_arguments.specs.Lines.{AskForDevice, NoneBeginsWithHyphen, begins_with_hyphen, serve_line}
use Rattle.tpmsim_arguments.proofs.Lines.{device_is_asked_for, no_end, no_long, no_short, with_numbers}

-- ---- one word of the walk at a time

abbrev held_at : List Row → Text → List Text → Held
held_at rows id values = record { rows = rows; pending = Some (id, values); skip = 0 }

-- the state of the walk when an option has these values
abbrev walk_at : List Row → Text → List Text → Waiting → Walk
walk_at rows id values waiting = record {
  held = held_at rows id values;
  waiting = waiting;
  position = 1;
  is_trailing = false;
  stopped = None;
}

value_walked : (c : List Rule) (rows : List Row) (id word : Text) → begins_with_hyphen word ≡ false
    → option_word (arg_by_id c id) id word (held_at rows id [])
    ≡ (held_at rows id (word ∷ []), idle)
    → walked c [] (walk_at rows id [] (option id)) word ≡ walk_at rows id (word ∷ []) idle
unfolding walked
value_walked c rows id word e o = rw (no_end word e, no_long word e, no_short word e) (rw o refl)

value_turn : (s : Shape) (rows : List Row) (id word : Text) → begins_with_hyphen word ≡ false
    → turn_fault s [] (walk_at rows id [] (option id)) word ≡ []
value_turn s rows id word e = rw (no_end word e, no_long word e, no_short word e) refl

pub step : (s : Shape) (names : Names) (w v : Walk) (word : Text) (rest : List Text)
    → turn_fault s names w word ≡ []
    → walked s.rules names w word ≡ v → walk_fault s names w (word ∷ rest)
    ≡ walk_fault s names v rest
unfolding walk_fault
step s names w v word rest t e = rw (t, e) refl

pub level : (s : Shape) (names : Names) (words : List Text) (sub : Bool) (below : Kinds) (w : Walk)
    → walk_fault s names (walk_from nothing_held) words ≡ []
    → walk s.rules names nothing_held words ≡ w → below ≡ []
    → or_else (settle_fault s.rules s.args_override_self w.held)
    (or_else (defaults_fault (settled s.rules w.held).rows s.rules)
    (check_fault s (finished s.rules w.held) sub)) ≡ []
    → level_fault s names nothing_held words sub below ≡ []
level s names words sub below w f e b r = rw (f, e, b) r

-- ---- the words before the settings

-- the state of a walk that has reached a subcommand, and has not yet read the words after it
abbrev pub stopped_at : Text → List Text → Walk
stopped_at name words = record (walk_from nothing_held) { stopped = Some (name, words) }

one : (c : List Rule) (names : Names) (name : Text) (words : List Text) (word : Text)
    → walked c names (stopped_at name words) word ≡ stopped_at name (words ++ word ∷ [])
unfolding walked
one c names name words word = refl

pub none : (s : Shape) (names : Names) (w : Walk) → walk_fault s names w [] ≡ []
unfolding walk_fault
none s names w = refl

pub stopped_walk : (c : List Rule) (names : Names) (name : Text) (words rest : List Text)
    → fold (walked c names) (stopped_at name words) rest ≡ stopped_at name (words ++ rest)
stopped_walk c names name words [] = ap (stopped_at name) (sym (append-nil words))
stopped_walk c names name words (word ∷ rest) =
    ap (λ w. fold (walked c names) w rest) (one c names name words word)
    ∙ stopped_walk c names name (words ++ word ∷ []) rest
    ∙ ap (stopped_at name) (append_assoc words (word ∷ []) rest)

pub stopped_fault : (s : Shape) (names : Names) (name : Text) (words rest : List Text)
    → walk_fault s names (stopped_at name words) rest ≡ []
stopped_fault s names name words [] = none s names (stopped_at name words)
stopped_fault s names name words (word ∷ rest) =
    step s names (stopped_at name words) (stopped_at name (words ++ word ∷ [])) word rest
    refl (one s.rules names name words word)
    ∙ stopped_fault s names name (words ++ word ∷ []) rest

abbrev pub top : Shape
top = (built program).top

abbrev pub top_names : Names
top_names = names_of (built program)

abbrev serve_shape : Shape
serve_shape = unwrap_or (find (λ s. answers_to (codes "serve") (label_of s)) (built program).subs) help_shape

serve_met : walked top.rules top_names (walk_from nothing_held) (codes "serve") ≡ stopped_at (codes "serve") []
unfolding clap_on_literals
serve_met = refl

serve_turn : turn_fault top top_names (walk_from nothing_held) (codes "serve") ≡ []
unfolding clap_on_literals
serve_turn = refl

top_walk : (rest : List Text) → walk top.rules top_names nothing_held (codes "serve" ∷ rest) ≡ stopped_at (codes "serve") rest
top_walk rest = ap (λ w. fold (walked top.rules top_names) w rest) serve_met ∙ stopped_walk top.rules top_names (codes "serve") [] rest

top_fault : (rest : List Text) → walk_fault top top_names (walk_from nothing_held) (codes "serve" ∷ rest) ≡ []
top_fault rest = step top top_names (walk_from nothing_held) (stopped_at (codes "serve") []) (codes "serve") rest serve_turn serve_met
    ∙ stopped_fault top top_names (codes "serve") [] rest

-- ---- the settings

abbrev row : Text → Text → Row
row id value = record {
  id = id;
  values = value ∷ [];
  count = None;
  source =
      Some CommandLine;
  reading = AsWritten;
}

abbrev rows₁ : Text → List Row
rows₁ s = row (codes "socket") s ∷ []

abbrev rows₂ : Text → Text → List Row
rows₂ s i = rows₁ s ++ row (codes "image") i ∷ []

abbrev rows₃ : Text → Text → Text → List Row
rows₃ s i e = rows₂ s i ++ row (codes "entropy") e ∷ []

abbrev rows₄ : Text → Text → Text → Text → List Row
rows₄ s i e l = rows₃ s i e ++ row (codes "locality") l ∷ []

abbrev W : Walk → Text → Walk
W = walked serve_shape.rules []

abbrev pub begun : Walk
begun = walk_from nothing_held

named₁ : W begun (codes "--socket") ≡ walk_at [] (codes "socket") [] (option (codes "socket"))
unfolding clap_on_literals
named₁ = refl

named₂ : (s : Text) → W (walk_at [] (codes "socket") (s ∷ []) idle) (codes "--image") ≡ walk_at (rows₁ s) (codes "image") [] (option (codes "image"))
unfolding clap_on_literals
named₂ s = refl

named₃ : (s i : Text) → W (walk_at (rows₁ s) (codes "image") (i ∷ []) idle) (codes "--entropy") ≡ walk_at (rows₂ s i) (codes "entropy") [] (option (codes "entropy"))
unfolding clap_on_literals
named₃ s i = refl

named₄ : (s i e : Text) → W (walk_at (rows₂ s i) (codes "entropy") (e ∷ []) idle) (codes "--locality") ≡ walk_at (rows₃ s i e) (codes "locality") [] (option (codes "locality"))
unfolding clap_on_literals
named₄ s i e = refl

named₅ : (s i e l : Text) → W (walk_at (rows₃ s i e) (codes "locality") (l ∷ []) idle) (codes "--connections") ≡ walk_at (rows₄ s i e l) (codes "connections") [] (option (codes "connections"))
unfolding clap_on_literals
named₅ s i e l = refl

abbrev words : (s i e l n : Text) → List Text
words s i e l n = codes "--socket" ∷ s ∷ codes "--image" ∷ i ∷ codes "--entropy" ∷ e ∷ codes "--locality" ∷ l ∷ codes "--connections" ∷ n ∷ []

abbrev Plain : (s i e l n : Text) → Type 0
Plain s i e l n = (begins_with_hyphen s ≡ false) × (begins_with_hyphen i ≡ false)
    × (begins_with_hyphen e ≡ false)
    × (begins_with_hyphen l ≡ false) × (begins_with_hyphen n ≡ false)

given₁ : (s : Text) → begins_with_hyphen s ≡ false → W (walk_at [] (codes "socket") [] (option (codes "socket"))) s ≡ walk_at [] (codes "socket") (s ∷ []) idle
given₁ s p = value_walked serve_shape.rules [] (codes "socket") s p refl

given₂ : (s i : Text) → begins_with_hyphen i ≡ false → W (walk_at (rows₁ s) (codes "image") [] (option (codes "image"))) i ≡ walk_at (rows₁ s) (codes "image") (i ∷ []) idle
given₂ s i p = value_walked serve_shape.rules (rows₁ s) (codes "image") i p refl

given₃ : (s i e : Text) → begins_with_hyphen e ≡ false → W (walk_at (rows₂ s i) (codes "entropy") [] (option (codes "entropy"))) e ≡ walk_at (rows₂ s i) (codes "entropy") (e ∷ []) idle
given₃ s i e p = value_walked serve_shape.rules (rows₂ s i) (codes "entropy") e p refl

given₄ : (s i e l : Text) → begins_with_hyphen l ≡ false → W (walk_at (rows₃ s i e) (codes "locality") [] (option (codes "locality"))) l ≡ walk_at (rows₃ s i e) (codes "locality") (l ∷ []) idle
given₄ s i e l p = value_walked serve_shape.rules (rows₃ s i e) (codes "locality") l p refl

given₅ : (s i e l n : Text) → begins_with_hyphen n ≡ false
    → W (walk_at (rows₄ s i e l) (codes "connections") [] (option (codes "connections"))) n ≡ walk_at (rows₄ s i e l) (codes "connections") (n ∷ []) idle
given₅ s i e l n p = value_walked serve_shape.rules (rows₄ s i e l) (codes "connections") n p refl

abbrev ended : (s i e l n : Text) → Walk
ended s i e l n = walk_at (rows₄ s i e l) (codes "connections") (n ∷ []) idle

-- a walk over several words consists of the step over the first word and the walk over the others
ahead : (w v : Walk) (word : Text) (rest : List Text) → W w word ≡ v
    → fold W w (word ∷ rest) ≡ fold W v rest
ahead w v word rest e = ap (λ x. fold W x rest) e

walk_is : (s i e l n : Text) → Plain s i e l n
    → walk serve_shape.rules [] nothing_held (words s i e l n) ≡ ended s i e l n
walk_is s i e l n p =
    let t9 : List Text = n ∷ [] in
    let t8 : List Text = codes "--connections" ∷ t9 in
    let t7 : List Text = l ∷ t8 in
    let t6 : List Text = codes "--locality" ∷ t7 in
    let t5 : List Text = e ∷ t6 in
    let t4 : List Text = codes "--entropy" ∷ t5 in
    let t3 : List Text = i ∷ t4 in
    let t2 : List Text = codes "--image" ∷ t3 in
    let t1 : List Text = s ∷ t2 in
    ahead _ _ _ t1 named₁ ∙ ahead _ _ _ t2 (given₁ s p.0) ∙ ahead _ _ _ t3 (named₂ s)
    ∙ ahead _ _ _ t4 (given₂ s i p.1)
    ∙ ahead _ _ _ t5 (named₃ s i) ∙ ahead _ _ _ t6 (given₃ s i e p.2)
    ∙ ahead _ _ _ t7 (named₄ s i e) ∙ ahead _ _ _ t8 (given₄ s i e l p.3)
    ∙ ahead _ _ _ t9 (named₅ s i e l) ∙ ahead _ _ _ [] (given₅ s i e l n p.4)

turn₁ : turn_fault serve_shape [] begun (codes "--socket") ≡ []
unfolding clap_on_literals
turn₁ = refl

turn₂ : (s : Text) → turn_fault serve_shape [] (walk_at [] (codes "socket") (s ∷ []) idle) (codes "--image") ≡ []
unfolding clap_on_literals
turn₂ s = refl

turn₃ : (s i : Text) → turn_fault serve_shape [] (walk_at (rows₁ s) (codes "image") (i ∷ []) idle) (codes "--entropy") ≡ []
unfolding clap_on_literals
turn₃ s i = refl

turn₄ : (s i e : Text) → turn_fault serve_shape [] (walk_at (rows₂ s i) (codes "entropy") (e ∷ []) idle) (codes "--locality") ≡ []
unfolding clap_on_literals
turn₄ s i e = refl

turn₅ : (s i e l : Text) → turn_fault serve_shape [] (walk_at (rows₃ s i e) (codes "locality") (l ∷ []) idle) (codes "--connections") ≡ []
unfolding clap_on_literals
turn₅ s i e l = refl

faultless : (s i e l n : Text) → Plain s i e l n → walk_fault serve_shape [] begun (words s i e l n)
    ≡ []
faultless s i e l n p = step serve_shape [] _ _ _ _ turn₁ named₁ ∙ step serve_shape [] _ _ _ _ (value_turn serve_shape [] (codes "socket") s p.0) (given₁ s p.0)
    ∙ step serve_shape [] _ _ _ _ (turn₂ s) (named₂ s) ∙ step serve_shape [] _ _ _ _ (value_turn serve_shape (rows₁ s) (codes "image") i p.1) (given₂ s i p.1)
    ∙ step serve_shape [] _ _ _ _ (turn₃ s i) (named₃ s i) ∙ step serve_shape [] _ _ _ _ (value_turn serve_shape (rows₂ s i) (codes "entropy") e p.2) (given₃ s i e p.2)
    ∙ step serve_shape [] _ _ _ _ (turn₄ s i e) (named₄ s i e) ∙ step serve_shape [] _ _ _ _ (value_turn serve_shape (rows₃ s i e) (codes "locality") l p.3) (given₄ s i e l p.3)
    ∙ step serve_shape [] _ _ _ _ (turn₅ s i e l) (named₅ s i e l) ∙ step serve_shape [] _ _ _ _ (value_turn serve_shape (rows₄ s i e l) (codes "connections") n p.4) (given₅ s i e l n p.4)
    ∙ none serve_shape [] (ended s i e l n)

end_fault : (s i e l n : Text)
    → or_else (settle_fault serve_shape.rules serve_shape.args_override_self (ended s i e l n).held)
    (or_else (defaults_fault (settled serve_shape.rules (ended s i e l n).held).rows
    serve_shape.rules)
    (check_fault serve_shape (finished serve_shape.rules (ended s i e l n).held) false)) ≡ []
unfolding clap_on_literals
end_fault s i e l n = refl

below_is : (s i e l n : Text) → Plain s i e l n → entered_fault (built program) (Some (codes "serve", words s i e l n)) ≡ []
below_is s i e l n p = level serve_shape [] (words s i e l n) false [] (ended s i e l n)
    (faultless s i e l n p) (walk_is s i e l n p) refl (end_fault s i e l n)

pub top_end : or_else (settle_fault top.rules top.args_override_self nothing_held)
    (or_else (defaults_fault (settled top.rules nothing_held).rows top.rules)
    (check_fault top (finished top.rules nothing_held) true)) ≡ []
unfolding clap_on_literals
top_end = refl

taken : (s i e l n : Text) → Plain s i e l n → built_fault (built program) nothing_held (codes "serve" ∷ words s i e l n) ≡ []
taken s i e l n p =
    let rest = words s i e l n in
    let args = codes "serve" ∷ rest in
    subst (λ (w : Walk). level_fault top top_names nothing_held args
    (is_some (entered (built program) w.stopped)) (entered_fault (built program) w.stopped)
    ≡ [])
    (sym (top_walk rest))
    (level top top_names args true (entered_fault (built program) (Some (codes "serve", rest))) (stopped_at (codes "serve") rest)
    (top_fault rest) (top_walk rest) (below_is s i e l n p) top_end)

asked_is : (s i e l n : Text) → Plain s i e l n
    → asked_in (entered (built program) (walk top.rules top_names nothing_held (codes "serve" ∷ words s i e l n)).stopped)
    ≡ with_numbers s (in_image i) None e (decimal_of l) (decimal_of n) false
asked_is s i e l n p =
    ap (λ (w : Walk). asked_in (entered (built program) w.stopped)) (top_walk (words s i e l n))
    ∙ ap (λ (w : Walk). asked_of (codes "serve") (finished serve_shape.rules w.held)) (walk_is s i e l n p)

pub device_is_served : (name s i e l n : Text) → NoneBeginsWithHyphen (s ∷ i ∷ e ∷ l ∷ n ∷ [])
    → AskForDevice (serve_line name s i e l n) s i e l n
device_is_served name s i e l n p =
    let plain : Plain s i e l n = (p.0, p.1.0, p.1.1.0, p.1.1.1.0, p.1.1.1.1.0) in
    device_is_asked_for (serve_line name s i e l n) s (in_image i) None e l n false
    (taken s i e l n plain) (asked_is s i e l n plain)
