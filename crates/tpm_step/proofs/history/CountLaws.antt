-- Proofs of the claims about counters that follow from the history alone.
use Rattle.std.proofs.Common.{arith, ◌≡◌, ◌⊎◌, ℕ, ◌+◌, ◌<◌, ◌≤◌, Bool, true, false, List, [], ◌∷◌, ◌++◌, Option, Some, None, Result, Ok, Err, refl, sym, ap, subst, ◌∙◌, inl, inr}
use Rattle.std.proofs.lemmas.Bool.{cases_eq, eq-eqb, eqb-true, false≢true}
use Rattle.tpm_types_common.specs.declared.handle.Handle.{Handle}
use Rattle.tpm_types_common.specs.declared.refused.Refused.{Refused}
use Rattle.tpm_commands.specs.declared.command_code.CommandCode.{CommandCode}
use Rattle.tpm_commands.specs.declared.command_code.CommandCode.TheVariants as command
use Rattle.tpm_record.specs.rows.Request.{Request, second_handle}
use Rattle.tpm_step.specs.history.Counters.{AllBelow, CountLaws, Counters, HasNoDefinition, IsDefinition, begun_at, count_at, counted_at, counters_by, counters_of, counts_of, defined_handle, defines, defines_by, is_named, largest_of, next_count}
use Rattle.tpm_step.specs.history.HandleMap.{by_handle}
use Rattle.tpm_step.specs.history.History.{Done, History, ObjectPlaced, PastEvent, PowerCycled}
use Rattle.tpm_step.proofs.history.HandleMap.{at_other, at_same, same_handle}
use Rattle.tpm_step.proofs.history.Indices.{some_none, some_same}

-- ---- the effect of one event on the counter of a handle

-- The counter of a handle did not change, was incremented, or has no value because its index was
-- just defined.
abbrev Moves : Counters → Counters → (defined : Bool) → Handle → Type 0
Moves c d defined handle =
    (d.at handle ≡ c.at handle)
    ⊎ (((d.at handle ≡ Some (next_count (largest_of c.all) (c.at handle)))
    × (d.all ≡ next_count (largest_of c.all) (c.at handle) ∷ c.all))
    ⊎ ((d.at handle ≡ None) × (defined ≡ true)))

increment_moves : (named : Result Handle Refused) (c : Counters) (handle : Handle)
    → Moves c (by_handle named counted_at c) false handle
increment_moves (Err e) c handle = inl refl
increment_moves (Ok named) c handle =
    elim (cases_eq handle.number named.number) [
      | inl same ↦
          inr
          (inl
          (subst (λ (h : Handle). ((counted_at h c).at handle ≡ Some n)
          × ((counted_at h c).all ≡ n ∷ c.all)) (same_handle handle named same)
          (at_same handle handle (Some n) c.at refl, refl)))
      | inr apart ↦ inl (at_other named handle (Some (next_count (largest_of c.all) (c.at named)))
          c.at apart)
    ]
  where
    n : ℕ
    n = next_count (largest_of c.all) (c.at handle)

definition_moves : (named : Result Handle Refused) (c : Counters) (handle : Handle)
    → Moves c (by_handle named begun_at c) (is_named named handle) handle
definition_moves (Err e) c handle = inl refl
definition_moves (Ok named) c handle =
    elim (cases_eq handle.number named.number) [
      | inl same ↦
          inr
          (inr (
            subst (λ (h : Handle). (begun_at h c).at handle ≡ None)
                (same_handle handle named same) (at_same handle handle None c.at refl),
            eq-eqb named.number handle.number (sym same),
          ))
      | inr apart ↦ inl (at_other named handle None c.at apart)
    ]

command_moves : (code : CommandCode) (q : Request) (c : Counters) (handle : Handle)
    → Moves c (counters_by code q c) (defines_by code q handle) handle
command_moves command.NvIncrement q c handle = increment_moves (second_handle q.handles) c handle
command_moves command.NvDefineSpace q c handle =
    definition_moves (defined_handle q.parameters) c handle
command_moves _ q c handle = inl refl

event_moves : (history : History) (one : PastEvent) (handle : Handle)
    → Moves (counters_of history) (counters_of (one ∷ history)) (defines one handle) handle
event_moves history (Done c) handle =
    command_moves c.command.code c.request (counters_of history) handle
event_moves history PowerCycled handle = inl refl
event_moves history (ObjectPlaced at object) handle = inl refl

-- ---- the largest value never falls

increment_grows : (named : Result Handle Refused) (c : Counters)
    → largest_of c.all ≤ largest_of (by_handle named counted_at c).all
increment_grows (Ok named) c = omega arith
increment_grows (Err e) c = omega arith

definition_grows : (named : Result Handle Refused) (c : Counters)
    → largest_of c.all ≤ largest_of (by_handle named begun_at c).all
definition_grows (Ok named) c = omega arith
definition_grows (Err e) c = omega arith

command_grows : (code : CommandCode) (q : Request) (c : Counters)
    → largest_of c.all ≤ largest_of (counters_by code q c).all
command_grows command.NvIncrement q c = increment_grows (second_handle q.handles) c
command_grows command.NvDefineSpace q c = definition_grows (defined_handle q.parameters) c
command_grows _ q c = omega arith

event_grows : (history : History) (one : PastEvent)
    → largest_of (counts_of history) ≤ largest_of (counts_of (one ∷ history))
event_grows history (Done c) = command_grows c.command.code c.request (counters_of history)
event_grows history PowerCycled = omega arith
event_grows history (ObjectPlaced at object) = omega arith

history_grows : (old new : History) → largest_of (counts_of old)
    ≤ largest_of (counts_of (new ++ old))
history_grows old [] = omega arith
history_grows old (one ∷ new) = omega (arith, history_grows old new, event_grows (new ++ old) one)

-- ---- each value is at most the largest

abbrev IsWithin : Counters → Type 0
IsWithin c = (handle : Handle) (n : ℕ) → c.at handle ≡ Some n → n ≤ largest_of c.all

command_within : (code : CommandCode) (q : Request) (c : Counters) → IsWithin c
    → IsWithin (counters_by code q c)
command_within code q c within handle n some = by (command_moves code q c handle)
  where
    d : Counters
    d = counters_by code q c

    by : Moves c d (defines_by code q handle) handle → n ≤ largest_of d.all
    by (inl same) = omega (arith, within handle n (sym same ∙ some), command_grows code q c)
    by (inr (inl counts)) =
        let is : next_count (largest_of c.all) (c.at handle) ≡ n =
        some_same _ n (sym counts.0 ∙ some) in
        subst (λ all. n ≤ largest_of all) (sym counts.1) (omega (arith, is))
    by (inr (inr begun)) = absurd (some_none n (sym begun.0 ∙ some))

history_within : (history : History) → IsWithin (counters_of history)
history_within [] handle n some = absurd (some_none n some)
history_within (Done c ∷ history) handle n some =
    command_within c.command.code c.request (counters_of history) (history_within history) handle n
    some
history_within (PowerCycled ∷ history) handle n some = history_within history handle n some
history_within (ObjectPlaced at object ∷ history) handle n some =
    history_within history handle n some

-- ---- events that do not define the index again

-- The counter has a value of at least `least`.
abbrev Since : (least : ℕ) → (now : Option ℕ) → Type 0
Since least now = (n : ℕ) × (now ≡ Some n) × (least ≤ n)

one_since : (least : ℕ) (c d : Counters) (handle : Handle) → Moves c d false handle
    → Since least (c.at handle) → Since least (d.at handle)
one_since least c d handle (inl same) since = subst (Since least) (sym same) since
one_since least c d handle (inr (inl counts)) (n, at, low) =
    let next : Option ℕ → Option ℕ = λ o. Some (next_count (largest_of c.all) o) in
    (n + 1, counts.0 ∙ ap next at, omega (arith, low))
one_since least c d handle (inr (inr begun)) since = absurd (false≢true begun.1)

never_down : (old new : History) (handle : Handle) (n : ℕ) → count_at old handle ≡ Some n
    → HasNoDefinition handle new → Since n (count_at (new ++ old) handle)
never_down old [] handle n some none = (n, some, omega arith)
never_down old (one ∷ new) handle n some none =
    let before = counters_of (new ++ old) in
    let after = counters_of (one ∷ new ++ old) in
    one_since n before after handle
    (subst (λ defined. Moves before after defined handle) none.0
    (event_moves (new ++ old) one handle)) (never_down old new handle n some none.1)

-- ---- events after a counter had no value

-- The counter has no value, or a value greater than `most`.
abbrev Above : (most : ℕ) → (now : Option ℕ) → Type 0
Above most now = (now ≡ None) ⊎ ((n : ℕ) × (now ≡ Some n) × (most < n))

one_above : (most : ℕ) (c d : Counters) (defined : Bool) (handle : Handle) → most ≤ largest_of c.all
    → Moves c d defined handle → Above most (c.at handle) → Above most (d.at handle)
one_above most c d defined handle grown (inl same) above = subst (Above most) (sym same) above
one_above most c d defined handle grown (inr (inl counts)) (inl none) =
    let next : Option ℕ → Option ℕ = λ o. Some (next_count (largest_of c.all) o) in
    inr (largest_of c.all + 1, counts.0 ∙ ap next none, omega (arith, grown))
one_above most c d defined handle grown (inr (inl counts)) (inr (n, at, low)) =
    let next : Option ℕ → Option ℕ = λ o. Some (next_count (largest_of c.all) o) in
    inr (n + 1, counts.0 ∙ ap next at, omega (arith, low))
one_above most c d defined handle grown (inr (inr begun)) above = inl begun.0

all_above : (old new : History) (handle : Handle) → count_at old handle ≡ None
    → Above (largest_of (counts_of old)) (count_at (new ++ old) handle)
all_above old [] handle none = inl none
all_above old (one ∷ new) handle none =
    one_above (largest_of (counts_of old)) (counters_of (new ++ old))
    (counters_of (one ∷ new ++ old)) (defines one handle) handle (history_grows old new)
    (event_moves (new ++ old) one handle) (all_above old new handle none)

all_below : (ns : List ℕ) (n : ℕ) → largest_of ns < n → AllBelow n ns
all_below [] n below = tt
all_below (m ∷ ns) n below = (omega (arith, below), all_below ns n (omega (arith, below)))

first_exceeds : (old new : History) (handle : Handle) (n : ℕ) → count_at old handle ≡ None
    → count_at (new ++ old) handle ≡ Some n → AllBelow n (counts_of old)
first_exceeds old new handle n none some = by (all_above old new handle none)
  where
    by : Above (largest_of (counts_of old)) (count_at (new ++ old) handle)
        → AllBelow n (counts_of old)
    by (inl still) = absurd (some_none n (sym still ∙ some))
    by (inr (m, at, low)) = let same : m ≡ n =
        some_same m n (sym at ∙ some) in all_below (counts_of old) n (omega (arith, same, low))

-- ---- the definition of an index

named_is : (named : Result Handle Refused) (handle : Handle) → is_named named handle ≡ true
    → (h : Handle) × (named ≡ Ok h) × (h.number ≡ handle.number)
named_is (Ok h) handle is = (h, refl, eqb-true h.number handle.number is)
named_is (Err e) handle is = absurd (false≢true is)

begun_none : (named : Result Handle Refused) (c : Counters) (handle : Handle)
    → is_named named handle ≡ true → ((by_handle named begun_at c).at handle ≡ None)
    × ((by_handle named begun_at c).all ≡ c.all)
begun_none (Ok h) c handle is =
    (at_same h handle None c.at (sym (eqb-true h.number handle.number is)), refl)
begun_none (Err e) c handle is = absurd (false≢true is)

code_begins : (code : CommandCode) (q : Request) (c : Counters) (handle : Handle)
    → defines_by code q handle ≡ true → ((counters_by code q c).at handle ≡ None)
    × ((counters_by code q c).all ≡ c.all)
code_begins command.NvDefineSpace q c handle is =
    begun_none (defined_handle q.parameters) c handle is
code_begins _ q c handle is = absurd (false≢true is)

-- a newly defined index has no counter value, and its definition adds no counter value to the
-- history
definition_begins : (old : History) (one : PastEvent) (handle : Handle) → defines one handle ≡ true
    → (count_at (one ∷ old) handle ≡ None) × (counts_of (one ∷ old) ≡ counts_of old)
definition_begins old (Done c) handle is =
    code_begins c.command.code c.request (counters_of old) handle is
definition_begins old PowerCycled handle is = absurd (false≢true is)
definition_begins old (ObjectPlaced at object) handle is = absurd (false≢true is)

defined_exceeds : (old new : History) (definition : PastEvent) (handle : Handle) (n : ℕ)
    → defines definition handle ≡ true → count_at (new ++ definition ∷ old) handle ≡ Some n
    → AllBelow n (counts_of old)
defined_exceeds old new definition handle n is some =
    let (none, same) = definition_begins old definition handle is in
    subst (AllBelow n) same (first_exceeds (definition ∷ old) new handle n none some)

code_defines : (code : CommandCode) (q : Request) (handle : Handle)
    → defines_by code q handle ≡ true → (code ≡ command.NvDefineSpace)
    × ((h : Handle) × (defined_handle q.parameters ≡ Ok h) × (h.number ≡ handle.number))
code_defines command.NvDefineSpace q handle is =
    (refl, named_is (defined_handle q.parameters) handle is)
code_defines _ q handle is = absurd (false≢true is)

is_definition : (one : PastEvent) (handle : Handle) → defines one handle ≡ true
    → IsDefinition one handle
is_definition (Done c) handle is =
    let found = code_defines c.command.code c.request handle is in
    record {
      accepted = c;
      named = found.1.0;
      is = refl;
      code = found.0;
      defined = found.1.1;
      same =
          found.1.2;
    }
is_definition PowerCycled handle is = absurd (false≢true is)
is_definition (ObjectPlaced at object) handle is = absurd (false≢true is)

defines_it : (one : PastEvent) (handle : Handle) → IsDefinition one handle
    → defines one handle ≡ true
defines_it one handle d =
    ap (λ (p : PastEvent). defines p handle) d.is
    ∙ ap (λ (code : CommandCode). defines_by code d.accepted.request handle) d.code
    ∙ ap (λ (named : Result Handle Refused). is_named named handle) d.defined
    ∙ eq-eqb d.named.number handle.number d.same

-- ---- all claims about counters

pub count_laws : CountLaws
count_laws = record {
  definitions = λ one handle. (is_definition one handle, defines_it one handle);
  first_exceeds = first_exceeds;
  defined_exceeds = defined_exceeds;
  never_down = never_down;
  within = history_within;
}
