-- A startup changes the heads (NV indices without their data) one by one. These lemmas say which
-- heads and indices there are after each step.
use Rattle.std.proofs.Common.{◌≡◌, ◌≢◌, ℕ, zero, suc, ◌+◌, ◌<◌, ◌≤◌, Bool, true, false, cond, List, [], ◌∷◌, ◌++◌, length, take, drop, get_or, Some, refl, sym, ap, subst, ◌∙◌, arith}
use Rattle.std.specs.Prelude.{◌&&◌, map}
use Rattle.std.proofs.lemmas.Bool.{cond_both, cond-true, cond-false, eq-eqb, ne_eqb}
use Rattle.std.proofs.lemmas.List.{length-map}
use Rattle.tpm_containers.specs.SortedMap.{AllAbove, Ascends, Entries, at_key, changed_key}
use Rattle.tpm_types_nv.specs.NvAttributes.{IsNvAttributes, has, index_type, without_attribute}
use Rattle.tpm_types_nv.specs.declared.nv_attributes.NvAttribute.{NvAttribute}
use Rattle.tpm_types_nv.specs.declared.nv_attributes.NvAttribute.TheVariants as attribute
use Rattle.tpm_types_nv.specs.declared.nv_attributes.NvAttributes.{NvAttributes}
use Rattle.tpm_types_nv.proofs.AttributeLaws.{are_attributes}
use Rattle.tpm_nv.specs.Head.{AreHeads, AreKept, index_with, indices_of, size_of, started_head, total}
use Rattle.tpm_nv.specs.Index.{NvIndex}
use Rattle.tpm_nv.specs.Startup.{kept_written, started_attributes, started_index, unlocked}
use Rattle.tpm_nv.specs.declared.head.Head.{Head}
use Rattle.tpm_nv.proofs.KeptLaws.{is_head_with}

abbrev started_entry : ℕ × Head → ℕ × Head
started_entry e = (e.0, started_head e.1)

-- the heads after the startup has changed the first `count` heads
abbrev pub started_up_to : ℕ → Entries Head → Entries Head
started_up_to count es = map started_entry (take count es) ++ drop count es

-- ---- one entry by its position

key_above : (low : ℕ) (es : Entries Head) (i : ℕ) (e : ℕ × Head) → AllAbove low es → i < length es
    → get_or es i e ≡ e → low < e.0
key_above low [] i e above inside is = absurd (omega arith)
key_above low (f ∷ es) zero e above inside is = subst (λ (x : ℕ × Head). low < x.0) is above.0
key_above low (f ∷ es) (suc i) e above inside is = key_above low es i e above.1 (omega arith) is

pub entry_there : (es : Entries Head) (i : ℕ) → i < length es → (e : ℕ × Head) × (get_or es i e ≡ e)
entry_there [] i inside = absurd (omega arith)
entry_there (f ∷ es) zero inside = (f, refl)
entry_there (f ∷ es) (suc i) inside = entry_there es i (omega arith)

-- After the startup has changed the first i heads, head i is still unchanged.
pub same_in_turn : (es : Entries Head) (i : ℕ) (e : ℕ × Head) → i < length es
    → get_or (started_up_to i es) i e ≡ get_or es i e
same_in_turn [] i e inside = absurd (omega arith)
same_in_turn (f ∷ es) zero e inside = refl
same_in_turn (f ∷ es) (suc i) e inside = same_in_turn es i e (omega arith)

-- After the startup has changed the first i heads, a search for the key of head i finds head i.
pub found_in_turn : (es : Entries Head) (i : ℕ) (e : ℕ × Head) → Ascends es → i < length es
    → get_or es i e ≡ e → at_key (started_up_to i es) e.0 ≡ Some e.1
found_in_turn [] i e up inside is = absurd (omega arith)
found_in_turn (f ∷ es) zero e up inside is =
    cond-true _ _ _ (eq-eqb f.0 e.0 (ap (λ (x : ℕ × Head). x.0) is))
    ∙ ap (λ (x : ℕ × Head). Some x.1) is
found_in_turn (f ∷ es) (suc i) e up inside is =
    let apart : f.0 ≢ e.0 = λ same. let above =
    key_above f.0 es i e up.0 (omega arith) is in omega arith in
    cond-false _ _ _ (ne_eqb f.0 e.0 apart) ∙ found_in_turn es i e up.1 (omega arith) is

-- If head i is changed after the first i heads, the first i + 1 heads have been changed.
pub started_in_turn : (es : Entries Head) (i : ℕ) (e : ℕ × Head) → Ascends es → i < length es
    → get_or es i e ≡ e → changed_key (started_up_to i es) e.0 (started_head e.1)
    ≡ started_up_to (suc i) es
started_in_turn [] i e up inside is = absurd (omega arith)
started_in_turn (f ∷ es) zero e up inside is =
    rw (eq-eqb f.0 e.0 (ap (λ (x : ℕ × Head). x.0) is))
    (ap (λ (x : ℕ × Head). (f.0, started_head x.1) ∷ es) (sym is))
started_in_turn (f ∷ es) (suc i) e up inside is =
    let apart : f.0 ≢ e.0 = λ same. let above =
    key_above f.0 es i e up.0 (omega arith) is in omega arith in
    rw (ne_eqb f.0 e.0 apart)
    (ap (λ (l : Entries Head). started_entry f ∷ l)
    (started_in_turn es i e up.1 (omega arith) is))

pub length_up_to : (es : Entries Head) (i : ℕ) → length (started_up_to i es) ≡ length es
length_up_to [] zero = refl
length_up_to [] (suc i) = refl
length_up_to (e ∷ es) zero = refl
length_up_to (e ∷ es) (suc i) = omega (arith, length_up_to es i)

pub all_started : (es : Entries Head) (i : ℕ) → length es ≤ i
    → started_up_to i es ≡ map started_entry es
all_started [] zero many = refl
all_started [] (suc i) many = refl
all_started (e ∷ es) zero many = absurd (omega arith)
all_started (e ∷ es) (suc i) many =
    ap (λ (l : Entries Head). started_entry e ∷ l) (all_started es i (omega arith))

-- ---- attributes

unlocked_written : (a : NvAttributes) → has (unlocked a) attribute.Written ≡ has a attribute.Written
unlocked_written a =
    let readable = without_attribute a attribute.ReadLocked in
    let first = are_attributes.cleared_others a attribute.ReadLocked attribute.Written
    (λ same. omega arith) in
    let second = are_attributes.cleared_others readable attribute.WriteLocked attribute.Written
    (λ same. omega arith) in
    cond_both (has a attribute.WriteDefine && has a attribute.Written) readable
    (without_attribute readable attribute.WriteLocked)
    (λ (b : NvAttributes). has b attribute.Written ≡ has a attribute.Written)
    (λ _. first)
    (λ _. second ∙ first)

-- If an index has WRITTEN set after a startup, it also had WRITTEN set before.
kept_bytes : (a : NvAttributes) (bytes : List ℕ)
    → cond (has (kept_written a) attribute.Written) bytes []
    ≡ cond (has (kept_written a) attribute.Written) (cond (has a attribute.Written) bytes []) []
kept_bytes a bytes =
    cond_both (has a attribute.ClearStClear) (without_attribute a attribute.Written) a
    (λ (b : NvAttributes). cond (has b attribute.Written) bytes []
    ≡ cond (has b attribute.Written) (cond (has a attribute.Written) bytes []) [])
    (λ _. rw (are_attributes.cleared_gone a attribute.Written) refl)
    (λ _. twice (has a attribute.Written))
  where
    twice : (b : Bool) → cond b bytes [] ≡ cond b (cond b bytes []) []
    twice true = refl
    twice false = refl

index_started : (h : Head) (bytes : List ℕ)
    → index_with (started_head h) bytes ≡ started_index (index_with h bytes)
index_started h bytes =
    let a = h.public.attributes in
    let made : List ℕ → NvIndex =
    λ l. record { public = (started_head h).public; auth_value = h.auth_value; bytes = l } in
    ap made (ap (λ (b : Bool). cond b bytes []) (unlocked_written (kept_written a))
    ∙ kept_bytes a bytes)

pub started_among : (es : Entries Head) (area : List ℕ)
    → indices_of (map started_entry es) area
    ≡ map (λ (e : ℕ × NvIndex). (e.0, started_index e.1)) (indices_of es area)
started_among [] area = refl
started_among (e ∷ es) area =
    let n = size_of e.1 in
    let first = index_started e.1 (take n area) in
    let rest = started_among es (drop n area) in
    ap (λ (i : NvIndex). (e.0, i) ∷ indices_of (map started_entry es) (drop n area)) first
    ∙ ap (λ (l : List (ℕ × NvIndex)). (e.0, started_index (index_with e.1 (take n area))) ∷ l) rest

-- ---- stored heads and bytes

named_cleared : (a : NvAttributes) (one : NvAttribute) → IsNvAttributes a
    → IsNvAttributes (without_attribute a one)
named_cleared = are_attributes.cleared_named

named_started : (a : NvAttributes) → IsNvAttributes a → IsNvAttributes (started_attributes a)
named_started a is =
    let kept : IsNvAttributes (kept_written a) =
    cond_both (has a attribute.ClearStClear) (without_attribute a attribute.Written) a
    IsNvAttributes (λ _. named_cleared a attribute.Written is) (λ _. is) in
    let b = kept_written a in
    let readable = named_cleared b attribute.ReadLocked kept in
    cond_both (has b attribute.WriteDefine && has b attribute.Written)
    (without_attribute b attribute.ReadLocked)
    (without_attribute (without_attribute b attribute.ReadLocked) attribute.WriteLocked)
    IsNvAttributes
    (λ _. readable)
    (λ _. named_cleared (without_attribute b attribute.ReadLocked) attribute.WriteLocked readable)

type_started : (a : NvAttributes) → index_type (started_attributes a) ≡ index_type a
type_started a =
    let kept : index_type (kept_written a) ≡ index_type a =
    cond_both (has a attribute.ClearStClear) (without_attribute a attribute.Written) a
    (λ (b : NvAttributes). index_type b ≡ index_type a)
    (λ _. are_attributes.cleared_type a attribute.Written) (λ _. refl) in
    let b = kept_written a in
    let first = are_attributes.cleared_type b attribute.ReadLocked in
    let second = are_attributes.cleared_type (without_attribute b attribute.ReadLocked)
    attribute.WriteLocked in
    cond_both (has b attribute.WriteDefine && has b attribute.Written)
    (without_attribute b attribute.ReadLocked)
    (without_attribute (without_attribute b attribute.ReadLocked) attribute.WriteLocked)
    (λ (x : NvAttributes). index_type x ≡ index_type a)
    (λ _. first ∙ kept)
    (λ _. second ∙ first ∙ kept)

above_started : (low : ℕ) (es : Entries Head) → AllAbove low es
    → AllAbove low (map started_entry es)
above_started low [] above = tt
above_started low (e ∷ es) above = (above.0, above_started low es above.1)

ascends_started : (es : Entries Head) → Ascends es → Ascends (map started_entry es)
ascends_started [] up = tt
ascends_started (e ∷ es) up = (above_started e.0 es up.0, ascends_started es up.1)

total_started : (es : Entries Head) → total (map started_entry es) ≡ total es
total_started [] = refl
total_started (e ∷ es) = ap (λ (n : ℕ). size_of e.1 + n) (total_started es)

heads_started : (es : Entries Head) → AreHeads es → AreHeads (map started_entry es)
heads_started [] are = tt
heads_started (e ∷ es) are =
    let a = e.1.public.attributes in (
      is_head_with e.0 e.1 (started_attributes a) are.0 (named_started a are.0.public.attributes)
          (type_started a),
      heads_started es are.1,
    )

pub kept_started : (es : Entries Head) (area : List ℕ) → AreKept es area
    → AreKept (map started_entry es) area
kept_started es area kept =
    let many = length-map es started_entry in
    let sum = total_started es in
    record {
      ascends = ascends_started es kept.ascends;
      few = omega (arith, many, kept.few);
      whole = kept.whole ∙ sym sum;
      small = omega (arith, sum, kept.small);
      each = heads_started es kept.each;
    }
