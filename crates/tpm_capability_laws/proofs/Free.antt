-- The number of listed sessions, or of transient objects, is the number of slots exactly if no slot
-- is free.
use Rattle.std.proofs.Common.{arith, ◌≡◌, ◌≢◌, ℕ, zero, suc, ◌+◌, ◌-◌, ◌*◌, ◌/◌, ◌%◌, ◌^◌, ◌<◌, ◌≤◌, ◌==◌, Bool, true, false, cond, not, List, [], ◌∷◌, ◌++◌, length, Option, Some, None, refl, sym, ap, subst, ◌∙◌, inl, inr, is_some}
use Rattle.std.proofs.lemmas.Bool.{cases_eq, eq-eqb, ne_eqb}
use Rattle.std.proofs.lemmas.Grind.{flat_map-append}
use Rattle.std.proofs.lemmas.List.{length-append}
use Rattle.std.specs.Prelude.{is_ok, ok_or, option_and_then}
use Rattle.std.specs.List.{flat_map}
use Rattle.std.specs.Option.{option_map_or}
use Rattle.tpm_bytes.specs.Numbers.{numbers_below}
use Rattle.tpm_containers.proofs.SlotLaws.{all_taken, counted, lowest_free-free}
use Rattle.tpm_containers.specs.Numbered.{at_number, if_of_kind, kind_of, number_of, place_of}
use Rattle.tpm_containers.specs.Slots.{at_place, lowest_free}
use Rattle.tpm_object.specs.Object.{transient_byte}
use Rattle.tpm_object.specs.declared.object.Object.{Object}
use Rattle.tpm_session.specs.Sessions.{handle_of}
use Rattle.tpm_session.specs.declared.session.Session.{Session}
use Rattle.tpm_types_common.specs.Limits.{object_limit, session_limit}
use Rattle.tpm_types_common.specs.Rc.{plain}
use Rattle.tpm_types_common.specs.declared.action_check.ActionCheck.{ActionCheck}
use Rattle.tpm_types_common.specs.declared.action_check.ActionCheck.TheVariants as action
use Rattle.tpm_types_common.specs.declared.rc.ResponseCode.TheVariants as code
use Rattle.tpm_record.specs.IsRecord.{IsRecord}
use Rattle.tpm_record.specs.Objects.{object_at}
use Rattle.tpm_record.specs.Record.{Record}
use Rattle.tpm_record.specs.rows.Refusals.{action_refusal}
use Rattle.tpm_actions_capability.specs.Element.{by_itself, if_there}
use Rattle.tpm_actions_capability.specs.Elements.{object_element, session_element}
use Rattle.tpm_actions_capability.specs.Properties.{complete_elements, count_elements, identity_elements, limit_elements, object_count, session_count}
use Rattle.tpm_actions_capability.specs.declared.element.Element.{Element}
use Rattle.tpm_actions_device.specs.StartAuthSession.{session_place}
use Rattle.tpm_actions_object.specs.Loaded.{no_place, place_for}
use Rattle.tpm_capability_laws.specs.Free.{ObjectsAreLoadedIfFree, SessionsStartIfFree}

-- Each slot lists one element if it is taken, and none if it is free.
abbrev Lists : {X : Type 0} → List (Option X) → (ℕ → List Element) → Type 0
Lists places listed = (place : ℕ) → place < length places
    → length (listed place) ≡ counted (at_place places place)

is_taken : {X : Type 0} (cell : Option X) → cell ≢ None → counted cell ≡ 1
is_taken None taken = absurd (taken refl)
is_taken (Some x) taken = refl

few : {X : Type 0} (cell : Option X) → counted cell ≤ 1
few None = omega arith
few (Some x) = omega arith

module _ {X : Type 0} (places : List (Option X)) (listed : ℕ → List Element)
    (lists : Lists places listed) where
  abbrev count : ℕ → ℕ
  count n = length (flat_map listed (numbers_below n))

  one_more : (n : ℕ) → count (suc n) ≡ count n + length (listed n)
  one_more n =
      let joined = ap (λ (l : List Element). length l)
      (flat_map-append listed (numbers_below n) (n ∷ [])) in
      let outer = length-append (flat_map listed (numbers_below n)) (listed n ++ []) in
      let inner = length-append (listed n) [] in
      joined ∙ omega (arith, outer, inner)

  few_listed : (n : ℕ) → n ≤ length places → count n ≤ n
  few_listed zero within = omega arith
  few_listed (suc n) within =
      let here = lists n (omega (arith, within)) in
      omega (
        arith,
        one_more n,
        few_listed n (omega (arith, within)),
        here,
        few (at_place places n),
      )

  all_listed : (n : ℕ) → n ≤ length places
      → ((place : ℕ) → place < length places → at_place places place ≢ None) → count n ≡ n
  all_listed zero within each = refl
  all_listed (suc n) within each =
      let below : n < length places = omega (arith, within) in
      let last = lists n below ∙ is_taken (at_place places n) (each n below) in
      omega (arith, one_more n, all_listed n (omega (arith, within)) each, last)

  one_missing : (n place : ℕ) → n ≤ length places → place < n → at_place places place ≡ None
      → count n < n
  one_missing zero place within below free = absurd (omega (arith, below))
  one_missing (suc n) place within below free =
      let here = lists n (omega (arith, within)) in
      let before = few_listed n (omega (arith, within)) in
      elim (cases_eq place n) [
        | inl same ↦
            let none = ap (λ (cell : Option X). counted cell)
            (subst (λ (p : ℕ). at_place places p ≡ None) same free) in
            omega (arith, one_more n, before, here, none)
        | inr apart ↦
            let fewer = one_missing n place (omega (arith, within)) (omega (arith, below, apart))
            free in
            omega (arith, one_more n, fewer, here, few (at_place places n))
      ]

  -- Some slot is free exactly if the number of elements is not the number of slots.
  pub found_if_free : {E : Type 0} (e : E) → is_ok (ok_or (lowest_free places) e)
      ≡ not (length places - count (length places) == 0)
  found_if_free {E} e = by (lowest_free places) refl
    where
      by : (found : Option ℕ) → lowest_free places ≡ found
          → is_ok (ok_or {E = E} found e) ≡ not (length places - count (length places) == 0)
      by None is =
          let all = all_listed (length places) (omega arith)
          (λ place below. all_taken places place is below) in
          sym (ap not (eq-eqb (length places - count (length places)) 0 (omega (arith, all))))
      by (Some place) is =
          let free = lowest_free-free places place is in
          let missing = one_missing (length places) place (omega arith) free.0 free.1 in
          sym (ap not (ne_eqb (length places - count (length places)) 0
          (λ none. omega (arith, missing, none))))

-- ---- sessions

session_lists : (r : Record) → Lists r.sessions (session_element r)
session_lists r place below = by (at_place r.sessions place)
  where
    shown : Option Session → List Element
    shown found =
        option_map_or
        (λ (s : Session). record { number = place; told = (handle_of s.kind place).number } ∷ [])
        found []

    by : (found : Option Session) → length (shown found) ≡ counted found
    by None = refl
    by (Some s) = refl

session_free : (r : Record) → IsRecord r
    → is_ok (session_place r.sessions) ≡ not (session_limit - session_count r == 0)
session_free r is =
    subst (λ (n : ℕ). is_ok (session_place r.sessions) ≡ not (n
    - length (flat_map (session_element r) (numbers_below n)) == 0)) is.sessions
    (found_if_free r.sessions (session_element r) (session_lists r)
    (action_refusal action.Fourth (plain code.SessionMemory)))

pub sessions_start : SessionsStartIfFree
unfolding complete_elements identity_elements limit_elements count_elements
sessions_start r is =
    let free : ℕ = session_limit - session_count r in
    ((free, refl, session_free r is), (free, refl, session_free r is))

-- ---- transient objects

object_lists : (r : Record) → length r.objects < 2 ^ 24 → Lists r.objects (object_element r)
unfolding object_at at_number
object_lists r small place below =
    let back : place_of (number_of 0x80 place) ≡ place = omega (arith, small, below) in
    let kind : kind_of (number_of 0x80 place) ≡ 0x80 = omega (arith, small, below) in
    ap (λ (p : ℕ). shown (kind_of (number_of 0x80 place)) (at_place r.objects p)) back
    ∙ ap (λ (k : ℕ). shown k (at_place r.objects place)) kind ∙ by (at_place r.objects place)
  where
    shown : ℕ → Option Object → ℕ
    shown kind found =
        length (if_there (is_some
        (option_and_then (λ (o : Object). cond (kind == transient_byte o) (Some o) None) found))
        (by_itself (number_of 0x80 place)))

    by : (found : Option Object) → shown 0x80 found ≡ counted found
    by None = refl
    by (Some o) = refl

object_free : (r : Record) (check : ActionCheck) → IsRecord r
    → is_ok (place_for check r) ≡ not (object_limit - object_count r == 0)
object_free r check is =
    subst (λ (n : ℕ). is_ok (place_for check r) ≡ not (n
    - length (flat_map (object_element r) (numbers_below n)) == 0)) is.objects
    (found_if_free r.objects (object_element r) (object_lists r (omega (arith, is.objects)))
    (no_place check))

pub objects_load : ObjectsAreLoadedIfFree
unfolding complete_elements identity_elements limit_elements count_elements
objects_load r check is = (object_limit - object_count r, refl, object_free r check is)
