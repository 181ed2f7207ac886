-- The persistent objects of an image: decoding returns a value exactly when the bytes begin with
-- its encoding.
use Rattle.tpm_image_text.specs.Sizes.{object_fields_size, objects_size}
use Rattle.std.proofs.Common.{◌≡◌, ℕ, ◌*◌, ◌^◌, ◌<◌, ◌≤◌, true, List, [], ◌∷◌, ◌++◌, length, Some, None, Ok, refl, sym, ap, subst, ◌∙◌, append_assoc, arith, length-append}
use Rattle.std.specs.Prelude.{◌==◌}
use Rattle.std.specs.Int.{w16, w32, to_be_bytes}
use Rattle.std.specs.List.{AllByRecursion, flat_map}
use Rattle.std.proofs.lemmas.Bool.{eqb-true}
use Rattle.std.proofs.lemmas.Bool.Decides.{Decides-eqb}
use Rattle.std.proofs.lemmas.Slice.Eq.{bytes_eq-Decides}
use Rattle.tpm_containers.specs.SortedMap.{Entries}
use Rattle.tpm_bytes.specs.Reading.{◌>>=◌}
use Rattle.tpm_bytes.specs.Writing.{sized_text}
use Rattle.tpm_bytes.proofs.Fields.{wide32}
use Rattle.tpm_object.specs.Object.{IsObject}
use Rattle.tpm_object.specs.declared.object.Object.{Object}
use Rattle.tpm_record.specs.Persistent.{ArePersistent, IsPersistent}
use Rattle.tpm_types_common.specs.Handle.{hierarchy_handle, hierarchy_of, is_persistent, numbered_handle}
use Rattle.tpm_types_common.specs.declared.handle.Handle.{Handle}
use Rattle.tpm_types_common.specs.declared.handle.HierarchyHandle.{HierarchyHandle}
use Rattle.tpm_types_common.specs.declared.handle.HierarchyHandle.TheVariants as hierarchy
use Rattle.tpm_types_common.proofs.Named.{link, none}
use Rattle.tpm_types_common.proofs.Spelled.{Spelled, all_read, first, for_each, respelled, then, two_texts}
use Rattle.tpm_types_object.specs.Public.{IsPublic, object_type, object_type_named, object_type_number, public_text}
use Rattle.tpm_types_object.specs.Sensitive.{IsSensitive, sensitive_text}
use Rattle.tpm_types_object.specs.declared.public.ObjectType.{ObjectType}
use Rattle.tpm_types_object.specs.declared.public.Public.{Public}
use Rattle.tpm_types_object.specs.declared.sensitive.Sensitive.{Sensitive}
use Rattle.tpm_types_object.proofs.ObjectFields.{object_type_named-again}
use Rattle.tpm_types_object.proofs.PublicLaws.{parameters_small, sized_public_spelled}
use Rattle.tpm_types_object.proofs.SensitiveLaws.{sized_sensitive_spelled}
use Rattle.tpm_image_text.specs.Body.{ascend_from, handle_in, is_persistable, is_sensitive_of, object_fields_in, object_fields_text, object_in, object_text, objects_in, objects_text, object_hierarchy_in, sensitive_in, sensitive_of}
use Rattle.tpm_image_text.specs.Fields.{is_trimmed, malformed_fault}
use Rattle.tpm_image_text.proofs.SortedMapLaws.{are_both, are_each, are_each-again, ascends, ascends-again, both}
use Rattle.tpm_image_text.proofs.FieldSpelling.{buffer_in_spelled, counted_spelled, in_body_spelled, made_of, names_spelled, number_in_spelled, passing_spelled, tested}

-- ---- the handle and the hierarchy

handle_spelled : Spelled (λ (handle : Handle). to_be_bytes w32 handle.number)
    (λ handle. is_persistent handle ≡ true) handle_in
unfolding handle_in
handle_spelled =
    let number = number_in_spelled w32 (2 ^ 32) wide32 in
    let named = tested (λ n. is_persistent (numbered_handle n)) malformed_fault numbered_handle
    (λ handle. handle.number) (λ _. refl) (λ _. refl) number in
    respelled named (λ _. refl) (λ handle is. is.1)
    (λ handle is. (omega (arith, eqb-true _ _ is), is))

abbrev owner_number : HierarchyHandle → ℕ
owner_number owner = (hierarchy_handle owner).number

owner_is : (number : ℕ) (owner : HierarchyHandle)
    → hierarchy_of (numbered_handle number) ≡ Some owner → number ≡ owner_number owner
owner_is number owner =
    link owner_number number hierarchy.Owner _ owner
    λ a. link owner_number number hierarchy.Endorsement _ a
    λ b. link owner_number number hierarchy.Platform _ b
    λ c. link owner_number number hierarchy.Null None c (none owner_number number)

owner_again : (owner : HierarchyHandle) → hierarchy_of (numbered_handle (owner_number owner))
    ≡ Some owner
owner_again hierarchy.Owner = refl
owner_again hierarchy.Endorsement = refl
owner_again hierarchy.Platform = refl
owner_again hierarchy.Null = refl

owner_small : (owner : HierarchyHandle) → owner_number owner < 2 ^ 32
owner_small hierarchy.Owner = omega arith
owner_small hierarchy.Endorsement = omega arith
owner_small hierarchy.Platform = omega arith
owner_small hierarchy.Null = omega arith

owner_spelled : Spelled (λ owner. to_be_bytes w32 (owner_number owner)) (λ owner. Unit {0})
    object_hierarchy_in
unfolding object_hierarchy_in
owner_spelled = names_spelled w32 (2 ^ 32) wide32 owner_number
    (λ n. hierarchy_of (numbered_handle n)) malformed_fault malformed_fault owner_is owner_again
    owner_small

-- ---- the sensitive area

sensitive_spelled : (p : Public)
    → Spelled (λ s. sized_text (sensitive_text s))
    (λ s. IsSensitive s × (is_sensitive_of p s ≡ true)) (sensitive_in p)
unfolding sensitive_in
sensitive_spelled p = passing_spelled (is_sensitive_of p) (in_body_spelled sized_sensitive_spelled)

same_type : (a b : ObjectType) → object_type_number a ≡ object_type_number b → a ≡ b
same_type a b same =
    let some : Some a ≡ Some b = sym (object_type_named-again a) ∙ ap object_type_named same
    ∙ object_type_named-again b in
    cc

-- The parts of a sensitive area have allowed sizes, and the area belongs to this public area.
abbrev IsOf : Public → Sensitive → Type 0
IsOf p s = IsSensitive s × (is_sensitive_of p s ≡ true)

-- the fields of an object before its sensitive area
abbrev Fields : Type 0
Fields = (HierarchyHandle × List ℕ) × Public

abbrev fields_of : Object → Fields
fields_of o = ((o.hierarchy, o.qualified_name), o.public)

abbrev object_of : Fields → Sensitive → Object
object_of f s = record {
  hierarchy = f.0.0;
  public = f.1;
  auth_value = s.auth_value;
  seed_value =
      s.seed_value;
  sensitive = s.sensitive;
  qualified_name = f.0.1;
}

-- An object's sensitive area can be decoded, and belongs to the object's public area.
abbrev HasArea : Object → Type 0
HasArea o = IsOf o.public (sensitive_of o)

same_area : (f : Fields) (s : Sensitive) → IsOf f.1 s → sensitive_of (object_of f s) ≡ s
same_area f s is =
    let tests = are_both (object_type_number s.object_type == object_type_number (object_type f.1))
    (is_trimmed s.auth_value) is.1 in
    ap (λ (t : ObjectType). record s { object_type = t })
    (sym (same_type s.object_type (object_type f.1) (eqb-true _ _ tests.0)))

area_spelled : (f : Fields) → Spelled (λ o. sized_text (sensitive_text (sensitive_of o)))
    (λ o. HasArea o × (fields_of o ≡ f))
    (λ bytes. sensitive_in f.1 bytes >>= λ s. Ok (object_of f s.0, s.1))
area_spelled f = made_of (object_of f) sensitive_of to from (sensitive_spelled f.1)
  where
    to : (s : Sensitive) → IsOf f.1 s → (sensitive_of (object_of f s) ≡ s)
        × (HasArea (object_of f s) × (fields_of (object_of f s) ≡ f))
    to s is =
        let same = same_area f s is in
        (same, (subst (IsOf f.1) (sym same) is, refl))

    from : (o : Object) → HasArea o × (fields_of o ≡ f) → (object_of f (sensitive_of o) ≡ o)
        × IsOf f.1 (sensitive_of o)
    from o has =
        subst (λ (g : Fields). (object_of g (sensitive_of o) ≡ o) × IsOf g.1 (sensitive_of o)) has.1
        (refl, has.0)

-- ---- one object

has_area : (o : Object) → IsObject o → HasArea o
has_area o is =
    let number = object_type_number (object_type o.public) in
    let sizes : IsSensitive (sensitive_of o) =
    record {
      auth_value = is.auth_value.0;
      seed_value = is.seed_value;
      sensitive =
          is.sensitive;
    } in (
      sizes,
      both _ _ ((Decides-eqb number number).1 refl)
          ((bytes_eq-Decides _ _).1 is.auth_value.1),
    )

is_object : (o : Object) → length o.qualified_name ≤ 34 → IsPublic o.public → HasArea o → IsObject o
is_object o name public area =
    let number = object_type_number (object_type o.public) in
    let trimmed = (are_both (number == number) (is_trimmed o.auth_value) area.1).1 in
    record {
      public = public;
      auth_value = (area.0.auth_value, (bytes_eq-Decides _ _).0 trimmed);
      seed_value = area.0.seed_value;
      sensitive = area.0.sensitive;
      qualified_name = name;
    }

pub object_fields_spelled : Spelled object_fields_text IsObject object_fields_in
unfolding object_fields_in object_fields_text
object_fields_spelled =
    let area = for_each fields_of (λ o. sized_text (sensitive_text (sensitive_of o))) HasArea _
    area_spelled in
    respelled
    (first owner_spelled
    (then (buffer_in_spelled 34 (omega arith))
    (then (in_body_spelled sized_public_spelled) area)))
    (λ o. parts (to_be_bytes w32 (owner_number o.hierarchy)) (sized_text o.qualified_name)
    (sized_text (public_text o.public)) (sized_text (sensitive_text (sensitive_of o))))
    (λ o is. is_object o is.1.0 is.1.1.0 is.1.1.1)
    (λ o is. (tt, (is.qualified_name, (is.public, has_area o is))))
  where
    parts : (a b c d : List ℕ) → a ++ b ++ c ++ d ≡ a ++ (b ++ (c ++ d))
    parts a b c d = simp append_assoc refl

-- ---- one persistent object

abbrev entry_fields : ℕ × Object → Handle × Object
entry_fields e = (numbered_handle e.0, e.1)

abbrev entry_of : Handle × Object → ℕ × Object
entry_of f = (f.0.number, f.1)

pub object_spelled : Spelled object_text (λ e. IsPersistent e.0 e.1) object_in
unfolding object_in object_text
object_spelled =
    respelled
    (first handle_spelled
    (then (passing_spelled is_persistable object_fields_spelled)
    (all_read entry_fields entry_of (λ _. refl) (λ _. refl))))
    (λ e. two_texts (to_be_bytes w32 e.0) (object_fields_text e.1))
    (λ e is. record { named = is.0; owned = is.1.0.1; sized = is.1.0.0 })
    (λ e is. (is.named, ((is.sized, is.owned), tt)))

-- ---- all persistent objects

pub objects_spelled : Spelled objects_text ArePersistent objects_in
unfolding objects_in objects_text
objects_spelled =
    respelled (passing_spelled (ascend_from 0) (counted_spelled 16 (omega arith) object_spelled))
    (λ _. refl)
    (λ es is. record {
      ascends = ascends 0 es is.1;
      few = is.0.0;
      each =
          are_each IsPersistent es is.0.1;
    })
    (λ es are. ((are.few, are_each-again IsPersistent es are.each), ascends-again es are.ascends))

-- ---- the largest size of the encoded objects

public_small : (p : Public) → IsPublic p → length (public_text p) ≤ 82
unfolding public_text
public_small p is =
    simp length-append (omega (arith, is.auth_policy, is.unique, parameters_small p.parameters))

area_small : (o : Object) → IsObject o → length (sensitive_text (sensitive_of o)) ≤ 200
unfolding sensitive_text
area_small o is = simp length-append (omega (arith, is.auth_value.0, is.seed_value, is.sensitive))

pub object_fields_small : (o : Object) → IsObject o
    → length (object_fields_text o) ≤ object_fields_size
unfolding object_fields_text
object_fields_small o is =
    simp length-append
    (omega (arith, is.qualified_name, public_small o.public is.public, area_small o is))

pub object_small : (e : ℕ × Object) → IsPersistent e.0 e.1 → length (object_text e) ≤ 330
unfolding object_text
object_small e is = omega (arith, object_fields_small e.1 is.sized)

all_small : (es : Entries Object) → AllByRecursion (λ e. IsPersistent e.0 e.1) es
    → length (flat_map object_text es) ≤ 330 * length es
all_small [] each = omega arith
all_small (e ∷ es) each =
    omega (
      arith,
      object_small e each.0,
      all_small es each.1,
      length-append (object_text e) (flat_map object_text es),
    )

pub objects_small : (es : Entries Object) → ArePersistent es
    → length (objects_text es) ≤ objects_size
unfolding objects_text
objects_small es are =
    omega (
      arith,
      are.few,
      all_small es (are_each-again IsPersistent es are.each),
      length-append (to_be_bytes w16 (length es)) (flat_map object_text es),
    )
