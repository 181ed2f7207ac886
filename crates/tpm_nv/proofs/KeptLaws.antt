-- If one NV index changes, the stored heads and bytes still satisfy their invariant, and represent
-- the changed indices.
use Rattle.tpm_types_common.specs.Limits.{nv_index_limit, nv_space_limit}
use Rattle.std.proofs.Common.{◌≡◌, ◌≢◌, ℕ, ◌+◌, ◌-◌, ◌<◌, ◌≤◌, ◌^◌, Bool, true, false, cond, List, [], ◌∷◌, ◌++◌, length, take, drop, replicate, Option, Some, None, refl, sym, ap, subst, ◌∙◌, arith, length-append, length-drop}
use Rattle.std.specs.Prelude.{◌&&◌, not, nat_lt, nat_le, Ok, IfNone, IfSome, IsSomeAnd, option_copied, option_map}
use Rattle.std.specs.Borrow.{Bor}
use Rattle.std.proofs.lemmas.Bool.{eqb-true, leb-true, ltb-true}
use Rattle.std.proofs.lemmas.List.{append-nil, length-replicate, length-take-le, nil_from_length}
use Rattle.tpm_bytes.specs.Reading.{refused_if}
use Rattle.tpm_bytes.proofs.Fields.{bind_ok, passed}
use Rattle.tpm_containers.specs.SortedMap.{Ascends, Entries, at_key, changed_key, with_key, without_key}
use Rattle.tpm_containers.proofs.SortedMapLaws.{changed_ascends, changed_length, put_ascends, put_length, removed_ascends, removed_few}
use Rattle.tpm_types_common.specs.AuthValue.{IsAuthValue}
use Rattle.tpm_types_common.specs.declared.handle.Handle.{Handle}
use Rattle.tpm_types_nv.specs.NvAttributes.{IsNvAttributes, attribute_bit, has, index_type, is_of, type_number, with_attribute}
use Rattle.tpm_types_nv.specs.NvType.{nv_type_named, nv_type_number}
use Rattle.tpm_types_nv.specs.declared.nv_attributes.NvAttribute.{NvAttribute}
use Rattle.tpm_types_nv.specs.declared.nv_attributes.NvAttribute.TheVariants as attribute
use Rattle.tpm_types_nv.specs.declared.nv_attributes.NvAttributes.{NvAttributes}
use Rattle.tpm_types_nv.specs.declared.nv_public.NvPublic.{NvPublic}
use Rattle.tpm_types_nv.specs.declared.nv_type.NvType.{NvType}
use Rattle.tpm_types_nv.specs.declared.nv_type.NvType.TheVariants as type
use Rattle.tpm_types_nv.proofs.AttributeLaws.{are_attributes}
use Rattle.tpm_nv.specs.Access.{data_or, marked_index, with_data, writable}
use Rattle.tpm_nv.specs.declared.fault.WriteFault.TheVariants.{Locked, Attributes}
use Rattle.tpm_nv.specs.Bytes.{closed_up, filled_bytes, piece_of, put_over}
use Rattle.tpm_nv.specs.Definition.{has_type_size, is_type_size}
use Rattle.tpm_nv.specs.Head.{AreHeads, AreKept, IsHead, IsIndexOf, head_of, index_with, indices_of, size_of, start_in, start_of, total, with_attributes}
use Rattle.tpm_nv.specs.Index.{NvContents, NvIndex, changed_index, has_room, index_at}
use Rattle.tpm_nv.specs.IsContents.{AreIndices, IsContents}
use Rattle.tpm_nv.specs.declared.head.Head.{Head}
use Rattle.tpm_nv.specs.declared.place.Found.{Found}
use Rattle.tpm_nv.proofs.Cuts.{ascends_among, bytes_among, changed_among, found_among, head_at, heads_among, heads_changed, heads_put, heads_removed, length_among, length_put, none_among, piece_fits, put_anew, put_back, put_within, start_fits, total_changed, total_put, total_removed}

-- ---- what a search for a head reveals about the index

pub absent_is : (es : Entries Head) (area : List ℕ) (key : ℕ) (found : Option (Bor Head))
    → option_copied found ≡ at_key es key → IfNone found (at_key (indices_of es area) key ≡ None)
absent_is es area key None is = none_among es area key (sym is)
absent_is es area key (Some h) is = tt

pub there_is : (es : Entries Head) (area : List ℕ) (count : ℕ) (handle : Handle)
    (found : Option (Bor Head)) → AreKept es area → option_copied found ≡ at_key es handle.number
    → IfSome found (λ h. (bytes : List ℕ)
    × IsIndexOf (record { indices = indices_of es area; max_count = count }) handle h.now bytes)
there_is es area count handle None kept is = tt
there_is es area count handle (Some h) kept is =
    let key = handle.number in
    let s = start_of es key in
    let n = size_of h.now in
    let fits : s + n ≤ length area =
    omega (arith, kept.whole, piece_fits es key h.now kept.ascends (sym is)) in (
      piece_of s n area,
      record {
        long = length-take-le n (drop s area) (omega (arith, fits, length-drop s area));
        sized = (head_at es key h.now kept.ascends kept.each (sym is)).sized;
        found = found_among es area key h.now kept.ascends (sym is);
      },
    )

-- If a search's result has a property, so does the index that the search found.
pub known_of : (P : NvIndex → Type 0) (found : Option NvIndex) (x : NvIndex) → found ≡ Some x
    → IsSomeAnd found P → P x
known_of P None x is known = absurd cc
known_of P (Some y) x is known = let same : y ≡ x = cc in subst P same known

-- If new heads and a new area represent the old indices with one index changed, the contents change
-- in this index only.
pub contents_changed : (es new : Entries Head) (area after : List ℕ) (count : ℕ) (handle : Handle)
    (shown : NvContents) (x : NvIndex) (f : NvIndex → NvIndex)
    → (let view : NvContents = record { indices = indices_of es area; max_count = count } in view
    ≡ shown) → at_key (indices_of es area) handle.number ≡ Some x
    → indices_of new after ≡ changed_key (indices_of es area) handle.number (f x)
    → (index : NvIndex) → index_at shown handle ≡ Some index
    → (let view : NvContents = record { indices = indices_of new after; max_count = count } in view
    ≡ changed_index shown handle (f index))
contents_changed es new area after count handle shown x f view found seen index is =
    let there : at_key (indices_of es area) handle.number ≡ Some index =
    ap (λ (s : NvContents). index_at s handle) view ∙ is in
    let same : x ≡ index = cc in
    let whole : NvContents = record { indices = indices_of es area; max_count = count } in
    let changed : indices_of new after ≡ changed_key (indices_of es area) handle.number (f index) =
    seen ∙ ap (λ (i : NvIndex). changed_key (indices_of es area) handle.number (f i)) same in
    let made : List (ℕ × NvIndex) → NvContents = λ l. record { indices = l; max_count = count } in
    ap made changed ∙ ap (λ (s : NvContents). changed_index s handle (f index)) view

-- ---- attributes of a head

type_size_is : (p q : NvPublic) (type : Option NvType) → p.data_size ≡ q.data_size
    → p.name_alg ≡ q.name_alg → is_type_size p type ≡ is_type_size q type
type_size_is p q (Some type.Ordinary) size alg = cc
type_size_is p q (Some type.Counter) size alg = cc
type_size_is p q (Some type.Bits) size alg = cc
type_size_is p q (Some type.Extend) size alg = cc
type_size_is p q None size alg = refl

pub is_head_with : (key : ℕ) (h : Head) (a : NvAttributes) → IsHead key h → IsNvAttributes a
    → index_type a ≡ index_type h.public.attributes → IsHead key (with_attributes h a)
is_head_with key h a is named same = record {
  named = is.named;
  public = record {
    nv_index = is.public.nv_index;
    attributes = named;
    auth_policy =
        is.public.auth_policy;
    data_size = is.public.data_size;
  };
  sized =
      type_size_is (with_attributes h a).public h.public (index_type a) refl refl
      ∙ ap (is_type_size h.public) same
      ∙ is.sized;
  auth_value = is.auth_value;
}

pub is_head_authorized : (key : ℕ) (h : Head) (value : List ℕ) → IsHead key h → IsAuthValue value
    → IsHead key (record h { auth_value = value })
is_head_authorized key h value is fits =
    record { named = is.named; public = is.public; sized = is.sized; auth_value = fits }

-- ---- changing a head

pub kept_changed : (es : Entries Head) (area after : List ℕ) (key : ℕ) (h g : Head)
    → AreKept es area → at_key es key ≡ Some h → IsHead key g → size_of g ≡ size_of h
    → length after ≡ length area → AreKept (changed_key es key g) after
kept_changed es area after key h g kept there is same_size same_length =
    let many = changed_length es key g in
    let sum = total_changed es key h g kept.ascends there same_size in
    record {
      ascends = changed_ascends es key g kept.ascends;
      few = omega (arith, many, kept.few);
      whole = same_length ∙ kept.whole ∙ sym sum;
      small = omega (arith, sum, kept.small);
      each = heads_changed es key g kept.each is;
    }

-- If a head changes and its bytes do not, the index that the head and the bytes represent changes
-- accordingly.
pub seen_changed : (es : Entries Head) (area : List ℕ) (key : ℕ) (h g : Head) → AreKept es area
    → at_key es key ≡ Some h → size_of g ≡ size_of h
    → indices_of (changed_key es key g) area
    ≡ changed_key (indices_of es area) key
    (index_with g (piece_of (start_of es key) (size_of h) area))
seen_changed es area key h g kept there same_size =
    let s = start_of es key in
    let n = size_of h in
    let fits : s + n ≤ length area =
    omega (arith, kept.whole, piece_fits es key h kept.ascends there) in
    let many : length (piece_of s n area) ≡ n =
    length-take-le n (drop s area) (omega (arith, fits, length-drop s area)) in
    ap (λ (l : List ℕ). indices_of (changed_key es key g) l) (sym (put_back s n area fits))
    ∙ sym (changed_among es area (piece_of s n area) key h g kept.ascends
    (omega (arith, kept.whole)) there same_size many)

-- ---- setting an attribute

other_bit : (a : NvAttributes) (one : NvAttribute)
    → attribute_bit one ≢ attribute_bit attribute.Written
    → has (with_attribute a one) attribute.Written ≡ has a attribute.Written
other_bit a one apart = are_attributes.set_others a one attribute.Written (λ same. apart (sym same))

pub marked_is : (h : Head) (bytes : List ℕ) (one : NvAttribute)
    → attribute_bit one ≢ attribute_bit attribute.Written
    → index_with (with_attributes h (with_attribute h.public.attributes one)) bytes
    ≡ marked_index (index_with h bytes) one
marked_is h bytes one apart = rw (other_bit h.public.attributes one apart) refl

pub is_head_marked : (key : ℕ) (h : Head) (one : NvAttribute) → IsHead key h
    → IsHead key (with_attributes h (with_attribute h.public.attributes one))
is_head_marked key h one is =
    let a = h.public.attributes in
    is_head_with key h (with_attribute a one) is
    (are_attributes.set_named a one is.public.attributes) (are_attributes.set_type a one)

-- ---- writing data

pub length_filled : (is_written : Bool) (start size byte : ℕ) (area : List ℕ)
    → start + size ≤ length area → length (filled_bytes is_written start size byte area)
    ≡ length area
length_filled true start size byte area fits = refl
length_filled false start size byte area fits =
    length_put start (replicate size byte) area
    (omega (arith, fits, length-replicate {A = ℕ} size byte))

-- Two ways to write bytes into a piece of the area have the same result. The first way fills the
-- piece in the area if it is unwritten, and then writes the bytes. The second way does this in a
-- copy of the piece, which then replaces the piece.
filled_put : (is_written : Bool) (start size offset byte : ℕ) (bytes area : List ℕ)
    → start + size ≤ length area → offset + length bytes ≤ size
    → put_over (start + offset) bytes (filled_bytes is_written start size byte area)
    ≡ put_over start
    (put_over offset bytes (cond is_written (piece_of start size area) (replicate size byte))) area
filled_put true start size offset byte bytes area fits within =
    put_within start size offset bytes area fits within
filled_put false start size offset byte bytes area fits within =
    let many = length-replicate {A = ℕ} size byte in
    put_anew start offset bytes (replicate size byte) area (omega (arith, many, fits))
    (omega (arith, many, within))

abbrev pub written_head : Head → Head
written_head h = with_attributes h (with_attribute h.public.attributes attribute.Written)

-- The data of an index with this head is `bytes` or, before the first write, copies of `byte`.
data_is : (h : Head) (bytes : List ℕ) (byte : ℕ)
    → data_or byte (index_with h bytes) ≡ cond (has h.public.attributes attribute.Written) bytes
    (replicate (size_of h) byte)
data_is h bytes byte = by (has h.public.attributes attribute.Written)
  where
    by : (b : Bool) → cond b (cond b bytes []) (replicate (size_of h) byte)
        ≡ cond b bytes (replicate (size_of h) byte)
    by true = refl
    by false = refl

pub seen_put : (es : Entries Head) (area bytes : List ℕ) (key offset byte : ℕ) (h : Head)
    → AreKept es area → at_key es key ≡ Some h → offset + length bytes ≤ size_of h
    → indices_of (changed_key es key (written_head h))
    (put_over (start_of es key + offset) bytes
    (filled_bytes (has h.public.attributes attribute.Written) (start_of es key) (size_of h) byte
    area)) ≡ changed_key (indices_of es area) key
    (with_data (index_with h (piece_of (start_of es key) (size_of h) area))
    (put_over offset bytes
    (data_or byte (index_with h (piece_of (start_of es key) (size_of h) area)))))
seen_put es area bytes key offset byte h kept there within =
    let s = start_of es key in
    let n = size_of h in
    let b = has h.public.attributes attribute.Written in
    let fits : s + n ≤ length area =
    omega (arith, kept.whole, piece_fits es key h kept.ascends there) in
    let old = piece_of s n area in
    let under = cond b old (replicate n byte) in
    let many : length old ≡ n =
    length-take-le n (drop s area) (omega (arith, fits, length-drop s area)) in
    let long : length under ≡ n =
    each b old (replicate n byte) n many (length-replicate {A = ℕ} n byte) in
    let piece = put_over offset bytes under in
    let size : length piece ≡ n = length_put offset bytes under (omega (arith, long, within))
    ∙ long in
    let seen = changed_among es area piece key h (written_head h) kept.ascends
    (omega (arith, kept.whole)) there refl size in
    ap (λ (l : List ℕ). indices_of (changed_key es key (written_head h)) l)
    (filled_put b s n offset byte bytes area fits within)
    ∙ sym seen
    ∙ ap (λ (i : NvIndex). changed_key (indices_of es area) key i)
    (now_written piece
    ∙ ap (λ (l : List ℕ). with_data (index_with h old) (put_over offset bytes l))
    (sym (data_is h old byte)))
  where
    each : (b : Bool) (xs ys : List ℕ) (n : ℕ) → length xs ≡ n → length ys ≡ n
        → length (cond b xs ys) ≡ n
    each true xs ys n x y = x
    each false xs ys n x y = y

    now_written : (piece : List ℕ) → index_with (written_head h) piece
        ≡ with_data (index_with h (piece_of (start_of es key) (size_of h) area)) piece
    now_written piece = rw (are_attributes.set_there h.public.attributes attribute.Written) refl

pub length_put_filled : (es : Entries Head) (area bytes : List ℕ) (key offset byte : ℕ) (h : Head)
    → AreKept es area → at_key es key ≡ Some h → offset + length bytes ≤ size_of h
    → length (put_over (start_of es key + offset) bytes
    (filled_bytes (has h.public.attributes attribute.Written) (start_of es key) (size_of h) byte
    area)) ≡ length area
length_put_filled es area bytes key offset byte h kept there within =
    let s = start_of es key in
    let n = size_of h in
    let b = has h.public.attributes attribute.Written in
    let fits : s + n ≤ length area =
    omega (arith, kept.whole, piece_fits es key h kept.ascends there) in
    let long = length_filled b s n byte area fits in
    length_put (s + offset) bytes (filled_bytes b s n byte area) (omega (arith, long, fits, within))
    ∙ long

pub kept_put : (es : Entries Head) (area bytes : List ℕ) (key offset byte : ℕ) (h : Head)
    → AreKept es area → at_key es key ≡ Some h → offset + length bytes ≤ size_of h
    → AreKept (changed_key es key (written_head h))
    (put_over (start_of es key + offset) bytes
    (filled_bytes (has h.public.attributes attribute.Written) (start_of es key) (size_of h) byte
    area))
kept_put es area bytes key offset byte h kept there within =
    kept_changed es area _ key h (written_head h) kept there
    (is_head_marked key h attribute.Written (head_at es key h kept.ascends kept.each there))
    refl
    (length_put_filled es area bytes key offset byte h kept there within)

-- In the result of a write, the offset, the size and the written state that the code found can be
-- replaced by the index's own, because they are equal.
pub put_is : (after bytes area : List ℕ) (is_written : Bool) (start size offset byte from many : ℕ)
    (b : Bool) → after ≡ put_over (from + offset) bytes (filled_bytes b from many byte area)
    → b ≡ is_written → from ≡ start → many ≡ size
    → after ≡ put_over (start + offset) bytes (filled_bytes is_written start size byte area)
put_is after bytes area is_written start size offset byte from many b is written from_is size_is =
    is
    ∙ ap (λ (c : Bool). put_over (from + offset) bytes (filled_bytes c from many byte area)) written
    ∙ ap (λ (s : ℕ). put_over (s + offset) bytes (filled_bytes is_written s many byte area)) from_is
    ∙ ap (λ (n : ℕ). put_over (start + offset) bytes (filled_bytes is_written start n byte area))
    size_is

-- ---- lookups

pub none_at : (es : Entries Head) (area : List ℕ) (count : ℕ) (handle : Handle) (shown : NvContents)
    → (let view : NvContents = record { indices = indices_of es area; max_count = count } in view
    ≡ shown) → at_key es handle.number ≡ None → index_at shown handle ≡ None
none_at es area count handle shown view none = rw (← view) (none_among es area handle.number none)

pub some_at : (es : Entries Head) (area : List ℕ) (count : ℕ) (handle : Handle) (shown : NvContents)
    (h : Head) → (let view : NvContents =
    record { indices = indices_of es area; max_count = count } in view ≡ shown) → AreKept es area
    → at_key es handle.number ≡ Some h → index_at shown handle
    ≡ Some (index_with h (piece_of (start_of es handle.number) (size_of h) area))
some_at es area count handle shown h view kept there =
    rw (← view) (found_among es area handle.number h kept.ascends there)

pub piece_inside : (es : Entries Head) (area : List ℕ) (key : ℕ) (h : Head) → AreKept es area
    → at_key es key ≡ Some h → start_of es key + size_of h ≤ length area
piece_inside es area key h kept there =
    omega (arith, kept.whole, piece_fits es key h kept.ascends there)

pub seen_head : (es : Entries Head) (area : List ℕ) (key : ℕ) (found : Option (Bor Head))
    → Ascends es → option_copied found ≡ at_key es key
    → option_copied found ≡ option_map head_of (at_key (indices_of es area) key)
seen_head es area key None up is = rw (none_among es area key (sym is)) refl
seen_head es area key (Some h) up is = rw (found_among es area key h.now up (sym is)) refl

-- If an index with some property exists, its head is found, and the index that this head and its
-- bytes represent has the same property.
pub head_of_index : (P : NvIndex → Type 0) (es : Entries Head) (area : List ℕ) (count : ℕ)
    (handle : Handle) (shown : NvContents)
    → (let view : NvContents = record { indices = indices_of es area; max_count = count } in view
    ≡ shown) → AreKept es area → IsSomeAnd (index_at shown handle) P
    → (h : Head) × (at_key es handle.number ≡ Some h)
    × P (index_with h (piece_of (start_of es handle.number) (size_of h) area))
head_of_index P es area count handle shown view kept known = by (at_key es handle.number) refl
  where
    by : (found : Option Head) → at_key es handle.number ≡ found
        → (h : Head) × (at_key es handle.number ≡ Some h)
        × P (index_with h (piece_of (start_of es handle.number) (size_of h) area))
    by (Some h) is = (
      h,
      is,
      known_of P (index_at shown handle)
          (index_with h (piece_of (start_of es handle.number) (size_of h) area))
          (some_at es area count handle shown h view kept is) known,
    )
    by None is =
        let never : ⊥ = subst (λ (o : Option NvIndex). IsSomeAnd o P)
        (none_at es area count handle shown view is) known in
        absurd never

-- The offset of an index's bytes can be computed from the indices that the heads and the area
-- represent.
pub start_is : (es : Entries Head) (area : List ℕ) (count : ℕ) (handle : Handle)
    (shown : NvContents)
    → (let view : NvContents = record { indices = indices_of es area; max_count = count } in view
    ≡ shown) → start_in shown handle ≡ start_of es handle.number
start_is es area count handle shown view =
    ap (λ (s : NvContents). start_in s handle) (sym view)
    ∙ ap (λ (l : Entries Head). start_of l handle.number) (sym (heads_among es area))

pub known_some : (P : NvIndex → Type 0) (found : Option NvIndex) (x : NvIndex) → found ≡ Some x
    → P x → IsSomeAnd found P
known_some P found x is known = subst (λ (o : Option NvIndex). IsSomeAnd o P) (sym is) known

-- If a pass over the heads finds no head for a handle, no index has this handle. If it finds a
-- head, the index consists of this head and of the bytes that belong to the head.
module _ (es : Entries Head) (area : List ℕ) (count : ℕ) (handle : Handle) (shown : NvContents)
    (view : (let kept : NvContents =
    record { indices = indices_of es area; max_count = count } in kept ≡ shown)) where
  pub found_none : (found : Option Found) → IfNone found (at_key es handle.number ≡ None)
      → IfNone found (index_at shown handle ≡ None)
  found_none None none = none_at es area count handle shown view none
  found_none (Some f) none = tt

  pub found_some : (found : Option Found) → AreKept es area
      → IfSome found (λ f. (at_key es handle.number ≡ Some f.head.now)
      × (f.start ≡ start_of es handle.number))
      → IfSome found (λ f. (old : List ℕ) × IsIndexOf shown handle f.head.now old
      × (f.start ≡ start_in shown handle))
  found_some None kept some = tt
  found_some (Some f) kept some =
      let t = subst (λ (s : NvContents). (old : List ℕ) × IsIndexOf s handle f.head.now old) view
      (there_is es area count handle (Some f.head) kept (sym some.0)) in
      (t.0, t.1, some.1 ∙ sym (start_is es area count handle shown view))

-- If an index has WRITTEN set, its data consists of its bytes in the area.
pub bytes_of : (h : Head) (bytes : List ℕ) (index : NvIndex) → index_with h bytes ≡ index
    → has index.public.attributes attribute.Written ≡ true → bytes ≡ index.bytes
bytes_of h bytes index same is =
    let written : has h.public.attributes attribute.Written ≡ true =
    ap (λ (i : NvIndex). has i.public.attributes attribute.Written) same ∙ is in
    let first : bytes ≡ cond (has h.public.attributes attribute.Written) bytes [] =
    rw written refl in
    first ∙ ap (λ (i : NvIndex). i.bytes) same

-- ---- what holds for all heads and bytes

data_many : (b : Bool) (bytes : List ℕ) (n : ℕ) → length bytes ≡ n
    → length (cond b bytes []) ≡ cond b n 0
data_many true bytes n is = is
data_many false bytes n is = refl

indices_are : (es : Entries Head) (area : List ℕ) → total es ≤ length area → AreHeads es
    → AreIndices (indices_of es area)
indices_are [] area fits are = tt
indices_are (e ∷ es) area fits are =
    let n = size_of e.1 in (
      record {
        named = are.0.named;
        public = are.0.public;
        sized = are.0.sized;
        auth_value = are.0.auth_value;
        data_size = data_many (has e.1.public.attributes attribute.Written) (take n area) n
            (length-take-le n area (omega (arith, fits)));
      },
      indices_are es (drop n area) (omega (arith, fits, length-drop n area)) are.1,
    )

pub contents_are : (es : Entries Head) (area : List ℕ) (count : ℕ) → AreKept es area
    → count < 2 ^ 64 → IsContents (record { indices = indices_of es area; max_count = count })
contents_are es area count kept small = record {
  ascends = ascends_among es area kept.ascends;
  few = omega (arith, length_among es area, kept.few);
  small = omega (arith, bytes_among es area, kept.small);
  indices = indices_are es area (omega (arith, kept.whole)) kept.each;
  max_count = small;
}

-- ---- removing an index

pub kept_removed : (es : Entries Head) (area : List ℕ) (key : ℕ) (h : Head) → AreKept es area
    → at_key es key ≡ Some h
    → AreKept (without_key es key) (closed_up (start_of es key) (size_of h) area)
kept_removed es area key h kept there =
    let s = start_of es key in
    let n = size_of h in
    let fits = piece_inside es area key h kept there in
    let sum = total_removed es key h kept.ascends there in
    let many = removed_few es key in
    record {
      ascends = removed_ascends es key kept.ascends;
      few = omega (arith, many, kept.few);
      whole = omega (
        arith,
        sum,
        kept.whole,
        fits,
        length-append (take s area) (drop (s + n) area),
        length-take-le s area (omega (arith, fits)),
        length-drop (s + n) area,
      );
      small = omega (arith, sum, kept.small);
      each = heads_removed es key kept.each;
    }

-- ---- adding an index, and whether there is room for it

pub room_is : (es : Entries Head) (area : List ℕ) (count size : ℕ) → AreKept es area
    → has_room (record { indices = indices_of es area; max_count = count }) size
    ≡ (nat_lt (length es) nv_index_limit && nat_le (length area + size) nv_space_limit)
room_is es area count size kept = rw (length_among es area, bytes_among es area, kept.whole) refl

and_both : (a b : Bool) → (a && b) ≡ true → (a ≡ true) × (b ≡ true)
and_both true b is = (refl, is)
and_both false b is = absurd cc

pub room_gives : (es : Entries Head) (area : List ℕ) (count size : ℕ) (shown : NvContents)
    → (let view : NvContents = record { indices = indices_of es area; max_count = count } in view
    ≡ shown) → AreKept es area → has_room shown size ≡ true → (length es < nv_index_limit)
    × (length area + size ≤ nv_space_limit)
room_gives es area count size shown view kept is =
    let here : (nat_lt (length es) nv_index_limit && nat_le (length area + size) nv_space_limit)
    ≡ true = sym (room_is es area count size kept)
    ∙ ap (λ (s : NvContents). has_room s size) view ∙ is in
    let both = and_both (nat_lt (length es) nv_index_limit)
    (nat_le (length area + size) nv_space_limit) here in (
      ltb-true (length es) nv_index_limit both.0,
      leb-true (length area + size) nv_space_limit both.1,
    )

pub absent_gives : (es : Entries Head) (area : List ℕ) (count : ℕ) (handle : Handle)
    (shown : NvContents)
    → (let view : NvContents = record { indices = indices_of es area; max_count = count } in view
    ≡ shown) → Ascends es → index_at shown handle ≡ None → at_key es handle.number ≡ None
absent_gives es area count handle shown view up none = by (at_key es handle.number) refl
  where
    by : (found : Option Head) → at_key es handle.number ≡ found → found ≡ None
    by None is = refl
    by (Some h) is =
        let there = found_among es area handle.number h up is in
        let gone : at_key (indices_of es area) handle.number ≡ None =
        ap (λ (s : NvContents). index_at s handle) view ∙ none in
        absurd cc

-- the bytes of a new index: its data, padded with zeros
abbrev pub padded : ℕ → List ℕ → List ℕ
padded size bytes = bytes ++ replicate (size - length bytes) 0

pub length_padded : (size : ℕ) (bytes : List ℕ) → length bytes ≤ size
    → length (padded size bytes) ≡ size
length_padded size bytes fits =
    omega (
      arith,
      fits,
      length-append bytes (replicate (size - length bytes) 0),
      length-replicate {A = ℕ} (size - length bytes) 0,
    )

data_padded : (is_written : Bool) (size : ℕ) (bytes : List ℕ)
    → length bytes ≡ cond is_written size 0 → cond is_written (padded size bytes) [] ≡ bytes
data_padded true size bytes is =
    let none : size - length bytes ≡ 0 = omega (arith, is) in
    ap (λ (n : ℕ). bytes ++ replicate n 0) none ∙ append-nil bytes
data_padded false size bytes is = sym (nil_from_length bytes is)

data_fits : (is_written : Bool) (size : ℕ) (bytes : List ℕ) → length bytes ≡ cond is_written size 0
    → length bytes ≤ size
data_fits true size bytes is = omega (arith, is)
data_fits false size bytes is = omega (arith, is)

pub bytes_fit : (p : NvPublic) (bytes : List ℕ)
    → length bytes ≡ cond (has p.attributes attribute.Written) p.data_size 0
    → length bytes ≤ p.data_size
bytes_fit p bytes is = data_fits (has p.attributes attribute.Written) p.data_size bytes is

pub index_padded : (h : Head) (bytes : List ℕ)
    → length bytes ≡ cond (has h.public.attributes attribute.Written) (size_of h) 0
    → index_with h (padded (size_of h) bytes)
    ≡ record { public = h.public; auth_value = h.auth_value; bytes = bytes }
index_padded h bytes is =
    let made : List ℕ → NvIndex =
    λ l. record { public = h.public; auth_value = h.auth_value; bytes = l } in
    ap made (data_padded (has h.public.attributes attribute.Written) (size_of h) bytes is)

pub kept_more : (es : Entries Head) (area piece : List ℕ) (key : ℕ) (h : Head) → AreKept es area
    → at_key es key ≡ None → length es < nv_index_limit → length area + size_of h ≤ nv_space_limit
    → length piece ≡ size_of h → IsHead key h
    → AreKept (with_key es key h)
    (take (start_of es key) area ++ (piece ++ drop (start_of es key) area))
kept_more es area piece key h kept none few fits size is =
    let s = start_of es key in
    let inside = start_fits es key in
    let many = put_length es key h in
    let sum = total_put es key h in
    record {
      ascends = put_ascends es key h kept.ascends none;
      few = omega (arith, many, few);
      whole =
          omega (
            arith,
            sum,
            kept.whole,
            size,
            inside,
            length-append (take s area) (piece ++ drop s area),
            length-append piece (drop s area),
            length-take-le s area (omega (arith, kept.whole, inside)),
            length-drop s area,
          );
      small = omega (arith, sum, kept.whole, fits);
      each = heads_put es key h kept.each is;
    }

-- ---- the size that an index's type allows

pub data_long : (h : Head) (bytes : List ℕ) (byte : ℕ) → length bytes ≡ size_of h
    → length (data_or byte (index_with h bytes)) ≡ size_of h
data_long h bytes byte long = ap length (data_is h bytes byte)
    ∙ by (has h.public.attributes attribute.Written)
  where
    by : (b : Bool) → length (cond b bytes (replicate (size_of h) byte)) ≡ size_of h
    by true = long
    by false = length-replicate {A = ℕ} (size_of h) byte

not_false : (b : Bool) → not b ≡ false → b ≡ true
not_false true e = refl
not_false false e = absurd cc

pub type_of_writable : (type : NvType) (index : NvIndex) → writable type index ≡ Ok tt
    → is_of index.public.attributes type ≡ true
type_of_writable type index e =
    let a = bind_ok (refused_if (has index.public.attributes attribute.WriteLocked) Locked)
    (λ _. refused_if (not (is_of index.public.attributes type)) Attributes) tt e in
    not_false (is_of index.public.attributes type)
    (passed (not (is_of index.public.attributes type)) Attributes tt a.2)

-- If an index is of this type, and the type of the index allows its size, then this type allows
-- that size.
pub size_of_type : (p : NvPublic) (kind : NvType) → is_of p.attributes kind ≡ true
    → has_type_size p ≡ true → is_type_size p (Some kind) ≡ true
size_of_type p kind is sized =
    let number : type_number p.attributes ≡ nv_type_number kind = eqb-true _ _ is in
    let named : index_type p.attributes ≡ Some kind = ap nv_type_named number ∙ again kind in
    ap (is_type_size p) (sym named) ∙ sized
  where
    again : (kind : NvType) → nv_type_named (nv_type_number kind) ≡ Some kind
    again type.Ordinary = refl
    again _ = refl
