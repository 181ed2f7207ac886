-- Properties of all NV indices still hold after one index is changed, defined or removed, after
-- TPM2_Clear, and after a startup.
use Rattle.std.proofs.Common.{◌≡◌, ◌≢◌, ℕ, Bool, true, false, cond, [], ◌∷◌, Option, Some, None, refl, sym, ap, subst, ◌∙◌, inl, inr}
use Rattle.std.specs.Prelude.{◌==◌, map}
use Rattle.std.proofs.lemmas.Bool.{cases_Bool, cases_eq}
use Rattle.tpm_containers.specs.SortedMap.{Ascends, Entries, at_key, kept_entries}
use Rattle.tpm_containers.specs.IsSortedMap.{IsSortedMap}
use Rattle.tpm_containers.proofs.SortedMapLaws.{is_map}
use Rattle.tpm_types_common.specs.declared.handle.Handle.{Handle}
use Rattle.tpm_nv.specs.Clear.{contents_after_clear, is_by_platform}
use Rattle.tpm_nv.specs.Index.{NvContents, NvIndex, changed_index, index_at, with_index, without_index}
use Rattle.tpm_nv.specs.Startup.{contents_after_startup, started_index}
use Rattle.tpm_step.proofs.history.HandleMap.{same_handle}

index_map : IsSortedMap NvIndex
index_map = is_map

pub some_same : {X : Type 0} (x y : X) → (let some : Option X = Some x in some ≡ Some y) → x ≡ y
some_same x y is = cc

pub some_none : {X : Type 0} (x : X) → (let none : Option X = None in none ≡ Some x) → ⊥
some_none x is = cc

-- The property holds for each index and its handle.
abbrev pub EachIndex : (Handle → NvIndex → Type 0) → NvContents → Type 0
EachIndex Is contents = (handle : Handle) (index : NvIndex) → index_at contents handle ≡ Some index
    → Is handle index

module _ (Was Is : Handle → NvIndex → Type 0) where
  -- Each index at any other handle has the property `Is` if it had the property `Was`.
  abbrev pub OthersStay : Handle → Type 0
  OthersStay handle = (other : Handle) (index : NvIndex) → other.number ≢ handle.number
      → Was other index → Is other index

  but_one : (old new : NvContents) (handle : Handle) (index : NvIndex)
      → index_at new handle ≡ Some index
      → ((other : Handle) → other.number ≢ handle.number → index_at new other ≡ index_at old other)
      → Is handle index → OthersStay handle → EachIndex Was old → EachIndex Is new
  but_one old new handle index here apart is stay was other found there =
      elim (cases_eq other.number handle.number) [
        | inl same ↦
            let one : handle ≡ other = same_handle handle other (sym same) in
            let so : index ≡ found =
            some_same index found (sym here ∙ ap (λ (h : Handle). index_at new h) one
            ∙ there) in
            subst (λ (h : Handle). Is h found) one (subst (λ (i : NvIndex). Is handle i) so is)
        | inr away ↦ stay other found away (was other found (sym (apart other away) ∙ there))
      ]

  -- a property of all indices still holds after one index is changed
  pub changed_each : (contents : NvContents) (handle : Handle) (old new : NvIndex)
      → index_at contents handle ≡ Some old → Is handle new → OthersStay handle
      → EachIndex Was contents → EachIndex Is (changed_index contents handle new)
  changed_each contents handle old new found =
      but_one contents (changed_index contents handle new) handle new
      (index_map.changed_found contents.indices handle.number old new found)
      (λ other away. index_map.changed_others contents.indices handle.number new other.number away)

  -- a property of all indices still holds after one index is defined
  pub defined_each : (contents : NvContents) (handle : Handle) (new : NvIndex)
      → index_at contents handle ≡ None → Is handle new → OthersStay handle → EachIndex Was contents
      → EachIndex Is (with_index contents handle new)
  defined_each contents handle new free =
      but_one contents (with_index contents handle new) handle new
      (index_map.put_found contents.indices handle.number new free)
      (λ other away. index_map.put_others contents.indices handle.number new other.number away)

  -- a property of all indices still holds after a startup
  pub started_each : ((handle : Handle) (index : NvIndex) → Was handle index
      → Is handle (started_index index)) → (contents : NvContents) → EachIndex Was contents
      → EachIndex Is (contents_after_startup contents)
  unfolding contents_after_startup
  started_each starts contents was handle index there =
      let (old, found, is) = found_started contents.indices handle.number index there in
      subst (λ (i : NvIndex). Is handle i) is (starts handle old (was handle old found))
    where
      found_started : (es : Entries NvIndex) (key : ℕ) (new : NvIndex)
          → at_key (map (λ (e : ℕ × NvIndex). (e.0, started_index e.1)) es) key ≡ Some new
          → (old : NvIndex) × (at_key es key ≡ Some old) × (started_index old ≡ new)
      found_started [] key new there = absurd (some_none new there)
      found_started (e ∷ es) key new there = by (e.0 == key) (found_started es key new) there
        where
          by : (b : Bool)
              → (at_key (map (λ (e : ℕ × NvIndex). (e.0, started_index e.1)) es) key ≡ Some new
              → (old : NvIndex) × (at_key es key ≡ Some old) × (started_index old ≡ new))
              → cond b (Some (started_index e.1))
              (at_key (map (λ (e : ℕ × NvIndex). (e.0, started_index e.1)) es) key) ≡ Some new
              → (old : NvIndex) × (cond b (Some e.1) (at_key es key) ≡ Some old)
              × (started_index old ≡ new)
          by true more there = (e.1, refl, some_same (started_index e.1) new there)
          by false more there = more there

module _ (Is : Handle → NvIndex → Type 0) where
  -- a property of all indices still holds after one index is removed
  pub removed_each : (contents : NvContents) (handle : Handle) → Ascends contents.indices
      → EachIndex Is contents → EachIndex Is (without_index contents handle)
  removed_each contents handle up is other index there =
      elim (cases_eq other.number handle.number) [
        | inl same ↦
            let one : handle ≡ other = same_handle handle other (sym same) in
            let gone : index_at (without_index contents handle) handle ≡ None =
            index_map.removed_gone contents.indices handle.number up in
            absurd
            (some_none index
            (sym gone ∙ ap (λ (h : Handle). index_at (without_index contents handle) h) one
            ∙ there))
        | inr away ↦
            is other index
            (sym (index_map.removed_others contents.indices handle.number other.number away)
            ∙ there)
      ]

  -- a property of all indices still holds after all indices except the platform's are removed
  pub cleared_each : (contents : NvContents) → Ascends contents.indices → EachIndex Is contents
      → EachIndex Is (contents_after_clear contents)
  unfolding contents_after_clear
  cleared_each contents up is handle index there =
      is handle index (kept_was handle.number index there)
    where
      stays : NvIndex → Bool
      stays index = is_by_platform index.public

      was_so : (key : ℕ) (index old : NvIndex) → at_key contents.indices key ≡ Some old
          → at_key (kept_entries stays contents.indices) key ≡ Some index → old ≡ index
      was_so key index old found there =
          elim (cases_Bool (stays old)) [
            | inl stay ↦ some_same old index
                (sym (index_map.kept_found stays contents.indices key old found stay) ∙ there)
            | inr gone ↦ absurd
                (some_none index
                (sym (index_map.kept_gone stays contents.indices key old up found gone) ∙ there))
          ]

      kept_was : (key : ℕ) (index : NvIndex) → at_key (kept_entries stays contents.indices) key
          ≡ Some index → at_key contents.indices key ≡ Some index
      kept_was key index there = by (at_key contents.indices key) refl
        where
          by : (o : Option NvIndex) → at_key contents.indices key ≡ o
              → at_key contents.indices key ≡ Some index
          by None none =
              absurd
              (some_none index (sym (index_map.kept_absent stays contents.indices key none)
              ∙ there))
          by (Some old) found =
              found ∙ ap (λ (i : NvIndex). let some : Option NvIndex = Some i in some)
              (was_so key index old found there)
