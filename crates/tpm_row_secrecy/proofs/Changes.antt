-- Each change of an NV index has the same outcome on a device and on the device with its secrets
-- erased, apart from the secrets themselves. The only exception is an increment of a counter with a
-- secret value.
use Rattle.std.proofs.Common.{ap, refl, subst, sym, ◌∙◌}
use Rattle.std.proofs.lemmas.Bool.{false≢true}
use Rattle.std.proofs.lemmas.List.Folds.{fold-map}
use Rattle.std.specs.Int.{to_be_bytes, w64}
use Rattle.std.specs.Option.{option_map_or}
use Rattle.std.specs.Prelude.{Bool, List, None, Ok, Option, Result, Some, [], bit_or, cond, false, is_some, length, map, nat_le, nat_lt, not, ok_or, option_map, true, ℕ, ◌&&◌, ◌++◌, ◌+◌, ◌==◌, ◌^◌, ◌||◌, ◌∷◌, ◌≡◌}
use Rattle.tpm_bytes.specs.Reading.{refused_if, ◌>>=◌}
use Rattle.tpm_containers.specs.Slots.{free}
use Rattle.tpm_containers.specs.SortedMap.{Entries}
use Rattle.tpm_mac.specs.Digest.{hash_of}
use Rattle.tpm_nv.specs.Access.{bits_set, contents_after_count, contents_after_extend, contents_after_increment, contents_after_write, data_or, index_has, index_or_fault, marked_index, number_or, read_at, read_locked, readable, undefined_fault, with_auth_value, with_data, writable, write_locked}
use Rattle.tpm_nv.specs.Bytes.{piece_of, put_over}
use Rattle.tpm_nv.specs.Clear.{contents_after_clear, is_by_platform}
use Rattle.tpm_nv.specs.Index.{NvContents, NvIndex, changed_index, has_room, index_at, with_index, without_index}
use Rattle.tpm_nv.specs.Startup.{contents_after_startup, kept_written, started_index}
use Rattle.tpm_nv.specs.declared.fault.ReadFault.{ReadFault}
use Rattle.tpm_nv.specs.declared.fault.WriteFault.{WriteFault}
use Rattle.tpm_types_common.specs.declared.handle.Handle.{Handle}
use Rattle.tpm_types_nv.specs.NvAttributes.{has, is_of}
use Rattle.tpm_types_nv.specs.declared.nv_attributes.NvAttribute.{NvAttribute}
use Rattle.tpm_row_secrecy.proofs.Alike.{alike_end, alike_found, alike_step, either_free, success}
use Rattle.tpm_row_secrecy.proofs.Bare.{index_again, unless_again, unless_open}
use Rattle.tpm_row_secrecy.proofs.Each.{all_changed_same, changed_key_same, each, is_some_of, kept_same, length_each, with_key_same, without_key_same}
use Rattle.tpm_row_secrecy.proofs.Entities.{index_at_bare}
use Rattle.tpm_row_secrecy.specs.Alike.{Alike}
use Rattle.tpm_row_secrecy.specs.Reads.{is_secret_counter, is_secret_index}
use Rattle.tpm_row_secrecy.specs.Secrecy.{Secrecy, bare_index, bare_nv, unless}
use Rattle.tpm_nv.specs.declared.fault.ReadFault.TheVariants as read_fault
use Rattle.tpm_nv.specs.declared.fault.WriteFault.TheVariants as write_fault
use Rattle.tpm_nv.specs.declared.fault.LockFault.TheVariants as lock_fault
use Rattle.tpm_types_nv.specs.declared.nv_attributes.NvAttribute.TheVariants as attribute
use Rattle.tpm_types_nv.specs.declared.nv_type.NvType.TheVariants as type

unless_made : (b : Bool) (make : List ℕ → List ℕ) (bytes : List ℕ)
    → unless b (make (unless b bytes)) ≡ unless b (make bytes)
unless_made true make bytes = refl
unless_made false make bytes = refl

module _ (s : Secrecy) where
  -- ---- erasing the secrets of an index

  abbrev with_parts : NvIndex → (auth_value bytes : List ℕ) → NvIndex
  with_parts i auth_value bytes = record i { auth_value = auth_value; bytes = bytes }

  data_same : (i : NvIndex) (make : List ℕ → List ℕ)
      → bare_index s (with_data (bare_index s i) (make (bare_index s i).bytes))
      ≡ bare_index s (with_data i (make i.bytes))
  data_same i make =
      ap (λ (value : List ℕ). with_parts (with_data i []) value
      (unless (s.index_data i.public.nv_index.number) (make (bare_index s i).bytes)))
      (unless_again _ i.auth_value)
      ∙ ap (with_parts (with_data i [])
      (unless (s.index_values i.public.nv_index.number) i.auth_value))
      (unless_made _ make i.bytes)

  mark_same : (i : NvIndex) (mark : NvAttribute) → bare_index s (marked_index (bare_index s i) mark)
      ≡ bare_index s (marked_index i mark)
  mark_same i mark =
      ap (λ (value : List ℕ). with_parts (marked_index i mark) value
      (unless (s.index_data i.public.nv_index.number) (bare_index s i).bytes))
      (unless_again _ i.auth_value)
      ∙ ap (with_parts (marked_index i mark)
      (unless (s.index_values i.public.nv_index.number) i.auth_value))
      (unless_again _ i.bytes)

  value_same : (i : NvIndex) (value : List ℕ)
      → bare_index s (record (bare_index s i) { auth_value = value })
      ≡ bare_index s (record i { auth_value = value })
  value_same i value = ap (with_parts i (unless (s.index_values i.public.nv_index.number) value))
      (unless_again _ i.bytes)

  start_bytes : (b stays : Bool) (bytes : List ℕ)
      → unless b (cond stays (unless b bytes) []) ≡ unless b (cond stays bytes [])
  start_bytes true stays bytes = refl
  start_bytes false stays bytes = refl

  start_same : (i : NvIndex) → bare_index s (started_index (bare_index s i))
      ≡ bare_index s (started_index i)
  start_same i =
      ap (λ (value : List ℕ). with_parts (started_index i) value
      (unless (s.index_data i.public.nv_index.number) (started_index (bare_index s i)).bytes))
      (unless_again _ i.auth_value)
      ∙ ap (with_parts (started_index i)
      (unless (s.index_values i.public.nv_index.number) i.auth_value))
      (start_bytes _ (has (kept_written i.public.attributes) attribute.Written) i.bytes)

  -- ---- erasing the secrets of all indices

  pub started_same : (n : NvContents) → bare_nv s (contents_after_startup (bare_nv s n))
      ≡ bare_nv s (contents_after_startup n)
  unfolding contents_after_startup
  started_same n = ap (λ (es : Entries NvIndex). record n { indices = es })
      (all_changed_same (bare_index s) (index_again s) started_index start_same n.indices)

  pub cleared_same : (n : NvContents) → bare_nv s (contents_after_clear (bare_nv s n))
      ≡ bare_nv s (contents_after_clear n)
  unfolding contents_after_clear
  cleared_same n = ap (λ (es : Entries NvIndex). record n { indices = es })
      (kept_same (bare_index s) (index_again s) (λ i. is_by_platform i.public) (λ i. refl)
      n.indices)

  pub with_index_same : (n : NvContents) (handle : Handle) (i : NvIndex)
      → bare_nv s (with_index (bare_nv s n) handle i) ≡ bare_nv s (with_index n handle i)
  with_index_same n handle i =
      ap (λ (es : Entries NvIndex). record n { indices = es })
      (with_key_same (bare_index s) (index_again s) n.indices handle.number i i refl)

  pub without_index_same : (n : NvContents) (handle : Handle)
      → bare_nv s (without_index (bare_nv s n) handle) ≡ bare_nv s (without_index n handle)
  without_index_same n handle =
      ap (λ (es : Entries NvIndex). record n { indices = es })
      (without_key_same (bare_index s) (index_again s) n.indices handle.number)

  changed_same : (n : NvContents) (handle : Handle) (i j : NvIndex)
      → bare_index s i ≡ bare_index s j → bare_nv s (changed_index (bare_nv s n) handle i)
      ≡ bare_nv s (changed_index n handle j)
  changed_same n handle i j same =
      ap (λ (es : Entries NvIndex). record n { indices = es })
      (changed_key_same (bare_index s) (index_again s) n.indices handle.number i j same)

  -- ---- the public parts of all indices

  pub is_there_bare : (n : NvContents) (handle : Handle)
      → is_some (index_at (bare_nv s n) handle) ≡ is_some (index_at n handle)
  is_there_bare n handle = ap is_some (index_at_bare s n handle)
      ∙ is_some_of (bare_index s) (index_at n handle)

  pub heads_bare : (n : NvContents) → map (λ (e : ℕ × NvIndex). e.0) (bare_nv s n).indices
      ≡ map (λ (e : ℕ × NvIndex). e.0) n.indices
  heads_bare n = by n.indices
    where
      by : (es : Entries NvIndex) → map (λ (e : ℕ × NvIndex). e.0) (each (bare_index s) es)
          ≡ map (λ (e : ℕ × NvIndex). e.0) es
      by [] = refl
      by (e ∷ es) = ap (λ (keys : List ℕ). e.0 ∷ keys) (by es)

  pub room_bare : (n : NvContents) (size : ℕ) → has_room (bare_nv s n) size ≡ has_room n size
  room_bare n size =
      rw (
        length_each (bare_index s) n.indices,
        fold-map {A = ℕ × NvIndex} (λ a e. a + e.1.public.data_size) (λ e. (e.0, bare_index s e.1))
            0 n.indices,
      ) refl

  -- ---- the changes of one index

  abbrev pub NvAlike : {F : Type 0} → Result NvContents F → Result NvContents F → Type 0
  NvAlike x y = Alike (bare_nv s) x y

  module _ (n : NvContents) (handle : Handle) where
    at_index : {F : Type 0} (fault : F) (f g : NvIndex → Result NvContents F)
        → ((i : NvIndex) → index_at n handle ≡ Some i → NvAlike (f (bare_index s i)) (g i))
        → NvAlike (index_or_fault (bare_nv s n) handle fault >>= f)
        (index_or_fault n handle fault >>= g)
    at_index fault f g more = alike_found (bare_nv s) (bare_index s) (index_at (bare_nv s n) handle)
        (index_at n handle) fault f g (index_at_bare s n handle) more

    pub written_alike : (offset : ℕ) (bytes : List ℕ)
        → NvAlike (contents_after_write (bare_nv s n) handle offset bytes)
        (contents_after_write n handle offset bytes)
    unfolding contents_after_write
    written_alike offset bytes =
        at_index write_fault.Undefined _ _ (λ i is.
        alike_step (bare_nv s) (writable type.Ordinary i) _ _ (λ ordinary.
        alike_step (bare_nv s)
        (refused_if (nat_lt i.public.data_size (offset + length bytes)) write_fault.PastData) _
        _ (λ inside.
        alike_step (bare_nv s)
        (refused_if (index_has i attribute.WriteAll && not (length bytes == i.public.data_size))
        write_fault.Partial) _ _ (λ whole.
        alike_end (bare_nv s) _ _
        (changed_same n handle _ _
        (data_same i
        (λ old. put_over offset bytes (data_or 0xff (record i { bytes = old })))))))))

    pub bits_alike : (bits : ℕ)
        → NvAlike (bits_set (bare_nv s n) handle bits) (bits_set n handle bits)
    unfolding bits_set
    bits_alike bits =
        at_index write_fault.Undefined _ _ (λ i is.
        alike_step (bare_nv s) (writable type.Bits i) _ _ (λ field.
        alike_end (bare_nv s) _ _
        (changed_same n handle _ _
        (data_same i
        (λ old. to_be_bytes w64 (bit_or (number_or 0 (record i { bytes = old })) bits))))))

    pub extended_alike : (bytes : List ℕ)
        → NvAlike (contents_after_extend (bare_nv s n) handle bytes)
        (contents_after_extend n handle bytes)
    unfolding contents_after_extend
    extended_alike bytes =
        at_index write_fault.Undefined _ _ (λ i is.
        alike_step (bare_nv s) (writable type.Extend i) _ _ (λ extendable.
        alike_end (bare_nv s) _ _
        (changed_same n handle _ _
        (data_same i
        (λ old. hash_of i.public.name_alg
        (data_or 0 (record i { bytes = old }) ++ bytes))))))

    pub write_locked_alike : NvAlike (write_locked (bare_nv s n) handle) (write_locked n handle)
    unfolding write_locked
    write_locked_alike =
        at_index lock_fault.Undefined _ _ (λ i is.
        alike_step (bare_nv s)
        (refused_if
        (not (index_has i attribute.WriteDefine || index_has i attribute.WriteStClear))
        lock_fault.Attributes) _ _ (λ lockable.
        alike_end (bare_nv s) _ _ (changed_same n handle _ _ (mark_same i attribute.WriteLocked))))

    pub read_locked_alike : NvAlike (read_locked (bare_nv s n) handle) (read_locked n handle)
    unfolding read_locked
    read_locked_alike =
        at_index lock_fault.Undefined _ _ (λ i is.
        alike_step (bare_nv s)
        (refused_if (not (index_has i attribute.ReadStClear)) lock_fault.Attributes) _ _
        (λ lockable.
        alike_end (bare_nv s) _ _ (changed_same n handle _ _ (mark_same i attribute.ReadLocked))))

    pub auth_alike : (value : List ℕ)
        → NvAlike (with_auth_value (bare_nv s n) handle value) (with_auth_value n handle value)
    unfolding with_auth_value
    auth_alike value =
        at_index undefined_fault _ _
        (λ i is. alike_end (bare_nv s) _ _ (changed_same n handle _ _ (value_same i value)))

    -- ---- counters

    abbrev counts : NvContents → NvIndex → Result NvContents WriteFault
    counts contents i =
        writable type.Counter i >>= λ counter.
        refused_if (nat_le (2 ^ 64) (number_or contents.max_count i + 1)) write_fault.Exhausted
        >>= λ fits.
        Ok (contents_after_count
        (changed_index contents handle
        (with_data i (to_be_bytes w64 (number_or contents.max_count i + 1))))
        (number_or contents.max_count i + 1))

    -- an index with its authorization value erased, if the value is secret
    abbrev other_value : NvIndex → NvIndex
    other_value i =
        record i { auth_value = unless (s.index_values i.public.nv_index.number) i.auth_value }

    count_same : (i : NvIndex) (bytes : List ℕ)
        → bare_index s (with_data (other_value i) bytes) ≡ bare_index s (with_data i bytes)
    count_same i bytes =
        ap (λ (value : List ℕ). with_parts (with_data i []) value
        (unless (s.index_data i.public.nv_index.number) bytes)) (unless_again _ i.auth_value)

    counts_shown : (i : NvIndex) → NvAlike (counts (bare_nv s n) (other_value i)) (counts n i)
    counts_shown i =
        alike_step (bare_nv s) (writable type.Counter i) _ _ (λ counter.
        alike_step (bare_nv s)
        (refused_if (nat_le (2 ^ 64) (number_or n.max_count i + 1)) write_fault.Exhausted) _ _
        (λ fits.
        alike_end (bare_nv s) _ _
        (ap (λ (m : NvContents). contents_after_count m (number_or n.max_count i + 1))
        (changed_same n handle _ _
        (count_same i (to_be_bytes w64 (number_or n.max_count i + 1)))))))

    -- If an index is not a counter, a device refuses its increment with the same fault as the
    -- device with its secrets erased.
    no_counter : (locked counter : Bool) (f g : Unit {0} → Result NvContents WriteFault)
        → counter ≡ false
        → NvAlike
        ((refused_if locked write_fault.Locked
        >>= λ unlocked. refused_if (not counter) write_fault.Attributes) >>= f)
        ((refused_if locked write_fault.Locked
        >>= λ unlocked. refused_if (not counter) write_fault.Attributes) >>= g)
    no_counter true counter f g is = record { is = refl }
    no_counter false true f g is = absurd (false≢true (sym is))
    no_counter false false f g is = record { is = refl }

    bytes_shown : (i : NvIndex) → is_secret_index s i ≡ false → bare_index s i ≡ other_value i
    bytes_shown i shown = ap (λ (bytes : List ℕ). record (other_value i) { bytes = bytes })
        (unless_open _ i.bytes shown)

    counts_alike : (i : NvIndex) → is_secret_counter s i ≡ false
        → NvAlike (counts (bare_nv s n) (bare_index s i)) (counts n i)
    counts_alike i free =
        either_free (is_secret_index s i) (is_of i.public.attributes type.Counter) free
        (λ shown. subst (λ (j : NvIndex). NvAlike (counts (bare_nv s n) j) (counts n i))
        (sym (bytes_shown i shown)) (counts_shown i))
        (λ other. no_counter (index_has i attribute.WriteLocked)
        (is_of i.public.attributes type.Counter) _ _ other)

    pub incremented_alike : option_map_or (is_secret_counter s) (index_at n handle) false ≡ false
        → NvAlike (contents_after_increment (bare_nv s n) handle)
        (contents_after_increment n handle)
    unfolding contents_after_increment
    incremented_alike free =
        at_index write_fault.Undefined _ _ (λ i is.
        counts_alike i
        (sym (ap (λ (found : Option NvIndex). option_map_or (is_secret_counter s) found false)
        is) ∙ free))

    -- ---- reading data

    abbrev reading : (offset size : ℕ) → NvIndex → Result (List ℕ) ReadFault
    reading offset size i =
        readable i >>= λ initialized.
        refused_if (nat_lt i.public.data_size (offset + size)) read_fault.PastData >>= λ inside.
        Ok (piece_of offset size i.bytes)

    -- Whether a read is refused does not depend on the data of the index.
    pub read_refused_alike : (offset size : ℕ)
        → Alike success (read_at (bare_nv s n) handle offset size) (read_at n handle offset size)
    unfolding read_at
    read_refused_alike offset size =
        alike_found success (bare_index s) (index_at (bare_nv s n) handle) (index_at n handle)
        read_fault.Undefined (reading offset size) (reading offset size)
        (index_at_bare s n handle) (λ i is.
        alike_step success (readable i) _ _ (λ initialized.
        alike_step success
        (refused_if (nat_lt i.public.data_size (offset + size)) read_fault.PastData) _ _
        (λ inside.
        alike_end success _ _ refl)))

    -- If the data of an index is not secret, a read returns the same bytes on a device and on the
    -- device with its secrets erased.
    pub read_shown : (offset size : ℕ) → option_map_or (is_secret_index s) (index_at n handle) false
        ≡ false → read_at (bare_nv s n) handle offset size ≡ read_at n handle offset size
    unfolding read_at
    read_shown offset size shown =
        ap (λ (found : Option NvIndex). ok_or found read_fault.Undefined >>= reading offset size)
        (index_at_bare s n handle) ∙ by (index_at n handle) shown
      where
        by : (found : Option NvIndex) → option_map_or (is_secret_index s) found false ≡ false
            → (ok_or (option_map (bare_index s) found) read_fault.Undefined >>= reading offset size)
            ≡ (ok_or found read_fault.Undefined >>= reading offset size)
        by None shown = refl
        by (Some i) shown = ap (reading offset size) (bytes_shown i shown)
