-- If all checks of a call on an NV index pass, the call's definition is a success, with the new
-- contents or the data that were read.
use Rattle.std.proofs.Common.{◌≡◌, ℕ, ◌+◌, ◌<◌, ◌≤◌, ◌^◌, false, true, List, ◌++◌, length, Ok, refl}
use Rattle.std.specs.Prelude.{◌&&◌, ◌||◌, ◌==◌, not, bit_or}
use Rattle.std.specs.Int.{w64, to_be_bytes}
use Rattle.std.proofs.lemmas.Bool.{le-ltb, lt-leb}
use Rattle.tpm_mac.specs.Digest.{hash_of}
use Rattle.tpm_types_common.specs.declared.handle.Handle.{Handle}
use Rattle.tpm_types_nv.specs.NvAttributes.{has}
use Rattle.tpm_types_nv.specs.declared.nv_attributes.NvAttribute.TheVariants as attribute
use Rattle.tpm_types_nv.specs.declared.nv_type.NvType.TheVariants as type
use Rattle.tpm_nv.specs.Access.{bits_set, contents_after_count, contents_after_extend, contents_after_increment, contents_after_write, data_or, marked_index, number_or, read_at, read_locked, with_auth_value, with_data, writable, write_locked}
use Rattle.tpm_nv.specs.Bytes.{piece_of, put_over}
use Rattle.tpm_nv.specs.Head.{IsIndexOf, index_with, size_of}
use Rattle.tpm_nv.specs.Index.{NvContents, changed_index}
use Rattle.tpm_nv.specs.declared.head.Head.{Head}

module _ (contents : NvContents) (handle : Handle) (h : Head) (old : List ℕ) where
  pub written_is : (offset : ℕ) (bytes : List ℕ) → IsIndexOf contents handle h old
      → writable type.Ordinary (index_with h old) ≡ Ok tt → offset + length bytes ≤ size_of h
      → (has h.public.attributes attribute.WriteAll && not (length bytes == size_of h)) ≡ false
      → contents_after_write contents handle offset bytes
      ≡ Ok (changed_index contents handle
      (with_data (index_with h old) (put_over offset bytes (data_or 0xff (index_with h old)))))
  unfolding contents_after_write
  written_is offset bytes is can inside whole =
      rw (is.found, can, le-ltb (size_of h) (offset + length bytes) inside, whole) refl

  pub incremented_is : (last : ℕ) → IsIndexOf contents handle h old
      → writable type.Counter (index_with h old) ≡ Ok tt
      → last ≡ number_or contents.max_count (index_with h old) → last + 1 < 2 ^ 64
      → contents_after_increment contents handle
      ≡ Ok (contents_after_count
      (changed_index contents handle (with_data (index_with h old) (to_be_bytes w64 (last + 1))))
      (last + 1))
  unfolding contents_after_increment
  incremented_is last is can number fits =
      rw (is.found, can, ← number, lt-leb (2 ^ 64) (last + 1) fits) refl

  pub bits_set_is : (bits last : ℕ) → IsIndexOf contents handle h old
      → writable type.Bits (index_with h old) ≡ Ok tt → last ≡ number_or 0 (index_with h old)
      → bits_set contents handle bits
      ≡ Ok (changed_index contents handle
      (with_data (index_with h old) (to_be_bytes w64 (bit_or last bits))))
  unfolding bits_set
  bits_set_is bits last is can number = rw (is.found, can, ← number) refl

  pub extended_is : (bytes digest : List ℕ) → IsIndexOf contents handle h old
      → writable type.Extend (index_with h old) ≡ Ok tt
      → digest ≡ hash_of h.public.name_alg (data_or 0 (index_with h old) ++ bytes)
      → contents_after_extend contents handle bytes
      ≡ Ok (changed_index contents handle (with_data (index_with h old) digest))
  unfolding contents_after_extend
  extended_is bytes digest is can same = rw (is.found, can, ← same) refl

  pub read_is : (offset size : ℕ) → IsIndexOf contents handle h old
      → has h.public.attributes attribute.ReadLocked ≡ false
      → has h.public.attributes attribute.Written ≡ true → offset + size ≤ size_of h
      → read_at contents handle offset size ≡ Ok (piece_of offset size old)
  unfolding read_at
  read_is offset size is free was_written inside =
      rw (is.found, free, was_written, le-ltb (size_of h) (offset + size) inside) refl

  pub write_locked_is : IsIndexOf contents handle h old
      → (has h.public.attributes attribute.WriteDefine
      || has h.public.attributes attribute.WriteStClear) ≡ true
      → write_locked contents handle
      ≡ Ok (changed_index contents handle (marked_index (index_with h old) attribute.WriteLocked))
  unfolding write_locked
  write_locked_is is lockable = rw (is.found, lockable) refl

  pub read_locked_is : IsIndexOf contents handle h old
      → has h.public.attributes attribute.ReadStClear ≡ true
      → read_locked contents handle
      ≡ Ok (changed_index contents handle (marked_index (index_with h old) attribute.ReadLocked))
  unfolding read_locked
  read_locked_is is lockable = rw (is.found, lockable) refl

  pub with_auth_value_is : (value : List ℕ) → IsIndexOf contents handle h old
      → with_auth_value contents handle value
      ≡ Ok (changed_index contents handle (record (index_with h old) { auth_value = value }))
  unfolding with_auth_value
  with_auth_value_is value is = rw is.found refl
