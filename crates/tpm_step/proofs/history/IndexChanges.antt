-- After an increment, a counter has its next value.
use Rattle.std.proofs.Common.{◌≡◌, ℕ, ◌+◌, ◌<◌, ◌^◌, Some, IfOk, refl}
use Rattle.std.specs.Prelude.{nat_le}
use Rattle.std.specs.Int.{w64, to_be_bytes}
use Rattle.std.proofs.lemmas.Bool.{leb-false}
use Rattle.tpm_bytes.proofs.Fields.{passed}
use Rattle.tpm_bytes.specs.Reading.{refused_if}
use Rattle.tpm_types_common.specs.declared.handle.Handle.{Handle}
use Rattle.tpm_types_nv.specs.declared.nv_type.NvType.TheVariants as type
use Rattle.tpm_nv.specs.Access.{contents_after_count, contents_after_increment, index_or_fault, number_or, with_data, writable}
use Rattle.tpm_nv.specs.Index.{NvContents, NvIndex, changed_index, index_at}
use Rattle.tpm_nv.specs.declared.fault.WriteFault.TheVariants.{Exhausted, Undefined}
use Rattle.tpm_step.proofs.rows.Binding.{ok_bind_is, some_is}
use Rattle.tpm_step.specs.rows.IndexChanges.{IsCounter}
use Rattle.tpm_step.proofs.rows.IndexChanges.{writable_type}

-- The counter exists, its next value fits in 64 bits, and the new contents have this next value.
pub record CountsUp (handle : Handle) (old new : NvContents) : Type 0 where
  pub index : NvIndex
  pub found : index_at old handle ≡ Some index
  pub counter : IsCounter index
  pub small : number_or old.max_count index + 1 < 2 ^ 64
  pub is : let n : ℕ = number_or old.max_count index + 1 in new
      ≡ contents_after_count (changed_index old handle (with_data index (to_be_bytes w64 n))) n

pub incremented_counts : (contents : NvContents) (handle : Handle)
    → IfOk (contents_after_increment contents handle) (CountsUp handle contents)
unfolding contents_after_increment
incremented_counts contents handle =
    ok_bind_is _ (index_or_fault contents handle Undefined) _ (λ index is.
    ok_bind_is _ (writable type.Counter index) _ (λ counter may.
    ok_bind_is _ (refused_if (nat_le (2 ^ 64) (number_or contents.max_count index + 1)) Exhausted) _
    (λ fits small.
    record {
      index = index;
      found = some_is _ _ index is;
      counter = writable_type type.Counter index may;
      small = leb-false (2 ^ 64) (number_or contents.max_count index + 1) (passed _ _ fits small);
      is = refl;
    })))
