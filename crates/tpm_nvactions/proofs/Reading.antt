-- A read of an NV index returns at most the number of bytes that the command requests.
use Rattle.std.proofs.Common.{arith, ◌≡◌, ◌≤◌, ◌+◌, ℕ, List, length, take, drop, Ok, subst}
use Rattle.std.proofs.lemmas.List.{length-take}
use Rattle.std.specs.Prelude.{nat_lt}
use Rattle.tpm_bytes.specs.Reading.{refused_if}
use Rattle.tpm_bytes.proofs.Fields.{bind_ok, ok_is}
use Rattle.tpm_types_common.specs.declared.handle.Handle.{Handle}
use Rattle.tpm_nv.specs.Access.{index_or_fault, read_at, readable}
use Rattle.tpm_nv.specs.Index.{NvContents}
use Rattle.tpm_nv.specs.declared.fault.ReadFault.TheVariants.{PastData, Undefined}

taken_few : (size start : ℕ) (bytes : List ℕ) → length (take size (drop start bytes)) ≤ size
taken_few size start bytes = omega (arith, length-take size (drop start bytes))

pub read_few : (contents : NvContents) (handle : Handle) (offset size : ℕ) (bytes : List ℕ)
    → read_at contents handle offset size ≡ Ok bytes → length bytes ≤ size
unfolding read_at
read_few contents handle offset size bytes is =
    let index = bind_ok (index_or_fault contents handle Undefined) _ bytes is in
    let initialized = bind_ok (readable index.0) _ bytes index.2 in
    let inside = bind_ok (refused_if (nat_lt index.0.public.data_size (offset + size)) PastData) _
    bytes initialized.2 in
    subst (λ (l : List ℕ). length l ≤ size) (ok_is _ _ inside.2)
    (taken_few size offset index.0.bytes)
