use Rattle.std.proofs.Common.{arith, ◌≡◌, ℕ, List, Option, Some, None, sym, ap, ◌∙◌, length}
use Rattle.std.specs.Prelude.{IsSomeAnd}
use Rattle.tpm_nv.specs.Access.{data_or, with_data}
use Rattle.tpm_nv.specs.Index.{NvIndex, changed_index, index_at}
use Rattle.tpm_nv.proofs.Cuts.{put_all}
use Rattle.tpm_nv.proofs.KeptLaws.{known_of}
use Rattle.tpm_nv.proofs.stored_indices.StoredIndices.set_data.Goals as goal

both_of : (P Q : NvIndex → Type 0) (found : Option NvIndex) → IsSomeAnd found P → IsSomeAnd found Q
    → (i : NvIndex) × P i × Q i
both_of P Q (Some i) p q = (i, p, q)
both_of P Q None p q = absurd p

pub put_data-requires-clause-within : goal.put_data-requires-clause-within
put_data-requires-clause-within g c =
    let both =
    both_of (λ i. (c.args.place.attributes ≡ i.public.attributes)
    × (c.args.place.size ≡ i.public.data_size))
    (λ i. (length c.args.bytes.now ≡ i.public.data_size)
    × (length (data_or 0 i) ≡ i.public.data_size)) (index_at c.args.self.now c.args.handle)
    c.requires.there.0 c.requires.whole in
    omega (arith, both.1.1, both.2.0)

pub returns : goal.returns
returns g c = λ index is.
    let known =
    known_of (λ i. (length c.args.bytes.now ≡ i.public.data_size)
    × (length (data_or 0 i) ≡ i.public.data_size)) (index_at c.args.self.now c.args.handle)
    index is c.requires.whole in
    c.put_data.ensures index is
    ∙ ap (λ (l : List ℕ). changed_index c.args.self.now c.args.handle (with_data index l))
    (put_all c.args.bytes.now (data_or 0 index) (known.0 ∙ sym known.1))
