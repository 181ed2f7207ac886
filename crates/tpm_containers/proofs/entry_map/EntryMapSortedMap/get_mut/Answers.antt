use Rattle.std.proofs.Common.{◌≡◌, ◌⊎◌, sym, arith, inl, ◌∙◌}
use Rattle.tpm_containers.proofs.SortedMapLaws.{changed_ascends, changed_length}
use Rattle.tpm_containers.proofs.KeyIndex.{lent_at}
use Rattle.tpm_containers.proofs.entry_map.EntryMapSortedMap.get_mut.Goals as goal

lent : {N A B : Type 0} {n : N} {f h : A} → f ≡ h → ◌≡◌ {A = (N × A) ⊎ B} (inl (n, f)) (inl (n, h))
lent {n = n} e t = inl (n, e t)

pub invariant_of-self-lent : goal.invariant_of-self-lent
invariant_of-self-lent g c w =
    let es = g.E.Items.items c.self.inside.entries in
    let at = lent_at c.as_slice.result.now es c.args.key c.in_ok-index.index c.in_ok-entry.entry.now
    c.as_slice.ensures c.in_ok-entry.ensures.there.1 c.in_ok-index.ensures.read
    c.in_ok-index.ensures.written in
    let many = changed_length es c.args.key w in
    let few = c.self.invariant.1 in
    rw (
      g.met.E.Items.written c.self.inside.entries c.in_ok-index.index
          (c.in_ok-entry.entry.now.0, w),
      at.written w,
    )
    (changed_ascends es c.args.key w c.self.invariant.0, omega (arith, many, few))

pub returns : goal.returns
returns g c =
    let at = lent_at c.as_slice.result.now (g.E.Items.items c.self.inside.entries) c.args.key
    c.in_ok-index.index c.in_ok-entry.entry.now
    c.as_slice.ensures c.in_ok-entry.ensures.there.1 c.in_ok-index.ensures.read
    c.in_ok-index.ensures.written in
    rw (← c.self.view_is) (
      lent
          (λ t w. (g.met.E.Items.written c.self.inside.entries c.in_ok-index.index
          (c.in_ok-entry.entry.now.0, w) ∙ at.written w) t),
      record { writes_back = tt; value = sym at.value },
    )
