use Rattle.std.proofs.Common.{◌≡◌, Some, is_some, sym, ap, ◌∙◌, arith}
use Rattle.tpm_containers.specs.SortedMap.{at_key, without_key}
use Rattle.tpm_containers.proofs.SortedMapLaws.{removed_absent}
use Rattle.tpm_nv.specs.Bytes.{closed_up}
use Rattle.tpm_nv.specs.Head.{indices_of, size_of, start_of}
use Rattle.tpm_nv.specs.Index.{NvContents}
use Rattle.tpm_nv.proofs.Cuts.{removed_among}
use Rattle.tpm_nv.proofs.KeptLaws.{kept_removed, none_at, piece_inside, some_at}
use Rattle.tpm_nv.proofs.stored_indices.StoredIndicesIndices.undefine.Goals as goal

pub returns-in_default-clause-there : goal.returns-in_default-clause-there
returns-in_default-clause-there g c =
    sym (ap is_some
    (none_at (g.H.SortedMap.entries c.self.inside.heads) (g.R.Area.bytes c.self.inside.area)
    c.self.inside.max_count c.args.handle c.args.self.now c.self.view_is
    (sym c.in_default.ensures.value)))

pub returns-in_default-clause-after : goal.returns-in_default-clause-after
returns-in_default-clause-after g c =
    let none = none_at (g.H.SortedMap.entries c.self.inside.heads)
    (g.R.Area.bytes c.self.inside.area) c.self.inside.max_count c.args.handle c.args.self.now
    c.self.view_is (sym c.in_default.ensures.value) in
    ap (λ l. record c.args.self.now { indices = l })
    (sym (removed_absent c.args.self.now.indices c.args.handle.number none))

pub close_up-requires : goal.close_up-requires
close_up-requires g c =
    let es = g.H.SortedMap.entries c.self.inside.heads in
    let key = c.args.handle.number in
    let from : c.start_of-start.result ≡ start_of es key =
    c.start_of-start.ensures ∙ ap (λ l. start_of l key) c.as_slice.ensures in
    omega (
      arith,
      from,
      c.from-size.ensures,
      piece_inside es (g.R.Area.bytes c.self.inside.area) key c.in-Some.head.now
          c.self.invariant (sym c.in-Some.ensures.value),
    )

pub invariant_of-self : goal.invariant_of-self
invariant_of-self g c =
    let es = g.H.SortedMap.entries c.self.inside.heads in
    let area = g.R.Area.bytes c.self.inside.area in
    let key = c.args.handle.number in
    let h = c.in-Some.head.now in
    let from : c.start_of-start.result ≡ start_of es key =
    c.start_of-start.ensures ∙ ap (λ l. start_of l key) c.as_slice.ensures in
    let bytes : g.R.Area.bytes c.close_up.new.self ≡ closed_up (start_of es key) (size_of h) area =
    c.close_up.ensures ∙ ap (λ s. closed_up s c.from-size.result area) from
    ∙ ap (λ n. closed_up (start_of es key) n area) c.from-size.ensures in
    rw (c.remove.ensures.after, bytes)
    (kept_removed es area key h c.self.invariant (sym c.in-Some.ensures.value))

pub returns-clause-there : goal.returns-clause-there
returns-clause-there g c =
    sym (ap is_some
    (some_at (g.H.SortedMap.entries c.self.inside.heads) (g.R.Area.bytes c.self.inside.area)
    c.self.inside.max_count c.args.handle c.args.self.now c.in-Some.head.now c.self.view_is
    c.self.invariant (sym c.in-Some.ensures.value)))

pub returns-clause-after : goal.returns-clause-after
returns-clause-after g c =
    let es = g.H.SortedMap.entries c.self.inside.heads in
    let area = g.R.Area.bytes c.self.inside.area in
    let key = c.args.handle.number in
    let h = c.in-Some.head.now in
    let there : at_key es key ≡ Some h = sym c.in-Some.ensures.value in
    let from : c.start_of-start.result ≡ start_of es key =
    c.start_of-start.ensures ∙ ap (λ l. start_of l key) c.as_slice.ensures in
    let bytes : g.R.Area.bytes c.close_up.new.self ≡ closed_up (start_of es key) (size_of h) area =
    c.close_up.ensures ∙ ap (λ s. closed_up s c.from-size.result area) from
    ∙ ap (λ n. closed_up (start_of es key) n area) c.from-size.ensures in
    let seen : indices_of (g.H.SortedMap.entries c.remove.new.self)
    (g.R.Area.bytes c.close_up.new.self) ≡ without_key (indices_of es area) key =
    ap (λ l. indices_of l (g.R.Area.bytes c.close_up.new.self)) c.remove.ensures.after
    ∙ ap (λ l. indices_of (without_key es key) l) bytes
    ∙ sym (removed_among es area key h c.self.invariant.ascends
    (omega (arith, c.self.invariant.whole)) there) in
    rw (← c.self.view_is)
    (ap (λ l. let made : NvContents =
    record { indices = l; max_count = c.self.inside.max_count } in made) seen)
