use Rattle.std.proofs.Common.{◌≡◌, ◌<◌, ◌+◌, ℕ, suc, Some, length, get_or, ap, ◌∙◌, arith}
use Rattle.tpm_containers.specs.SortedMap.{Entries, at_key, changed_key}
use Rattle.tpm_types_nv.specs.declared.nv_attributes.NvAttributes.{NvAttributes}
use Rattle.tpm_nv.specs.Head.{with_attributes}
use Rattle.tpm_nv.specs.Startup.{started_attributes}
use Rattle.tpm_nv.specs.declared.head.Head.{Head}
use Rattle.tpm_nv.proofs.StartupLaws.{entry_there, found_in_turn, same_in_turn, started_in_turn, started_up_to}
use Rattle.tpm_nv.proofs.startup.start_heads.Goals as goal

pub loop-place-preserved : goal.loop-place-preserved
loop-place-preserved g c =
    let old = g.H.SortedMap.entries c.args.heads.now in
    let i = c.loop-place.place in
    let so_far = c.loop-place.invariant in
    let inside : i < length old = omega (arith, c.loop-place-test.true, c.len-place-end.ensures) in
    let there = entry_there old i inside in
    let e = there.0 in
    let shown = ap (λ l. get_or l i e) (c.as_slice.ensures ∙ so_far) ∙ same_in_turn old i e inside
    ∙ there.1 in
    let entry = c.entry_at-entry.ensures e shown in
    let key : c.entry_at-entry.result.0 ≡ e.0 = ap (λ (p : ℕ × NvAttributes). p.0) entry in
    let attributes : c.started_attributes.result ≡ started_attributes e.1.public.attributes =
    c.started_attributes.ensures ∙ ap (λ (p : ℕ × NvAttributes). started_attributes p.1)
    entry in
    let found : at_key (g.H.SortedMap.entries c.loop-place.heads) c.entry_at-entry.result.0
    ≡ Some e.1 =
    ap (λ (l : Entries Head). at_key l c.entry_at-entry.result.0) so_far
    ∙ ap (λ (k : ℕ). at_key (started_up_to i old) k) key
    ∙ found_in_turn old i e c.requires inside there.1 in
    let next : suc i ≡ i + 1 = omega arith in
    c.set_attributes.ensures e.1 found
    ∙ ap (λ (l : Entries Head). changed_key l c.entry_at-entry.result.0
    (with_attributes e.1 c.started_attributes.result)) so_far
    ∙ ap (λ (k : ℕ). changed_key (started_up_to i old) k
    (with_attributes e.1 c.started_attributes.result)) key
    ∙ ap (λ (a : NvAttributes). changed_key (started_up_to i old) e.0 (with_attributes e.1 a))
    attributes
    ∙ started_in_turn old i e c.requires inside there.1
    ∙ ap (λ (n : ℕ). started_up_to n old) next
