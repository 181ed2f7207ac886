use Rattle.std.proofs.Common.{◌≤◌, ◌≢◌, ℕ, arith, sym, subst, ◌∙◌}
use Rattle.tpm_nv.specs.declared.head.Head.{Head}
use Rattle.tpm_nv.proofs.Cuts.{none_from, start_fits}
use Rattle.tpm_nv.proofs.heads.found_at.Goals as goal

pub overflow_add-start : goal.overflow_add-start
overflow_add-start c =
    let fits = start_fits c.args.heads.now c.args.key in
    omega (arith, fits, c.requires.small, c.loop-other.invariant.0)

pub returns-else-key-other-2-clause-absent : goal.returns-else-key-other-2-clause-absent
returns-else-key-other-2-clause-absent c =
    let item = c.loop-other-item in
    let left = c.loop-other.invariant in
    sym left.1
    ∙ none_from c.args.heads.now c.loop-other.other-index c.args.key item.result
    c.loop-other-test.true left.2
    (subst (λ (e : ℕ × Head). c.args.key ≤ e.0) item.is c.if-key-other.true)
    (subst (λ (e : ℕ × Head). c.args.key ≢ e.0) item.is c.if-key-other-2.false)
