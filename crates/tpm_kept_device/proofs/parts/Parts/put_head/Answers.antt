use Rattle.std.proofs.Common.{◌≡◌, ◌++◌, ℕ, List, IfOk, OnOk, subst, ◌∙◌}
use Rattle.tpm_kept_device.specs.View.{state_of}
use Rattle.tpm_kept_device.proofs.Telling.{head_written, sum_written, text_fits}
use Rattle.tpm_kept_device.proofs.parts.Parts.put_head.Goals as goal

pub put_head_of-requires : goal.put_head_of-requires
put_head_of-requires c =
    text_fits (state_of c.args.self.now) c.read_widths.ensures c.deref.result.now
    (c.deref.ensures.value ∙ c.in-Ok.ensures)

pub returns-clause-head : goal.returns-clause-head
returns-clause-head c =
    subst (λ (l : List ℕ). OnOk c.put_head_of.result
    (c.put_head_of.new.out.items ≡ c.args.out.now.items ++ l))
    (head_written (state_of c.args.self.now) c.read_widths.ensures c.deref.result.now
    (c.deref.ensures.value ∙ c.in-Ok.ensures) c.put_head_of.ensures.bytes)
    c.put_head_of.ensures.head

pub returns-clause-sum : goal.returns-clause-sum
returns-clause-sum c =
    subst (λ (n : ℕ). IfOk c.put_head_of.result (λ sum. sum ≡ n))
    (sum_written (state_of c.args.self.now) c.read_widths.ensures c.deref.result.now
    (c.deref.ensures.value ∙ c.in-Ok.ensures) c.put_head_of.ensures.bytes)
    c.put_head_of.ensures.sum
