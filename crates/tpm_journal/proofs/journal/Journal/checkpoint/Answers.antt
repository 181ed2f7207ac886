use Rattle.std.proofs.Common.{◌≡◌, ℕ, Some, Ok, ap, subst, sym, ◌∙◌}
use Rattle.tpm_journal_text.specs.Head.{head_sum}
use Rattle.tpm_snapshot.specs.Layer.{layer_of}
use Rattle.tpm_state_text.specs.Layer.{IsLayer}
use Rattle.tpm_state_text.specs.State.{state_text}
use Rattle.tpm_state_text.specs.declared.layer.Layer.{Layer}
use Rattle.tpm_journal.specs.Checkpoint.{checkpointed_journal}
use Rattle.tpm_journal.proofs.Starts.{checkpoint_starts}
use Rattle.tpm_journal.proofs.journal.Journal.checkpoint.Goals as goal

pub returns-then-size-buffer-clause-starts : goal.returns-then-size-buffer-clause-starts
returns-then-size-buffer-clause-starts g c fits =
    let device = g.K.Keep.record_of c.args.machine.now.keep in
    let layer : IsLayer (layer_of c.args.self.now.layer) =
    subst IsLayer c.layer_of-layer.ensures.value c.layer_of-layer.ensures.is_layer in
    let sum : c.put_state-size.new.sum
    ≡ (checkpointed_journal c.args.self.now c.args.clock_ms device).sum =
    c.put_state-size.ensures.sum fits
    ∙ ap (λ (l : Layer). head_sum c.args.clock_ms
    (state_text (record { device = device; layer = Some l })))
    c.layer_of-layer.ensures.value in
    checkpoint_starts c.args.self.now c.args.clock_ms device
    (record { device = c.put_state-size.ensures.is_record; layer = layer })
    ∙ ap (λ (n : ℕ).
    Ok (record {
      journal = record c.args.self.now { sum = n; time = c.args.clock_ms };
      device = device;
    })) (sym sum)
