-- The effect after the device executed the command that the layer sent.
use Rattle.std.proofs.Common.{◌≡◌, ap}
use Rattle.std.specs.Prelude.{◌==◌}
use Rattle.tpm_completion.specs.Execution.{Seen, sent_effect}
use Rattle.tpm_completion.specs.Saving.{Reply}
use Rattle.tpm_completion.specs.Sending.{sent_reply}
use Rattle.tpm_completion.specs.declared.sending.Sent.{Sent}

-- the effect contains the layer's reply to the client's command
pub sent_is : (first second : Seen) (sent : Sent) (reply : Reply)
    → reply ≡ sent_reply second.layer (second.step.row.check == 0) sent second.step.response
    → record {
      step = record second.step { response = reply.response; row = first.step.row };
      layer = reply.after;
      drawn = second.drawn;
    } ≡ sent_effect first second sent
sent_is first second sent reply is =
    ap (λ (r : Reply). let z : Seen =
    record {
      step = record second.step { response = r.response; row = first.step.row };
      layer = r.after;
      drawn = second.drawn;
    } in z) is
