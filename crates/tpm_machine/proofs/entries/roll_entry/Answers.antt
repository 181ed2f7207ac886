use Rattle.std.proofs.Common.{ℕ, ◌≤◌, subst}
use Rattle.tpm_types_command.specs.AuthEntry.{entry_of}
use Rattle.tpm_machine.proofs.Nonces.{nonce_fits}
use Rattle.tpm_machine.proofs.entries.roll_entry.Goals as goal

pub roll_session-requires : goal.roll_session-requires
roll_session-requires g c =
    let few = subst (λ (n : ℕ). n ≤ 32) c.draw_of.ensures.value c.draw_of.ensures.small in
    rw (c.nonce-nonce.ensures.nonce, c.draw_of.ensures.value)
    (nonce_fits (g.K.Keep.record_of c.args.keep.now) (entry_of c.args.entry.now) c.args.draws.now
    c.requires few)
