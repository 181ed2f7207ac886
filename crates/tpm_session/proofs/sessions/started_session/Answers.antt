use Rattle.tpm_session.proofs.StartSizes.{started_sizes}
use Rattle.tpm_session.proofs.sessions.started_session.Goals as goal

pub invariant_of-result : goal.invariant_of-result
invariant_of-result c =
    let s = c.args.start in
    rw (c.derived-key.ensures, c.as_slice.ensures.value, c.new.ensures)
    (started_sizes s.kind s.hash s.symmetric s.binding s.nonce_tpm s.nonce_caller.now c.requires)
