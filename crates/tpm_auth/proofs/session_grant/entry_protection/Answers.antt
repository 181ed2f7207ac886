use Rattle.tpm_auth.proofs.session_grant.entry_protection.Goals as goal

pub granted_protection-requires : goal.granted_protection-requires
granted_protection-requires g c = c.requires c.in-Some.granted c.in-Some.is
