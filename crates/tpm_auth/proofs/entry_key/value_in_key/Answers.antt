use Rattle.tpm_auth.proofs.entry_key.value_in_key.Goals as goal

pub granted_key_value-requires : goal.granted_key_value-requires
granted_key_value-requires g c = c.requires c.in-Some.granted c.in-Some.is
