use Rattle.std.proofs.Common.{◌≡◌, length, map, take}
use Rattle.tpm_types_command.specs.Command.{whole_of}
use Rattle.tpm_record.specs.Entity.{name_of}
use Rattle.tpm_auth.proofs.grant.make_names.Given as goal

-- The Names computed so far are the Names of the first handles.
abbrev pub invariant-loop : goal.invariant-loop
invariant-loop g l = record {
  names : l.names.items ≡ map (name_of (g.K.Keep.record_of l.keep))
      (take (length l.names.items) (whole_of l.sent.command.now).handles);
  size : length l.names.items ≡ l.index;
}
