use Rattle.std.proofs.Common.{◌≡◌, [], drop, length, map}
use Rattle.tpm_types_common.specs.Locality.{locality_number}
use Rattle.tpm_types_command.specs.AuthEntry.{entry_of}
use Rattle.tpm_types_command.specs.Command.{whole_of}
use Rattle.tpm_auth.specs.Grant.{grants_pass}
use Rattle.tpm_auth.specs.SessionGrant.{hashed_command}
use Rattle.tpm_auth.proofs.grant.check_each.Given as goal

-- Checking the remaining entries gives the same result as checking all entries.
abbrev pub invariant-loop-place : goal.invariant-loop-place
invariant-loop-place g l =
    let r = g.K.Keep.record_of l.keep in
    let c = whole_of l.sent.command.now in
    let at = locality_number l.sent.locality in
    record {
      left : grants_pass r c at l.grants.items (map entry_of (drop l.place l.entries))
          ≡ grants_pass r c at [] (map entry_of l.entries);
      size : length l.grants.items ≡ l.place;
      hashed : l.hashes ≡ hashed_command r c;
    }
