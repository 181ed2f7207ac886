use Rattle.std.proofs.Common.{arith, sym, subst, [], List}
use Rattle.tpm_bytes.specs.Reading.{Gives}
use Rattle.tpm_types_common.specs.Locality.{locality_number}
use Rattle.tpm_types_command.specs.AuthEntry.{Entry}
use Rattle.tpm_types_command.specs.Command.{whole_of}
use Rattle.tpm_auth.specs.Grant.{granted_by, grants_pass}
use Rattle.tpm_auth.proofs.Resolving.{only_entry}
use Rattle.tpm_auth.proofs.grant.check_all.Goals as goal

pub returns-in-len1 : goal.returns-in-len1
returns-in-len1 g c =
    let one = only_entry c.args.sent.now.command.now.entries.now _
    (omega (arith, c.in-len1.len_at_least)) (omega (arith, c.in-len1.len_below)) in
    subst (λ (l : List Entry). Gives granted_by
    (grants_pass (g.K.Keep.record_of c.args.keep.now) (whole_of c.args.sent.now.command.now)
    (locality_number c.args.sent.now.locality) [] l) c.check_one_password.result) (sym one)
    c.check_one_password.ensures
