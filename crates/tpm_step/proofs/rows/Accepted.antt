-- If a command may have sessions, the session of each entry still exists after the command
-- succeeds.
use Rattle.std.proofs.Common.{◌≡◌, ℕ, false, List, [], Result, Ok, Err, ap, subst}
use Rattle.tpm_bytes.proofs.Fields.{bind_ok, ok_is}
use Rattle.tpm_types_command.specs.Command.{Whole}
use Rattle.tpm_commands.specs.CommandCode.{shape_of}
use Rattle.tpm_types_common.specs.declared.rc.Rc.{Rc}
use Rattle.tpm_record.specs.Record.{Record}
use Rattle.tpm_auth.specs.Entries.{entries_pass}
use Rattle.tpm_auth.specs.Grant.{authorize}
use Rattle.tpm_types_common.specs.Refused.{checked_result}
use Rattle.tpm_types_common.specs.declared.check.Check.{Check}
use Rattle.tpm_types_common.specs.declared.check.Check.TheVariants as check
use Rattle.tpm_types_common.specs.declared.refused.Refused.{Refused}
use Rattle.tpm_record.specs.rows.Rows.{Success}
use Rattle.tpm_step.specs.step.Step.{Accepted, acceptance, request_in}
use Rattle.tpm_step.specs.step.Table.{row_of}
use Rattle.tpm_step.specs.rows.Sessions.{HaveSessions, SessionsStay}
use Rattle.tpm_step.proofs.rows.Binding.{checked_ok, ok_at}
use Rattle.tpm_step.proofs.rows.Sessions.{entries_have, entries_keep}
use Rattle.tpm_step.proofs.rows.Table.{row_stays}

entries_start : (r : Record) (c : Whole) (locality : ℕ) (grants : _)
    → authorize r c locality ≡ Ok grants → HaveSessions r c.entries
unfolding authorize
entries_start r c locality grants is =
    let own = bind_ok (checked_result check.Entries (entries_pass r c.code [] c.entries)) _ grants
    is in
    entries_have r c.code [] c.entries own.0
    (checked_ok check.Entries (entries_pass r c.code [] c.entries) own.0 own.1)

pub accepted_has : (r : Record) (c : Whole) (locality : ℕ) (random : List ℕ) (a : Accepted)
    → (shape_of c.code).forbids_sessions ≡ false → acceptance r c locality random ≡ Ok a
    → HaveSessions a.success.after c.entries
unfolding acceptance
accepted_has r c locality random a may is =
    let granted = bind_ok (authorize r c locality) _ a is in
    let done = bind_ok (row_of r c.code (request_in r c granted.0 locality random)) _ a granted.2 in
    let stay : SessionsStay r done.0.after =
    ok_at (λ s. SessionsStay r s.after)
    (row_of r c.code (request_in r c granted.0 locality random)) done.0
    (row_stays r c.code (request_in r c granted.0 locality random) may) done.1 in
    let same : done.0 ≡ a.success = ap (λ (x : Accepted). x.success) (ok_is _ a done.2) in
    subst (λ (s : Success). HaveSessions s.after c.entries) same
    (entries_keep r done.0.after c.entries stay
    (entries_start r c locality granted.0 granted.1))
