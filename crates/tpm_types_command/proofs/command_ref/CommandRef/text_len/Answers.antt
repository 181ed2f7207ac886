use Rattle.std.proofs.Common.{length, ap, arith}
use Rattle.tpm_types_command.specs.Command.{whole_of}
use Rattle.tpm_types_command.proofs.CommandLaws.{size_is}
use Rattle.tpm_types_command.proofs.command_ref.CommandRef.text_len.Goals as goal

pub returns-then-size-gt4294967295 : goal.returns-then-size-gt4294967295
returns-then-size-gt4294967295 c =
    let found = c.in_ok-sessions.ensures.value in
    let size = size_is (whole_of c.args.self.now) (length c.as_slice.result.now)
    c.in_ok-sessions.sessions (ap length c.as_slice.ensures.value) found.1 in
    λ has. let small = has.whole in omega arith

pub returns : goal.returns
returns c =
    let found = c.in_ok-sessions.ensures.value in
    let size = size_is (whole_of c.args.self.now) (length c.as_slice.result.now)
    c.in_ok-sessions.sessions (ap length c.as_slice.ensures.value) found.1 in
    (record { entries = found.0; whole = omega arith }, size)
