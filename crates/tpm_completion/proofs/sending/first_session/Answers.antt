use Rattle.std.proofs.Common.{rules}
use Rattle.tpm_completion.proofs.Passwords.{session_read}
use Rattle.tpm_completion.proofs.sending.first_session.Goals as goal

pub returns : goal.returns
returns c =
    session_read c.args.bytes.now c.u32.new.self c.in_ok-area.area.now c.u32-2.new.self
    c.take.new.self c.u32-3.new.self c.in_ok-_handle._handle c.in_ok-size.size c.u32-3.result
    (search rules) (search rules) (search rules) (search rules)
