use Rattle.std.proofs.Common.{rules}
use Rattle.std.specs.Prelude.{take}
use Rattle.tpm_text.proofs.HexDigits.{hex_too_long}
use Rattle.tpm_text.proofs.draft.Draft.put_hex.Goals as goal

pub returns-then-count-size : goal.returns-then-count-size
returns-then-count-size c =
    rw c.in-Some.is (hex_too_long c.args.digits.now (take c.in-Some.size c.args.self.now.bytes)
    c.check_hex-then-count-size.result c.check_hex-then-count-size.ensures (search rules))
