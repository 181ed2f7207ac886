use Rattle.std.proofs.Common.{◌≡◌, ◌*◌, drop}
use Rattle.std.specs.Str.{bytes_eq}
use Rattle.hex.specs.Hex.{encode_lower}
use Rattle.tpm_journal_text.proofs.strip.is_hex_of.Given as goal

-- All digits match exactly when the remaining digits match.
abbrev pub invariant-loop-place : goal.invariant-loop-place
invariant-loop-place l =
    bytes_eq l.digits (encode_lower l.bytes)
    ≡ bytes_eq (drop (2 * l.place) l.digits) (encode_lower (drop l.place l.bytes))
