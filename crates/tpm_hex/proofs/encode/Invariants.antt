use Rattle.std.proofs.Common.{◌≡◌, ◌*◌, ◌++◌, drop, take}
use Rattle.hex.specs.Hex.{encode_lower}
use Rattle.tpm_hex.proofs.encode.Given as goal

-- The digits written so far, followed by the digits of the remaining bytes, are all the digits.
abbrev pub invariant-loop-place : goal.invariant-loop-place
invariant-loop-place l =
    take (2 * l.place) l.digits ++ encode_lower (drop l.place l.bytes) ≡ encode_lower l.bytes
