use Rattle.std.proofs.Common.{◌≡◌, length}
use Rattle.tpm_image_text.specs.Body.{bank_in}
use Rattle.tpm_image_text.proofs.BankLaws.{values_left}
use Rattle.tpm_image_text.proofs.saved.read_sha256.Given as goal

-- The values read so far, followed by the values still to be read, are the whole list.
abbrev pub invariant-loop-place : goal.invariant-loop-place
invariant-loop-place l = record {
  joined : values_left 32 l.place l.values.sha256 l.ahead ≡ bank_in 32 l.fn.text;
  others : l.values.sha1 ≡ l.fn.values.sha1;
  size : length l.values.sha256 ≡ 16;
}
