use Rattle.std.proofs.Common.{◌≡◌, length}
use Rattle.tpm_image_text.specs.Body.{bank_in}
use Rattle.tpm_image_text.proofs.BankLaws.{values_left}
use Rattle.tpm_image_text.proofs.saved.read_sha1.Given as goal

-- The values read so far, followed by the values still to be read, are the whole list.
abbrev pub invariant-loop-place : goal.invariant-loop-place
invariant-loop-place l = record {
  joined : values_left 20 l.place l.values.sha1 l.ahead ≡ bank_in 20 l.fn.text;
  others : l.values.sha256 ≡ l.fn.values.sha256;
  size : length l.values.sha1 ≡ 16;
}
