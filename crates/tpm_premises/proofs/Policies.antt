-- A written policy can contain every kind of assertion.
use Rattle.tpm_premises.specs.Policies.{EachIsWritten}

pub each_is_written : EachIsWritten
each_is_written hash before is = record {
  pcr = λ selection digest size. (is, size);
  auth_value = (is, tt);
  password = (is, tt);
  command_code = λ number few. (is, few);
  locality = λ localities. (is, tt);
  cp_hash = λ cp_hash. (is, tt);
  nv_written = λ is_written. (is, tt);
  secret = λ name reference. (is, tt);
  nv = λ name operand offset operation few. (is, few);
  either = λ other other_is. (is, (other_is, tt));
}
