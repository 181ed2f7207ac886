-- Converts the parameters of an assertion, as the code represents them, to the assertion of the
-- definitions.
use Rattle.tpm_policy.specs.Assertion as assertion
use Rattle.tpm_policy.specs.Assertion.{Assertion}
use Rattle.tpm_session.specs.declared.session.Session.{Session}
use Rattle.tpm_types_common.specs.DigestList.{digests_of}
use Rattle.tpm_record.specs.Entity.{name_of}
use Rattle.tpm_record.specs.Record.{Record}
use Rattle.tpm_actions_policy.specs.PolicyNv.{Parameters as NvParameters, nv_parts_of}
use Rattle.tpm_actions_policy.specs.PolicyPcr.{Parameters as PcrParameters, pcr_parts_of}
use Rattle.tpm_actions_policy.specs.PolicySecret.{Parameters as SecretParameters, secret_of}
use Rattle.tpm_actions_policy.specs.declared.assertions.AssertionParameters.{AssertionParameters}
use Rattle.tpm_actions_policy.specs.declared.assertions.AssertionParameters.TheVariants as asked
use Rattle.tpm_actions_policy.specs.declared.compared_index.ComparedIndex.{ComparedIndex}
use Rattle.tpm_actions_policy.specs.declared.policy_pcr.ComparedPcrs.{ComparedPcrs}
use Rattle.tpm_actions_policy.specs.declared.policy_secret.ShownSecret.{ShownSecret}

abbrev pub pcrs_of : ComparedPcrs → PcrParameters
pcrs_of pcrs = record { given = pcrs.given.now; selection = pcrs.selection.now.banks.items }

abbrev pub secret_asked : ShownSecret → SecretParameters
secret_asked secret = record {
  nonce = secret.nonce.now;
  cp_hash = secret.cp_hash.now;
  reference = secret.reference.now;
  expiration = secret.expiration;
}

abbrev pub nv_asked : ComparedIndex → NvParameters
nv_asked index = record {
  operand = index.operand.now;
  offset = index.offset;
  operation = index.operation;
}

-- the assertion that these parameters request, for a session of this record
abbrev pub assertion_of : Record → AssertionParameters → Session → Assertion
assertion_of r (asked.Pcr pcrs) s = assertion.Pcr (pcr_parts_of r (pcrs_of pcrs) s)
assertion_of r (asked.Or digests) s = assertion.Or (digests_of digests.now.digests.items)
assertion_of r asked.AuthValue s = assertion.AuthValue
assertion_of r asked.Password s = assertion.Password
assertion_of r (asked.CommandCode number) s = assertion.CommandCode r.fixed.profile number
assertion_of r (asked.CpHash cp_hash) s = assertion.CpHash cp_hash.now
assertion_of r (asked.NvWritten is_written) s = assertion.NvWritten is_written
assertion_of r (asked.Locality localities) s = assertion.Locality localities
assertion_of r (asked.Secret secret) s =
    assertion.Secret (secret_of (secret_asked secret) (name_of r secret.entity) s)
assertion_of r (asked.Nv index) s =
    assertion.Nv (nv_parts_of r index.target (nv_asked index))
