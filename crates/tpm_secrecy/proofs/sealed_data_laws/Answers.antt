use Rattle.tpm_secrecy.proofs.DiskKey.{disk_key_stays_secret}
use Rattle.tpm_secrecy.proofs.SealedData.{sealed_data_need_policy, sealed_data_stay_until_read}
use Rattle.tpm_secrecy.proofs.sealed_data_laws.Goals as goal

pub returns-clause-each : goal.returns-clause-each
returns-clause-each c = sealed_data_need_policy

pub returns-clause-until_read : goal.returns-clause-until_read
returns-clause-until_read c = sealed_data_stay_until_read

pub returns-clause-disk_key : goal.returns-clause-disk_key
returns-clause-disk_key c = disk_key_stays_secret
