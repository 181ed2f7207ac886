use Rattle.tpm_secrecy.proofs.DiskKey.{followed_disk_key_stays_secret}
use Rattle.tpm_secrecy.proofs.SealedData.{followed_data_need_policy, followed_data_stay_until_read}
use Rattle.tpm_secrecy.proofs.followed_data_laws.Goals as goal

pub returns-clause-each : goal.returns-clause-each
returns-clause-each c = followed_data_need_policy

pub returns-clause-until_read : goal.returns-clause-until_read
returns-clause-until_read c = followed_data_stay_until_read

pub returns-clause-disk_key : goal.returns-clause-disk_key
returns-clause-disk_key c = followed_disk_key_stays_secret
