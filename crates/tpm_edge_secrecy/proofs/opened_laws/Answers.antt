use Rattle.tpm_edge_secrecy.proofs.Opened.{opened_data_need_policy}
use Rattle.tpm_edge_secrecy.proofs.opened_laws.Goals as goal

pub returns : goal.returns
returns c = opened_data_need_policy
