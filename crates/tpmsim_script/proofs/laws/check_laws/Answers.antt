use Rattle.tpmsim_script.proofs.Checked.{line_checked, script_checked}
use Rattle.tpmsim_script.proofs.laws.check_laws.Goals as goal

pub returns : goal.returns
returns c = record {
  line = line_checked;
  script = script_checked;
}
