-- Why a script that is played on a kept device stops at a line.
use Rattle.std.specs.Prelude.{ℕ}
use Rattle.tpmsim.specs.declared.kept.stop.PlayFault.{PlayFault}
use Rattle.tpmsim.specs.declared.kept.stop.PlayFault.TheVariants.{Script, Kept}
use Rattle.tpmsim.specs.declared.kept.stop.Stop.{Stop}
use Rattle.tpmsim.specs.declared.kept.stop.Stop.TheVariants as stop
use Rattle.tpmsim_script.specs.declared.fault.RunFault.TheVariants.{Line, Write}

-- the fault of a script that stops at the line with this number
abbrev pub fault_at : (number : ℕ) → Stop → PlayFault
fault_at number stop.Bad = Script (Line number)
fault_at number stop.Write = Script Write
fault_at number (stop.Kept fault) = Kept fault
