-- How a script ends if it stops at a line.
use Rattle.std.specs.Prelude.{ℕ}
use Rattle.tpmsim_script.specs.declared.line_fault.LineFault.{LineFault}
use Rattle.tpmsim_script.specs.declared.line_fault.LineFault.TheVariants as line
use Rattle.tpmsim_script.specs.declared.fault.RunFault.{RunFault}
use Rattle.tpmsim_script.specs.declared.fault.RunFault.TheVariants.{Line, Write, Save}

-- the fault of a script that stopped at the line with this number
abbrev pub fault_at : ℕ → LineFault → RunFault
fault_at number line.Bad = Line number
fault_at number line.Write = Write
fault_at number line.Save = Save
