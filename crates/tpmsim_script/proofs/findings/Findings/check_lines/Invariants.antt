use Rattle.std.proofs.Common.{◌++◌, length}
use Rattle.std.specs.Option.{option_or}
use Rattle.tpmsim_script.specs.Report.{faults_text, script_faults}
use Rattle.tpmsim_script.specs.Checker.{waited_of}
use Rattle.tpmsim_script.specs.Checking.{first_number}
use Rattle.tpmsim_script.specs.Line.{lines_of}
use Rattle.tpmsim_script.proofs.Reporting.{SoFar}
use Rattle.tpmsim_script.proofs.findings.Findings.check_lines.Given as goal

abbrev pub invariant-loop-number : goal.invariant-loop-number
invariant-loop-number l = SoFar l.self.text.bytes.items l.self.first (waited_of l.checker) l.number
    l.rest
    (l.fn.self.text.bytes.items ++ faults_text l.fn.text)
    (option_or l.fn.self.first (first_number (script_faults l.fn.text)))
    (length (lines_of l.fn.text))
