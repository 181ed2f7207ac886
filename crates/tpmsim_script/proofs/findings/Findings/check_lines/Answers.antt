use Rattle.std.proofs.Common.{rules, tests, arith, ◌<◌, length}
use Rattle.tpmsim_script.proofs.Reporting.{more_at_limit, turned}
use Rattle.tpmsim_script.proofs.findings.Findings.check_lines.Goals as goal

pub loop-number-preserved : goal.loop-number-preserved
loop-number-preserved c =
    let some : 0 < length c.loop-number.rest.now = search (rules, tests) in
    turned _ _ _ _ _ _ _ _ _ _ _ _ _ (omega arith) (c.first_line.ensures some)
    c.in_ok-check_line.ensures.text c.in_ok-check_line.ensures.first
    c.in_ok-check_line.ensures.waited
    c.loop-number.invariant

pub returns-clause-more : goal.returns-clause-more
returns-clause-more c = more_at_limit _ _ _ _ _ _ _ _ (omega arith) c.loop-number.invariant
