use Rattle.tpmsim_script.proofs.LineBreaks.{rest_behind}
use Rattle.std.proofs.Common.{arith}
use Rattle.tpmsim_script.proofs.lines.Lines.take.Goals as goal

pub returns-clause-rest : goal.returns-clause-rest
returns-clause-rest c = rest_behind c.args.self.now.bytes.items c.args.self.now.next c.args.past
    c.args.self.now.filled (omega arith)
