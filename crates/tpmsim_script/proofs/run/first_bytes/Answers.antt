use Rattle.std.proofs.Common.{rules, of_calls}
use Rattle.tpmsim_script.proofs.Starting.{counted_up}
use Rattle.tpmsim_script.proofs.run.first_bytes.Goals as goal

pub returns : goal.returns
returns c =
    let items = c.from_fn.ensures.items in
    counted_up c.from_fn.result items.long (λ place below. let called =
    items.at place 0 below in search (rules, of_calls, called))
