use Rattle.std.proofs.Common.{rules, tests, ◌==◌}
use Rattle.std.proofs.lemmas.Iterator.Consumers.{YieldsList-from_filter, count_from_yields_List}
use Rattle.std.proofs.lemmas.Iterator.Splits.{YieldsList-from_slice_split}
use Rattle.tpmsim_script.specs.Foreign.{is_strange}
use Rattle.tpmsim_script.proofs.foreign.strange_lines.Goals as goal

pub returns : goal.returns
returns c =
    count_from_yields_List c.filter.result _ c.count.ensures.ran
    (YieldsList-from_filter _ is_strange
    (YieldsList-from_slice_split _ (λ byte. byte == 10) c.args.text.now (cc) (cc) (cc)
    (λ x b q k. search (rules, tests)))
    c.filter.ensures.closure (λ x r q k. search (rules, tests)))
