use Rattle.std.proofs.Common.{rules, tests, ◌==◌, ◌+◌}
use Rattle.std.proofs.lemmas.Iterator.{YieldsList-from_take}
use Rattle.std.proofs.lemmas.Iterator.Adapters.{YieldsList-from_skip}
use Rattle.std.proofs.lemmas.Iterator.Consumers.{count_from_yields_List}
use Rattle.std.proofs.lemmas.Iterator.Search.{YieldsList-from_take_while}
use Rattle.std.proofs.lemmas.Iterator.Splits.{YieldsList-from_slice_split}
use Rattle.tpm_text.specs.Entry.{begins_entry}
use Rattle.tpm_text.specs.Pieces.{space}
use Rattle.tpm_commands.specs.CommandCode.{handle_count}
use Rattle.tpm_help.proofs.wanted.entry_count.Goals as goal

pub returns : goal.returns
returns c =
    count_from_yields_List c.take_while.result _ c.count.ensures.ran
    (YieldsList-from_take_while _ begins_entry
    (YieldsList-from_take 3
    (YieldsList-from_skip (handle_count c.args.code + 1)
    (YieldsList-from_slice_split _ (λ byte. byte == space) c.args.words.now (cc) (cc) (cc)
    (λ x b q k. search (rules, tests)))
    (cc))
    (cc))
    c.take_while.ensures.closure c.take_while.ensures.done (λ x b q k. search (rules, tests)))
