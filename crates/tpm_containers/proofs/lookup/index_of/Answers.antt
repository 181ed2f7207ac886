use Rattle.std.proofs.Common.{is_some, ap, ◌∙◌}
use Rattle.tpm_containers.proofs.KeyIndex.{at_key_there, read_where, written_where}
use Rattle.tpm_containers.proofs.lookup.index_of.Goals as goal

pub returns-clause-there : goal.returns-clause-there
returns-clause-there g c =
    ap is_some c.first_with.ensures.value ∙ at_key_there c.args.entries.now c.args.key

pub returns-clause-read : goal.returns-clause-read
returns-clause-read g c =
    read_where c.args.entries.now c.args.key c.first_with.result c.first_with.ensures.value

pub returns-clause-written : goal.returns-clause-written
returns-clause-written g c =
    written_where c.args.entries.now c.args.key c.first_with.result c.first_with.ensures.value
