use Rattle.std.proofs.Common.{rules, length}
use Rattle.std.specs.Int.{w32, to_be_bytes}
use Rattle.tpm_text.specs.Parameter.{list_text}
use Rattle.tpm_text.specs.Pieces.{pieces_of, plus}
use Rattle.tpm_text.proofs.Growing.{drafted_behind}
use Rattle.tpm_text.proofs.list.put_list.Goals as goal

pub returns : goal.returns
unfolding list_text
returns c = drafted_behind (to_be_bytes w32 (length (pieces_of plus c.args.token.now))) _ _ _ _ _
    (search rules) c.put_elements.ensures
