use Rattle.std.proofs.Common.{◌≡◌, Ok, rules}
use Rattle.tpm_context.proofs.SequenceLaws.{sequence_found_if}
use Rattle.tpm_context.specs.Context.{content_in}
use Rattle.tpm_context.proofs.opening.open_sequence.Goals as goal

pub returns-clause-made : goal.returns-clause-made
returns-clause-made c =
    let head = c.in_ok-head.head in
    let plain = c.as_slice.result.now in
    let content : content_in c.args.hierarchies.now c.args.binding c.args.bytes.now
    ≡ Ok (head, plain) = search rules in
    sequence_found_if c.args.hierarchies.now c.args.binding c.args.bytes.now head plain
    c.sequence_in.result
    c.decrypt_content.ensures.bytes content c.sequence_in.ensures
