use Rattle.std.proofs.Common.{◌∙◌, ap, rules, sym}
use Rattle.std.proofs.lemmas.List.{take_rest}
use Rattle.tpm_hash_state.proofs.Absorbing.{absorbed_none, absorbed_rest}
use Rattle.tpm_hash_state.proofs.state.HashState.absorb.Goals as goal
use Rattle.tpm_hash_state.specs.State.{state_after_bytes}

pub loop-rest-preserved : goal.loop-rest-preserved
loop-rest-preserved c =
    let rest = c.loop-rest.rest.now in
    let count = c.min-count.result in
    ap (state_after_bytes c.absorb_piece.new.self) (take_rest rest count)
    ∙ absorbed_rest c.loop-rest.self c.absorb_piece.new.self rest count c.absorb_piece.ensures
    ∙ c.loop-rest.invariant

pub returns : goal.returns
returns c =
    sym (absorbed_none c.loop-rest.self c.loop-rest.rest.now (search rules))
    ∙ c.loop-rest.invariant
