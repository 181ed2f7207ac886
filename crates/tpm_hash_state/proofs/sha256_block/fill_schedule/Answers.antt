use Rattle.std.proofs.Common.{◌≡◌, ◌∙◌, arith, rules, sym}
use Rattle.std.proofs.lemmas.List.{length-set, take_all}
use Rattle.tpm_hash_state.proofs.Words256.{schedule_more, schedule_none}
use Rattle.tpm_hash_state.proofs.sha256_block.fill_schedule.Goals as goal

pub loop-t-init : goal.loop-t-init
loop-t-init c = (search rules, schedule_none _ c.args.block.now c.load_block.ensures)

pub loop-t-preserved : goal.loop-t-preserved
loop-t-preserved c =
    let sized = c.loop-t.invariant.0 in (
      search (rules, length-set),
      schedule_more c.loop-t.words c.args.block.now c.loop-t.t _ (omega arith) (omega arith)
          c.loop-t.invariant.1 c.next_word.ensures,
    )

pub returns : goal.returns
returns c =
    let sized = c.loop-t.invariant.0 in
    let end : c.loop-t.t ≡ 64 = omega arith in
    sym (take_all 64 c.loop-t.words (omega arith)) ∙ rw end at c.loop-t.invariant.1
