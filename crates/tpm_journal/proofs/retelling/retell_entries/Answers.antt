use Rattle.std.proofs.Common.{rules, arith}
use Rattle.tpm_journal.proofs.retelling.Entries.{long_enough, told_torn, told_damaged, told_more, told_none, told_otherwise}
use Rattle.tpm_journal.proofs.retelling.Words.{can_be_told}
use Rattle.tpm_journal.proofs.retelling.retell_entries.Goals as goal

pub loop-entry-init : goal.loop-entry-init
loop-entry-init g c = told_none _ _ _ _ _ _

pub split_at-requires : goal.split_at-requires
split_at-requires g c = c.loop-entry.invariant.repeats.within

pub put_entry-requires-clause-told : goal.put_entry-requires-clause-told
put_entry-requires-clause-told g c = can_be_told _ _ _ _ _ _ c.in-Executed.ensures.performed

pub put_entry-requires-clause-long : goal.put_entry-requires-clause-long
put_entry-requires-clause-long g c = long_enough _ _ _ _ _ _ _ _ c.in-Executed.ensures

pub loop-entry-smaller : goal.loop-entry-smaller
loop-entry-smaller g c =
    let some = long_enough _ _ _ _ _ _ _ _ c.in-Executed.ensures in
    let within = c.in-Executed.ensures.within in
    let back = c.split_at.ensures.back_len in
    omega (arith, some, within, back, c.loop-entry.invariant.repeats.within)

pub loop-entry-preserved : goal.loop-entry-preserved
loop-entry-preserved g c =
    told_more _ _ _ _ _ _ _ _ _ _ _ _ _ _ _ c.split_at.ensures.back c.loop-entry.invariant
    c.in-Executed.ensures (search rules)

pub put_entry-requires-in-Otherwise-clause-told :
    goal.put_entry-requires-in-Otherwise-clause-told
put_entry-requires-in-Otherwise-clause-told g c =
    can_be_told _ _ _ _ _ _ c.in-Otherwise.ensures.performed

pub put_entry-requires-in-Otherwise-clause-long :
    goal.put_entry-requires-in-Otherwise-clause-long
put_entry-requires-in-Otherwise-clause-long g c = long_enough _ _ _ _ _ _ _ _ c.in-Otherwise.ensures

pub returns-in-Otherwise-clause-told : goal.returns-in-Otherwise-clause-told
returns-in-Otherwise-clause-told g c =
    told_otherwise _ _ _ _ _ _ _ _ _ _ _ _ _ _ _ _ c.split_at.ensures.back c.ended.ensures
    c.loop-entry.invariant c.in-Otherwise.ensures (search rules)

pub returns-in-Torn-clause-told : goal.returns-in-Torn-clause-told
returns-in-Torn-clause-told g c =
    told_torn _ _ _ _ _ _ _ _ _ _ _ _ _ _ c.split_at.ensures.back c.ended-in-Torn.ensures
    c.loop-entry.invariant c.in-Torn.ensures

pub returns-in-Damaged-clause-told : goal.returns-in-Damaged-clause-told
returns-in-Damaged-clause-told g c =
    told_damaged _ _ _ _ _ _ _ _ _ _ _ _ _ _ c.split_at.ensures.back c.ended-in-Damaged.ensures
    c.loop-entry.invariant c.in-Damaged.ensures
