use Rattle.tpmsim_library.proofs.Numbers.{told_numbers, inner_numbers}
use Rattle.tpmsim_library.proofs.number_laws.result_laws.Goals as goal

pub returns-clause-told : goal.returns-clause-told
returns-clause-told c = told_numbers

pub returns-clause-inner : goal.returns-clause-inner
returns-clause-inner c = inner_numbers
