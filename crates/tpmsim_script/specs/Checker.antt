-- The state of a checker.
use Rattle.std.specs.Prelude.{ℕ}
use Rattle.tpmsim_script.specs.declared.checker.Checker.{Checker}

-- the number of milliseconds waited since the last command, after all lines checked so far
abbrev pub waited_of : Checker → ℕ
waited_of checker = checker.script.waited
