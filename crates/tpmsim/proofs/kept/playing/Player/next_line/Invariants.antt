use Rattle.tpmsim_script.specs.Lines.{IsUnbroken, line_of}
use Rattle.tpmsim.proofs.kept.playing.Player.next_line.Given as goal

-- The line so far contains no line end.
abbrev pub invariant-loop : goal.invariant-loop
invariant-loop g l = IsUnbroken (line_of l.lines)
