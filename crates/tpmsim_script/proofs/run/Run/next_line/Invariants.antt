use Rattle.std.proofs.Common.{◌≡◌, ◌+◌, ◌-◌, ◌*◌, ◌++◌, cond, length}
use Rattle.std.specs.Io.KnownBytes.{Keeps, prepend_known}
use Rattle.tpm_bytes.specs.Tap.{device_of}
use Rattle.tpmsim_script.specs.Answers.{printout}
use Rattle.tpmsim_script.specs.Lines.{Agrees, IsUnbroken, line_of, rest_of, text_left}
use Rattle.tpmsim_script.specs.Player.{playing_of}
use Rattle.tpmsim_script.proofs.run.Run.next_line.Given as goal

-- The line so far, followed by the rest of the text, is the text that remained before this search.
-- No output is lost.
abbrev pub invariant-loop-self : goal.invariant-loop-self
invariant-loop-self g l =
    record {
      playing : playing_of g.K.Keep.record_of l.self.player
          ≡ playing_of g.K.Keep.record_of l.fn.self.player;
      unbroken : IsUnbroken (line_of l.self.lines);
      text : Keeps (text_left (g.R.Read.remaining (device_of l.fn.reader)) l.fn.self.lines)
          (prepend_known (line_of l.self.lines ++ rest_of l.self.lines)
          (g.R.Read.remaining (device_of l.reader)));
      agrees : Agrees (g.R.Read.remaining (device_of l.reader)) l.self.lines;
      printed : Keeps
          (printout (g.W.Write.contents (device_of l.fn.writer)) l.fn.self.player.answers)
          (printout (g.W.Write.contents (device_of l.writer)) l.self.player.answers);
    }

-- Each read after the first one makes the line longer, or is the last read.
abbrev pub decreases-loop-self : goal.decreases-loop-self
decreases-loop-self g l =
    cond l.self.lines.ended 0
    (1 + (2 * (65536 - length (line_of l.self.lines)) + (1 - length (rest_of l.self.lines))))
