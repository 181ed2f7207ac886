use Rattle.std.proofs.Common.{◌≡◌, ℕ, List, Option, false}
use Rattle.tpm_bytes.specs.Tap.{device_of}
use Rattle.tpmsim_script.specs.Answers.{printout}
use Rattle.tpmsim_script.specs.Lines.{Agrees, text_left}
use Rattle.tpmsim_script.specs.Player.{playing_of}
use Rattle.tpmsim_script.specs.Script.{Plays}
use Rattle.tpmsim_script.proofs.Plays.{Leads}
use Rattle.tpmsim_script.specs.Keeping.{kept_playing}
use Rattle.tpmsim_script.proofs.Keeping.{SoFar}
use Rattle.tpmsim_script.proofs.run.Run.lines.Given as goal

-- If allocations never fail, playing the remaining lines completes the run, and the saver was
-- notified of each line so far.
abbrev pub invariant-loop-number : goal.invariant-loop-number
invariant-loop-number g l =
    let remaining = g.R.Read.remaining in
    let contents = g.W.Write.contents in
    let record_of = g.K.Keep.record_of in
    record {
      whole : g.K.Keep.can_refuse ≡ false → (new : Option (List ℕ)) (bad : Option ℕ)
          → Plays (text_left (remaining (device_of l.reader)) l.self.lines)
          (printout (contents (device_of l.writer)) l.self.player.answers) new
          (playing_of record_of l.self.player) l.number bad
          → Plays (text_left (remaining (device_of l.fn.reader)) l.fn.self.lines)
          (printout (contents (device_of l.fn.writer)) l.fn.self.player.answers) new
          (playing_of record_of l.fn.self.player) 1 bad;
      leads : g.K.Keep.can_refuse ≡ false → (new : Option (List ℕ))
          → Leads (text_left (remaining (device_of l.reader)) l.self.lines)
          (printout (contents (device_of l.writer)) l.self.player.answers)
          (playing_of record_of l.self.player) l.number
          (text_left (remaining (device_of l.fn.reader)) l.fn.self.lines)
          (printout (contents (device_of l.fn.writer)) l.fn.self.player.answers)
          (playing_of record_of l.fn.self.player) new;
      keeps : g.K.Keep.can_refuse ≡ false
          → SoFar g.S.Saver.saves g.S.Saver.saves_change
          (text_left (remaining (device_of l.fn.reader)) l.fn.self.lines)
          (text_left (remaining (device_of l.reader)) l.self.lines)
          (printout (contents (device_of l.fn.writer)) l.fn.self.player.answers)
          (printout (contents (device_of l.writer)) l.self.player.answers) l.number
          (kept_playing (playing_of record_of l.fn.self.player) l.fn.saver)
          (kept_playing (playing_of record_of l.self.player) l.saver);
      agrees : Agrees (remaining (device_of l.reader)) l.self.lines;
    }
