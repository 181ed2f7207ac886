use Rattle.std.proofs.Common.{arith}
use Rattle.std.specs.Prelude.{◌≡◌, Ok, Err, false}
use Rattle.tpm_bytes.specs.Tap.{device_of, marks_of}
use Rattle.tpmsim_script.specs.Answers.{printout}
use Rattle.tpmsim_script.specs.Lines.{line_of, text_left}
use Rattle.tpmsim_script.specs.Keeping.{kept_playing}
use Rattle.tpmsim_script.specs.Player.{playing_of}
use Rattle.tpmsim_script.proofs.Keeping.{ended, ended_at_limit, failed, stopped, told_there, went_on}
use Rattle.tpmsim_script.proofs.Plays.{did_and_went_on, did_there, ended_many, ended_played, ended_read, ended_with_memory, failed_few, failed_read, failed_with_memory, ran_to_fault, ran_to_line, reached_on, stopped_few, stopped_read, stopped_with_memory}
use Rattle.tpmsim_script.proofs.run.Run.lines.Goals as goal

pub returns-in-Err-clause-played : goal.returns-in-Err-clause-played
returns-in-Err-clause-played g c = λ cannot.
    let remaining = g.R.Read.remaining in
    let contents = g.W.Write.contents in
    let record_of = g.K.Keep.record_of in
    let loop = c.loop-number in
    let after = c.next_line.new in
    ran_to_fault (text_left (remaining (device_of loop.reader)) loop.self.lines)
    (printout (contents (device_of loop.writer)) loop.self.player.answers)
    (printout (contents (device_of after.writer)) after.self.player.answers)
    (text_left (remaining (device_of after.reader)) after.self.lines)
    (playing_of record_of loop.self.player) loop.number c.in-Err.fault
    (line_of after.self.lines) _
    c.in-Err.ensures.found c.in-Err.ensures.printed
    (λ bad. loop.invariant.whole cannot
    (printout (contents (device_of after.writer)) after.self.player.answers) bad)

pub returns-in-Err-clause-read : goal.returns-in-Err-clause-read
returns-in-Err-clause-read g c = λ cannot.
    let remaining = g.R.Read.remaining in
    let contents = g.W.Write.contents in
    let record_of = g.K.Keep.record_of in
    let loop = c.loop-number in
    let after = c.next_line.new in
    failed_read (text_left (remaining (device_of loop.reader)) loop.self.lines)
    (remaining (device_of after.reader))
    (printout (contents (device_of loop.writer)) loop.self.player.answers)
    (printout (contents (device_of after.writer)) after.self.player.answers)
    _ _ (playing_of record_of loop.self.player) _ loop.number c.in-Err.fault c.in-Err.ensures.read
    c.in-Err.ensures.printed
    (loop.invariant.leads cannot
    (printout (contents (device_of after.writer)) after.self.player.answers))

pub returns-in-Err-clause-too_many : goal.returns-in-Err-clause-too_many
returns-in-Err-clause-too_many g c = λ cannot.
    let loop = c.loop-number in
    failed_few (text_left (g.R.Read.remaining (device_of loop.reader)) loop.self.lines) _
    loop.number c.in-Err.fault _ _ c.in-Err.ensures.found

pub returns-in-Err-clause-memory : goal.returns-in-Err-clause-memory
returns-in-Err-clause-memory g c =
    let loop = c.loop-number in
    failed_with_memory (text_left (g.R.Read.remaining (device_of loop.reader)) loop.self.lines) _
    loop.number c.in-Err.fault _ c.in-Err.ensures.found

pub returns-in-Err-line-clause-read : goal.returns-in-Err-line-clause-read
returns-in-Err-line-clause-read g c =
    λ cannot. rw c.at.ensures (stopped_read c.loop-number.number c.in-Err-line.fault _)

pub returns-in-Err-line-clause-too_many : goal.returns-in-Err-line-clause-too_many
returns-in-Err-line-clause-too_many g c =
    λ cannot. rw c.at.ensures (stopped_few c.loop-number.number c.in-Err-line.fault _)

pub returns-in-Err-line-clause-memory : goal.returns-in-Err-line-clause-memory
returns-in-Err-line-clause-memory g c =
    rw c.at.ensures (stopped_with_memory c.loop-number.number c.in-Err-line.fault _)

pub returns-clause-played : goal.returns-clause-played
returns-clause-played g c = λ cannot.
    let remaining = g.R.Read.remaining in
    let contents = g.W.Write.contents in
    let loop = c.loop-number in
    let after = c.next_line-next.new in
    rw c.end_at_limit.ensures
    (ended_played (text_left (remaining (device_of loop.reader)) loop.self.lines) _
    (printout (contents (device_of loop.writer)) loop.self.player.answers)
    (printout (contents (device_of after.writer)) after.self.player.answers)
    (playing_of g.K.Keep.record_of loop.self.player) loop.number _ c.next_line-next.result _ _
    c.next_line-next.ensures.found c.next_line-next.ensures.printed
    (λ bad. loop.invariant.whole cannot
    (printout (contents (device_of after.writer)) after.self.player.answers) bad))

pub returns-clause-read : goal.returns-clause-read
returns-clause-read g c = λ cannot.
    let remaining = g.R.Read.remaining in
    let contents = g.W.Write.contents in
    let loop = c.loop-number in
    let after = c.next_line-next.new in
    rw c.end_at_limit.ensures
    (ended_read (text_left (remaining (device_of loop.reader)) loop.self.lines)
    (remaining (device_of after.reader))
    (printout (contents (device_of loop.writer)) loop.self.player.answers)
    (printout (contents (device_of after.writer)) after.self.player.answers)
    _ _ (playing_of g.K.Keep.record_of loop.self.player) _ loop.number c.next_line-next.result
    c.next_line-next.ensures.read c.next_line-next.ensures.printed
    (loop.invariant.leads cannot
    (printout (contents (device_of after.writer)) after.self.player.answers)))

pub returns-clause-too_many : goal.returns-clause-too_many
returns-clause-too_many g c = λ cannot.
    let remaining = g.R.Read.remaining in
    let contents = g.W.Write.contents in
    let loop = c.loop-number in
    let after = c.next_line-next.new in
    rw c.end_at_limit.ensures
    (ended_many (text_left (remaining (device_of loop.reader)) loop.self.lines) _
    (printout (contents (device_of loop.writer)) loop.self.player.answers)
    (printout (contents (device_of after.writer)) after.self.player.answers)
    _ _ (playing_of g.K.Keep.record_of loop.self.player) _ loop.number _ c.next_line-next.result _
    (omega arith) c.next_line-next.ensures.found c.next_line-next.ensures.printed
    (loop.invariant.leads cannot
    (printout (contents (device_of after.writer)) after.self.player.answers)))

pub returns-clause-memory : goal.returns-clause-memory
returns-clause-memory g c =
    let loop = c.loop-number in
    rw c.end_at_limit.ensures
    (ended_with_memory (text_left (g.R.Read.remaining (device_of loop.reader)) loop.self.lines)
    _ _ c.next_line-next.result _ c.next_line-next.ensures.found)

pub returns-in-Err-line-clause-played : goal.returns-in-Err-line-clause-played
returns-in-Err-line-clause-played g c = λ cannot.
    let remaining = g.R.Read.remaining in
    let contents = g.W.Write.contents in
    let record_of = g.K.Keep.record_of in
    let loop = c.loop-number in
    let after = c.next_line.new in
    let last = c.line-in-loop-number.new in
    let did = did_there (playing_of record_of loop.self.player)
    (playing_of record_of after.self.player) (line_of after.self.lines) c.line.result.now
    (printout (contents (device_of after.writer)) after.self.player.answers)
    (Err c.in-Err-line.fault) (printout (contents (device_of last.writer)) last.self.answers)
    (playing_of record_of last.self) c.in-Ok-true.ensures.played c.line.ensures.line
    (c.in-Err-line.ensures.did cannot) in
    rw c.at.ensures (ran_to_line (text_left (remaining (device_of loop.reader)) loop.self.lines)
    (text_left (remaining (device_of after.reader)) after.self.lines)
    (printout (contents (device_of loop.writer)) loop.self.player.answers)
    (printout (contents (device_of after.writer)) after.self.player.answers)
    (printout (contents (device_of last.writer)) last.self.answers)
    (playing_of record_of loop.self.player) (playing_of record_of last.self) loop.number
    (line_of after.self.lines) c.in-Err-line.fault _
    (rw c.in-Ok-true.field-0-test at c.in-Ok-true.ensures.found) c.in-Ok-true.ensures.printed did
    (λ bad. loop.invariant.whole cannot
    (printout (contents (device_of last.writer)) last.self.answers) bad))

pub loop-number-preserved : goal.loop-number-preserved
loop-number-preserved g c =
    let remaining = g.R.Read.remaining in
    let contents = g.W.Write.contents in
    let record_of = g.K.Keep.record_of in
    let loop = c.loop-number in
    let after = c.next_line.new in
    let last = c.line-in-loop-number.new in
    let did = λ (cannot : g.K.Keep.can_refuse ≡ false). did_there
    (playing_of record_of loop.self.player) (playing_of record_of after.self.player)
    (line_of after.self.lines) c.line.result.now
    (printout (contents (device_of after.writer)) after.self.player.answers)
    (Ok tt) (printout (contents (device_of last.writer)) last.self.answers)
    (playing_of record_of last.self) c.in-Ok-true.ensures.played c.line.ensures.line
    (c.in_default.ensures.did cannot) in
    record {
      whole = λ cannot new bad rest. loop.invariant.whole cannot new bad
          (did_and_went_on (text_left (remaining (device_of loop.reader)) loop.self.lines)
          (text_left (remaining (device_of after.reader)) after.self.lines)
          (printout (contents (device_of loop.writer)) loop.self.player.answers)
          (printout (contents (device_of after.writer)) after.self.player.answers)
          (printout (contents (device_of last.writer)) last.self.answers) new
          (playing_of record_of loop.self.player) (playing_of record_of last.self) loop.number
          (line_of after.self.lines) _ bad
          (rw c.in-Ok-true.field-0-test at c.in-Ok-true.ensures.found) c.in-Ok-true.ensures.printed
          (did cannot) rest);
      leads = λ cannot new next behind rest. loop.invariant.leads cannot new next behind
          (reached_on (text_left (remaining (device_of loop.reader)) loop.self.lines)
          (text_left (remaining (device_of after.reader)) after.self.lines)
          (printout (contents (device_of loop.writer)) loop.self.player.answers)
          (printout (contents (device_of after.writer)) after.self.player.answers)
          (printout (contents (device_of last.writer)) last.self.answers) new
          (playing_of record_of loop.self.player) (playing_of record_of last.self) loop.number
          (line_of after.self.lines) _ next behind
          (rw c.in-Ok-true.field-0-test at c.in-Ok-true.ensures.found) c.in-Ok-true.ensures.printed
          (did cannot) rest);
      keeps = λ cannot. went_on g.S.Saver.saves g.S.Saver.saves_change _
          (text_left (remaining (device_of loop.reader)) loop.self.lines)
          (text_left (remaining (device_of after.reader)) after.self.lines) _
          (printout (contents (device_of loop.writer)) loop.self.player.answers)
          (printout (contents (device_of after.writer)) after.self.player.answers)
          (printout (contents (device_of last.writer)) last.self.answers)
          loop.number _ (kept_playing (playing_of record_of loop.self.player) loop.saver)
          (playing_of record_of last.self) last.saver (line_of after.self.lines) _
          (loop.invariant.keeps cannot) (rw c.in-Ok-true.field-0-test at c.in-Ok-true.ensures.found)
          c.in-Ok-true.ensures.printed (did cannot)
          (told_there g.S.Saver.saves g.S.Saver.saves_change (line_of after.self.lines)
          c.line.result.now (playing_of record_of last.self).device loop.saver (Ok tt)
          last.saver c.line.ensures.line c.in_default.ensures.told);
      agrees = c.in-Ok-true.ensures.agrees;
    }

pub returns-in-Err-clause-kept : goal.returns-in-Err-clause-kept
returns-in-Err-clause-kept g c = λ cannot.
    let remaining = g.R.Read.remaining in
    let contents = g.W.Write.contents in
    let record_of = g.K.Keep.record_of in
    let loop = c.loop-number in
    let after = c.next_line.new in
    failed g.S.Saver.saves g.S.Saver.saves_change _ (remaining (device_of after.reader))
    (text_left (remaining (device_of loop.reader)) loop.self.lines)
    (text_left (remaining (device_of after.reader)) after.self.lines) _
    (printout (contents (device_of loop.writer)) loop.self.player.answers)
    (printout (contents (device_of after.writer)) after.self.player.answers)
    (marks_of after.writer) loop.number _
    (kept_playing (playing_of record_of loop.self.player) loop.saver)
    (playing_of record_of after.self.player) c.in-Err.fault (line_of after.self.lines)
    (loop.invariant.keeps cannot) c.in-Err.ensures.found c.in-Err.ensures.printed
    c.in-Err.ensures.read c.in-Err.ensures.cut_off c.in-Err.ensures.played

pub returns-clause-kept : goal.returns-clause-kept
returns-clause-kept g c = λ cannot.
    let remaining = g.R.Read.remaining in
    let contents = g.W.Write.contents in
    let record_of = g.K.Keep.record_of in
    let loop = c.loop-number in
    let after = c.next_line-next.new in
    rw c.end_at_limit.ensures
    (ended_at_limit g.S.Saver.saves g.S.Saver.saves_change _
    (remaining (device_of after.reader))
    (text_left (remaining (device_of loop.reader)) loop.self.lines)
    (text_left (remaining (device_of after.reader)) after.self.lines) _
    (printout (contents (device_of loop.writer)) loop.self.player.answers)
    (printout (contents (device_of after.writer)) after.self.player.answers)
    (marks_of after.writer) loop.number _ _
    (kept_playing (playing_of record_of loop.self.player) loop.saver)
    (playing_of record_of after.self.player) c.next_line-next.result (line_of after.self.lines)
    (omega arith) (loop.invariant.keeps cannot) c.next_line-next.ensures.found
    c.next_line-next.ensures.printed c.next_line-next.ensures.read
    c.next_line-next.ensures.cut_off c.next_line-next.ensures.played)

pub returns-in-Err-line-clause-kept : goal.returns-in-Err-line-clause-kept
returns-in-Err-line-clause-kept g c = λ cannot.
    let remaining = g.R.Read.remaining in
    let contents = g.W.Write.contents in
    let record_of = g.K.Keep.record_of in
    let loop = c.loop-number in
    let after = c.next_line.new in
    let last = c.line-in-loop-number.new in
    let did = did_there (playing_of record_of loop.self.player)
    (playing_of record_of after.self.player) (line_of after.self.lines) c.line.result.now
    (printout (contents (device_of after.writer)) after.self.player.answers)
    (Err c.in-Err-line.fault) (printout (contents (device_of last.writer)) last.self.answers)
    (playing_of record_of last.self) c.in-Ok-true.ensures.played c.line.ensures.line
    (c.in-Err-line.ensures.did cannot) in
    rw c.at.ensures
    (stopped g.S.Saver.saves g.S.Saver.saves_change _ _
    (text_left (remaining (device_of loop.reader)) loop.self.lines)
    (text_left (remaining (device_of after.reader)) after.self.lines) _
    (printout (contents (device_of loop.writer)) loop.self.player.answers)
    (printout (contents (device_of after.writer)) after.self.player.answers)
    (printout (contents (device_of last.writer)) last.self.answers) (marks_of last.writer)
    loop.number _
    (kept_playing (playing_of record_of loop.self.player) loop.saver)
    (playing_of record_of last.self) last.saver (line_of after.self.lines) c.in-Err-line.fault
    (loop.invariant.keeps cannot)
    (rw c.in-Ok-true.field-0-test at c.in-Ok-true.ensures.found) c.in-Ok-true.ensures.printed did
    (told_there g.S.Saver.saves g.S.Saver.saves_change (line_of after.self.lines) c.line.result.now
    (playing_of record_of last.self).device loop.saver (Err c.in-Err-line.fault) last.saver
    c.line.ensures.line c.in-Err-line.ensures.told))

pub returns-in-Ok-false-clause-kept : goal.returns-in-Ok-false-clause-kept
returns-in-Ok-false-clause-kept g c = λ cannot.
    let remaining = g.R.Read.remaining in
    let contents = g.W.Write.contents in
    let record_of = g.K.Keep.record_of in
    let loop = c.loop-number in
    let after = c.next_line.new in
    ended g.S.Saver.saves g.S.Saver.saves_change _ (remaining (device_of after.reader))
    (text_left (remaining (device_of loop.reader)) loop.self.lines) _
    (printout (contents (device_of loop.writer)) loop.self.player.answers)
    (printout (contents (device_of after.writer)) after.self.player.answers) loop.number _
    (kept_playing (playing_of record_of loop.self.player) loop.saver)
    (playing_of record_of after.self.player) (loop.invariant.keeps cannot)
    (rw c.in-Ok-false.field-0-test at c.in-Ok-false.ensures.found) c.in-Ok-false.ensures.printed
    c.in-Ok-false.ensures.played
