use Rattle.std.proofs.Common.{rules, ◌≡◌, ◌∙◌, sym, ap, subst, OnOk}
use Rattle.std.specs.Io.KnownBytes.{Keeps}
use Rattle.tpm_bytes.specs.Tap.{device_of, marks_of}
use Rattle.tpm_machine.specs.State.{state_of}
use Rattle.tpm_record.specs.Record.{Record}
use Rattle.tpmsim_script.specs.Answers.{CutOff, backlog, printout}
use Rattle.tpmsim_script.specs.Keeping.{kept_playing}
use Rattle.tpmsim_script.specs.Lines.{rest_of, text_left}
use Rattle.tpmsim_script.specs.Player.{playing_of}
use Rattle.tpmsim_script.specs.Script.{Playing, at_first}
use Rattle.tpmsim_script.proofs.Keeping.{begun_at, ran_unsaved, ran_unwritten, ran_well}
use Rattle.tpmsim_script.proofs.Plays.{nothing_before, nothing_behind, ran_too_many, ran_unread, theirs_yet}
use Rattle.tpmsim_script.proofs.run.run_device.Goals as goal

pub returns-clause-read : goal.returns-clause-read
returns-clause-read g c = λ cannot.
    let remaining = g.R.Read.remaining in
    let contents = g.W.Write.contents in
    let run = c.in_ok-run.run' in
    let last = c.lines-outcome.new in
    let flushed = c.flush-flushed.new in
    ran_unread (text_left (remaining (device_of c.args.reader.now)) run.lines)
    (remaining (device_of c.args.reader.now)) (remaining (device_of last.reader))
    (printout (contents (device_of c.args.writer.now)) run.player.answers)
    (contents (device_of c.args.writer.now))
    (printout (contents (device_of last.writer)) last.self.player.answers)
    (printout (contents (device_of flushed.writer)) flushed.self.answers)
    (contents (device_of flushed.writer)) (playing_of g.K.Keep.record_of run.player)
    (at_first c.args.trace (state_of g.K.Keep.record_of c.args.machine)) c.lines-outcome.result
    (nothing_before (remaining (device_of c.args.reader.now)) (rest_of run.lines)
    c.in_ok-run.ensures.lines)
    (nothing_behind (contents (device_of c.args.writer.now)) (backlog run.player.answers)
    c.in_ok-run.ensures.answers)
    c.in_ok-run.ensures.playing c.in_ok-flushed.ensures.printed
    (nothing_behind (contents (device_of flushed.writer)) (backlog flushed.self.answers)
    c.in_ok-flushed.ensures.empty) (c.lines-outcome.ensures.read cannot)

pub returns-clause-too_many : goal.returns-clause-too_many
returns-clause-too_many g c = λ cannot.
    let remaining = g.R.Read.remaining in
    let contents = g.W.Write.contents in
    let run = c.in_ok-run.run' in
    let last = c.lines-outcome.new in
    let flushed = c.flush-flushed.new in
    ran_too_many (text_left (remaining (device_of c.args.reader.now)) run.lines)
    (remaining (device_of c.args.reader.now))
    (printout (contents (device_of c.args.writer.now)) run.player.answers)
    (contents (device_of c.args.writer.now))
    (printout (contents (device_of last.writer)) last.self.player.answers)
    (printout (contents (device_of flushed.writer)) flushed.self.answers)
    (contents (device_of flushed.writer)) (playing_of g.K.Keep.record_of run.player)
    (at_first c.args.trace (state_of g.K.Keep.record_of c.args.machine)) c.lines-outcome.result
    (nothing_before (remaining (device_of c.args.reader.now)) (rest_of run.lines)
    c.in_ok-run.ensures.lines)
    (nothing_behind (contents (device_of c.args.writer.now)) (backlog run.player.answers)
    c.in_ok-run.ensures.answers)
    c.in_ok-run.ensures.playing c.in_ok-flushed.ensures.printed
    (nothing_behind (contents (device_of flushed.writer)) (backlog flushed.self.answers)
    c.in_ok-flushed.ensures.empty) (c.lines-outcome.ensures.too_many cannot)

pub returns-clause-failed : goal.returns-clause-failed
returns-clause-failed g c =
    theirs_yet c.lines-outcome.result (marks_of c.lines-outcome.new.reader)
    (marks_of c.lines-outcome.new.writer) (marks_of c.flush-flushed.new.writer)
    (g.S.Saver.has_failed c.lines-outcome.new.saver) (g.S.Saver.has_failed c.save.new.self)
    c.in_ok-flushed.ensures.unmarked c.save.ensures.stays c.lines-outcome.ensures.failed

pub returns-in_default-clause-kept : goal.returns-in_default-clause-kept
returns-in_default-clause-kept g c = λ cannot.
    let remaining = g.R.Read.remaining in
    let contents = g.W.Write.contents in
    let record_of = g.K.Keep.record_of in
    let saves = g.S.Saver.saves in
    let saves_change = g.S.Saver.saves_change in
    let run = c.in_ok-run.run' in
    let last = c.lines-outcome.new in
    let flushed = c.flush-flushed.new in
    let text = remaining (device_of c.args.reader.now) in
    let left = remaining (device_of last.reader) in
    let old = contents (device_of c.args.writer.now) in
    let mid = printout (contents (device_of last.writer)) last.self.player.answers in
    let new = contents (device_of flushed.writer) in
    let first = at_first c.args.trace (state_of record_of c.args.machine) in
    let at = kept_playing (playing_of record_of last.self.player) last.saver in
    let played = begun_at saves saves_change (text_left text run.lines) text left
    (printout old run.player.answers) old mid (marks_of last.writer)
    (playing_of record_of run.player) first c.args.saver.now c.lines-outcome.result
    (λ end. end ≡ at)
    (nothing_before text (rest_of run.lines) c.in_ok-run.ensures.lines)
    (nothing_behind old (backlog run.player.answers) c.in_ok-run.ensures.answers)
    c.in_ok-run.ensures.playing (c.lines-outcome.ensures.kept cannot) in
    let written : printout new flushed.self.answers ≡ new =
    nothing_behind new (backlog flushed.self.answers) c.flush-flushed.ensures.empty in
    ran_unsaved saves saves_change text left old mid new (marks_of last.reader)
    (marks_of last.writer) (marks_of flushed.writer) (g.S.Saver.has_failed last.saver)
    (kept_playing first c.args.saver.now) at c.lines-outcome.result c.flush-flushed.result
    (λ end. saves end.saver end.playing.device c.save.new.self) played
    c.lines-outcome.ensures.failed c.lines-outcome.ensures.memory
    (subst (λ x. OnOk c.flush-flushed.result (Keeps mid x)) written c.flush-flushed.ensures.printed)
    c.flush-flushed.ensures.unmarked c.flush-flushed.ensures.failed

pub returns-then-is_unsaved-clause-kept : goal.returns-then-is_unsaved-clause-kept
returns-then-is_unsaved-clause-kept g c = λ cannot.
    let remaining = g.R.Read.remaining in
    let contents = g.W.Write.contents in
    let record_of = g.K.Keep.record_of in
    let saves = g.S.Saver.saves in
    let saves_change = g.S.Saver.saves_change in
    let run = c.in_ok-run.run' in
    let last = c.lines-outcome.new in
    let flushed = c.flush-flushed.new in
    let text = remaining (device_of c.args.reader.now) in
    let left = remaining (device_of last.reader) in
    let old = contents (device_of c.args.writer.now) in
    let mid = printout (contents (device_of last.writer)) last.self.player.answers in
    let new = contents (device_of flushed.writer) in
    let first = at_first c.args.trace (state_of record_of c.args.machine) in
    let at = kept_playing (playing_of record_of last.self.player) last.saver in
    let played = begun_at saves saves_change (text_left text run.lines) text left
    (printout old run.player.answers) old mid (marks_of last.writer)
    (playing_of record_of run.player) first c.args.saver.now c.lines-outcome.result
    (λ end. end ≡ at)
    (nothing_before text (rest_of run.lines) c.in_ok-run.ensures.lines)
    (nothing_behind old (backlog run.player.answers) c.in_ok-run.ensures.answers)
    c.in_ok-run.ensures.playing (c.lines-outcome.ensures.kept cannot) in
    let written : printout new flushed.self.answers ≡ new =
    nothing_behind new (backlog flushed.self.answers) c.flush-flushed.ensures.empty in
    ran_unsaved saves saves_change text left old mid new (marks_of last.reader)
    (marks_of last.writer) (marks_of flushed.writer) (g.S.Saver.has_failed last.saver)
    (kept_playing first c.args.saver.now) at c.lines-outcome.result c.flush-flushed.result
    (λ end. saves end.saver end.playing.device c.save.new.self) played
    c.lines-outcome.ensures.failed c.lines-outcome.ensures.memory
    (subst (λ x. OnOk c.flush-flushed.result (Keeps mid x)) written c.flush-flushed.ensures.printed)
    c.flush-flushed.ensures.unmarked c.flush-flushed.ensures.failed

pub returns-in_err-flushed-clause-kept : goal.returns-in_err-flushed-clause-kept
returns-in_err-flushed-clause-kept g c = λ cannot.
    let remaining = g.R.Read.remaining in
    let contents = g.W.Write.contents in
    let record_of = g.K.Keep.record_of in
    let saves = g.S.Saver.saves in
    let saves_change = g.S.Saver.saves_change in
    let run = c.in_ok-run.run' in
    let last = c.lines-outcome.new in
    let flushed = c.flush-flushed.new in
    let text = remaining (device_of c.args.reader.now) in
    let left = remaining (device_of last.reader) in
    let old = contents (device_of c.args.writer.now) in
    let mid = printout (contents (device_of last.writer)) last.self.player.answers in
    let new = contents (device_of flushed.writer) in
    let first = at_first c.args.trace (state_of record_of c.args.machine) in
    let at = kept_playing (playing_of record_of last.self.player) last.saver in
    let played = begun_at saves saves_change (text_left text run.lines) text left
    (printout old run.player.answers) old mid (marks_of last.writer)
    (playing_of record_of run.player) first c.args.saver.now c.lines-outcome.result
    (λ end. end ≡ at)
    (nothing_before text (rest_of run.lines) c.in_ok-run.ensures.lines)
    (nothing_behind old (backlog run.player.answers) c.in_ok-run.ensures.answers)
    c.in_ok-run.ensures.playing (c.lines-outcome.ensures.kept cannot) in
    let written : printout new flushed.self.answers ≡ new =
    nothing_behind new (backlog flushed.self.answers) c.flush-flushed.ensures.empty in
    let device = ap (state_of record_of) c.machine.ensures
    ∙ ap (λ (p : Playing). p.device) c.flush-flushed.ensures.playing in
    let told = subst (λ (d : Record). saves last.saver d c.save.new.self) device
    c.in-Ok.ensures.told in
    ran_unwritten saves saves_change text left old mid new (marks_of last.writer)
    (marks_of flushed.writer) (kept_playing first c.args.saver.now) at c.lines-outcome.result
    c.from_residual-in_err-flushed.result
    (λ end. saves end.saver end.playing.device c.save.new.self) (search rules) played
    (sym c.is_unsaved.ensures ∙ c.if-is_unsaved.false) c.lines-outcome.ensures.memory
    (subst (CutOff mid) written c.in_err-flushed.ensures.cut_off) told

pub returns-clause-kept : goal.returns-clause-kept
returns-clause-kept g c = λ cannot.
    let remaining = g.R.Read.remaining in
    let contents = g.W.Write.contents in
    let record_of = g.K.Keep.record_of in
    let saves = g.S.Saver.saves in
    let saves_change = g.S.Saver.saves_change in
    let run = c.in_ok-run.run' in
    let last = c.lines-outcome.new in
    let flushed = c.flush-flushed.new in
    let text = remaining (device_of c.args.reader.now) in
    let left = remaining (device_of last.reader) in
    let old = contents (device_of c.args.writer.now) in
    let mid = printout (contents (device_of last.writer)) last.self.player.answers in
    let new = contents (device_of flushed.writer) in
    let first = at_first c.args.trace (state_of record_of c.args.machine) in
    let at = kept_playing (playing_of record_of last.self.player) last.saver in
    let played = begun_at saves saves_change (text_left text run.lines) text left
    (printout old run.player.answers) old mid (marks_of last.writer)
    (playing_of record_of run.player) first c.args.saver.now c.lines-outcome.result
    (λ end. end ≡ at)
    (nothing_before text (rest_of run.lines) c.in_ok-run.ensures.lines)
    (nothing_behind old (backlog run.player.answers) c.in_ok-run.ensures.answers)
    c.in_ok-run.ensures.playing (c.lines-outcome.ensures.kept cannot) in
    let written : printout new flushed.self.answers ≡ new =
    nothing_behind new (backlog flushed.self.answers) c.flush-flushed.ensures.empty in
    let device = ap (state_of record_of) c.machine.ensures
    ∙ ap (λ (p : Playing). p.device) c.flush-flushed.ensures.playing in
    let told = subst (λ (d : Record). saves last.saver d c.save.new.self) device
    c.in-Ok.ensures.told in
    ran_well saves saves_change text left old mid new (marks_of last.writer)
    (marks_of flushed.writer) (kept_playing first c.args.saver.now) at c.lines-outcome.result
    (λ end. saves end.saver end.playing.device c.save.new.self) played
    (subst (Keeps mid) written c.in_ok-flushed.ensures.printed) c.in_ok-flushed.ensures.unmarked
    told
