use Rattle.std.proofs.Common.{◌≡◌, ◌+◌, refl, ap, length, ◌∙◌, length-append}
use Rattle.tpm_bytes.specs.Tap.{device_of}
use Rattle.tpmsim_script.specs.Lines.{line_of, rest_of, text_left}
use Rattle.tpmsim_script.proofs.LineBreaks.{too_long_left}
use Rattle.tpmsim_script.proofs.Plays.{reads_on, start_lost}
use Rattle.tpmsim_script.proofs.run.Run.next_line.Goals as goal

pub returns-in-TooLong-clause-found : goal.returns-in-TooLong-clause-found
returns-in-TooLong-clause-found g c =
    let remaining = g.R.Read.remaining in
    let lines = c.loop-self.self.lines in (
      refl,
      too_long_left (text_left (remaining (device_of c.args.reader.now)) c.args.self.now.lines)
          (remaining (device_of c.loop-self.reader)) (line_of lines) (rest_of lines)
          c.loop-self.invariant.text c.in-TooLong.ensures.found,
    )

pub loop-self-smaller : goal.loop-self-smaller
loop-self-smaller g c =
    let old = c.loop-self.self.lines in
    let new = c.fill.new.self in
    let found = c.in-Incomplete.ensures.found in
    let longer : length (line_of new) ≡ length (line_of old) + length (rest_of old) =
    ap length c.fill.ensures.line ∙ ap length found.0 ∙ length-append (line_of old) (rest_of old) in
    reads_on old.ended new.ended (length (line_of old)) (length (rest_of old))
    (length (line_of new)) (length (rest_of new)) found.3 longer
    (rw c.fill.ensures.line found.4) (let read = c.in_default.ensures {u = tt} in read.ended)

pub returns-in-Err-clause-read : goal.returns-in-Err-clause-read
returns-in-Err-clause-read g c =
    let old = c.loop-self.self.lines in
    let found = c.in-Incomplete.ensures.found in
    start_lost (text_left (g.R.Read.remaining (device_of c.args.reader.now)) c.args.self.now.lines)
    (g.R.Read.remaining (device_of c.loop-self.reader))
    (g.R.Read.remaining (device_of c.fill.new.reader)) (line_of old) (rest_of old) _
    c.loop-self.invariant.text c.in-Err.ensures.kept found.0 found.2
