use Rattle.tpm_bytes.specs.Tap.{device_of}
use Rattle.std.proofs.Common.{[]}
use Rattle.std.specs.Io.KnownBytes.{append_known}
use Rattle.tpmsim_script.specs.Answers.{CutOff, backlog}
use Rattle.tpmsim_script.proofs.CutText.{cut_writing, on_err}
use Rattle.tpmsim_script.proofs.Written.{written}
use Rattle.tpmsim_script.proofs.answers.Answers.write.Goals as goal

pub returns-clause-printed : goal.returns-clause-printed
returns-clause-printed g c =
    let contents = g.W.Write.contents in
    written (contents (device_of c.args.writer.now)) (contents (device_of c.write_all.new.self))
    (backlog c.args.self.now) (rw c.deref.ensures.value at c.in_ok-write_all.ensures.sent)

pub returns-in_err-write_all-clause-cut_off : goal.returns-in_err-write_all-clause-cut_off
returns-in_err-write_all-clause-cut_off g c =
    let contents = g.W.Write.contents in
    let cut = cut_writing (contents (device_of c.args.writer.now))
    (contents (device_of c.write_all.new.self)) (backlog c.args.self.now)
    (rw c.deref.ensures.value at c.in_err-write_all.ensures.cut_off) in
    on_err c.from_residual.result
    (CutOff (append_known (contents (device_of c.args.writer.now)) (backlog c.args.self.now))
    (append_known (contents (device_of c.write_all.new.self)) [])) cut
