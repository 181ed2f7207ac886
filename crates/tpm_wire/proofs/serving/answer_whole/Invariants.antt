use Rattle.std.proofs.Common.{◌≡◌, ◌+◌, ◌≤◌, List, length}
use denote.Param.Always.{always_mut}
use Rattle.std.specs.Io.KnownBytes.{Appends}
use Rattle.tpm_bytes.specs.Tap.{device_of, marks_of}
use Rattle.tpm_machine.specs.State.{state_of}
use Rattle.tpm_machine.specs.Executions.{Execution, Leads}
use Rattle.tpm_wire.specs.Serve.{AsksForEach, NotesEach, buffers_of, responses_of}
use Rattle.tpm_wire.specs.Stream.{CutsTo}
use Rattle.tpm_wire.proofs.serving.answer_whole.Given as goal

abbrev pub invariant-loop-front : goal.invariant-loop-front
invariant-loop-front g l =
    let record_of = g.K.Keep.record_of in
    record {
      callable : always_mut g.H.FnMut l.host;
      count : l.answered + length l.connection.taken ≤ length l.fn.connection.taken;
      ran : (executions : List Execution)
          × Leads g.K.Keep.can_refuse (state_of record_of l.fn.machine) executions
          (state_of record_of l.machine)
          × AsksForEach g.H.FnMut l.fn.host executions l.host
          × CutsTo l.fn.connection (buffers_of executions) l.connection
          × (l.answered ≡ length executions)
          × Appends (g.W.Write.contents (device_of l.fn.writer))
          (g.W.Write.contents (device_of l.writer)) (responses_of executions)
          × (marks_of l.writer ≡ marks_of l.fn.writer)
          × NotesEach g.S.Witness.notes l.fn.witness executions l.witness;
    }

abbrev pub decreases-loop-front : goal.decreases-loop-front
decreases-loop-front g l = length l.connection.taken
