use Rattle.tpm_types_common.specs.Limits.{buffer_limit}
use Rattle.std.proofs.Common.{◌≡◌, ◌+◌, ◌*◌, ◌≤◌, List, [], ℕ, length, None, false}
use denote.Param.Always.{always_mut}
use Rattle.std.specs.Io.KnownBytes.{Appends, Consumes}
use Rattle.std.specs.List.{FoldsTo}
use Rattle.tpm_bytes.specs.Tap.{device_of, marks_of}
use Rattle.tpm_machine.specs.State.{state_of}
use Rattle.tpm_machine.specs.Executions.{Execution, Leads}
use Rattle.tpm_wire.specs.Serve.{AsksForEach, ReadsPiece, NotesEach, buffers_of, responses_of}
use Rattle.tpm_wire.specs.Stream.{cut_of, cut_with, next_of}
use Rattle.tpm_wire.proofs.serving.serve_connection.Given as goal

abbrev pub invariant-loop : goal.invariant-loop
invariant-loop g l =
    let record_of = g.K.Keep.record_of in
    record {
      callable : always_mut g.H.FnMut l.host;
      goes_on : l.connection.ended ≡ false;
      waits : next_of l.connection ≡ None;
      reads : (marks_of l.reader).reads ≡ l.counter;
      count : l.answered + length l.connection.taken ≤ buffer_limit * l.counter;
      ran : (pieces : List (List ℕ)) × (read : List ℕ) × (executions : List Execution)
          × FoldsTo (ReadsPiece (buffers_of executions)) [] pieces read
          × (length pieces ≡ l.counter)
          × Consumes (g.R.Read.remaining (device_of l.fn.reader))
          (g.R.Read.remaining (device_of l.reader)) read
          × Leads g.K.Keep.can_refuse (state_of record_of l.fn.machine) executions
          (state_of record_of l.machine)
          × AsksForEach g.H.FnMut l.fn.host executions l.host
          × (cut_of read ≡ cut_with (buffers_of executions) l.connection)
          × (l.answered ≡ length executions)
          × Appends (g.W.Write.contents (device_of l.fn.writer))
          (g.W.Write.contents (device_of l.writer)) (responses_of executions)
          × NotesEach g.S.Witness.notes l.fn.witness executions l.witness;
    }
