-- Serving one connection to its end.
use Rattle.tpm_types_common.specs.Limits.{buffer_limit}
use Rattle.std.specs.Prelude.{◌≡◌, ℕ, ◌-◌, ◌≤◌, ◌<◌, ◌⊎◌, Bool, true, false}
use Rattle.std.specs.Prelude.{List, [], ◌∷◌, ◌++◌, length, map}
use Rattle.std.specs.Prelude.{Option, Some, None, Result, Ok, Err}
use Rattle.std.specs.Fn.{Called, Mut}
use Rattle.std.specs.List.{FoldsTo, flat_map}
use Rattle.std.specs.Io.KnownBytes.{Appends, Consumes, Keeps}
use Rattle.tpm_bytes.specs.Tap.{AppendsFront, Marks, after_read}
use Rattle.tpm_record.specs.Record.{Record}
use Rattle.tpm_step.specs.step.Events.{PlainEvent, Given, Cycled, Placed}
use Rattle.tpm_machine.specs.Executions.{Execution, Leads}
use Rattle.tpm_machine.specs.Follows.{Follows, StretchFollows}
use Rattle.tpm_machine.specs.History.{History}
use Rattle.tpm_wire.specs.Stream.{Cut, Cutting, Stream, cut_of, fed_stream, next_of}
use Rattle.tpm_wire.specs.Wire.{given_event}
use Rattle.tpm_bytes.specs.declared.tap.Failed.{Failed}
use Rattle.tpm_wire.specs.declared.fault.HostFault.{HostFault}
use Rattle.tpm_wire.specs.declared.fault.ServeFault.{ServeFault}
use Rattle.tpm_wire.specs.declared.fault.ServeFault.TheVariants as fault
use Rattle.tpm_wire.specs.declared.host.Host.{Host}

-- ---- the buffers that are executed

-- the buffer of an event; empty for a power cycle and for a placed object
abbrev pub buffer_in : PlainEvent → List ℕ
buffer_in (Given buffer locality elapsed random) = buffer
buffer_in Cycled = []
buffer_in (Placed object) = []

-- the buffers of executions, in order
abbrev pub buffers_of : List Execution → List (List ℕ)
buffers_of executions = map (λ (one : Execution). buffer_in one.event) executions

-- the responses of executions, one after another
abbrev pub responses_of : List Execution → List ℕ
responses_of executions = flat_map (λ (one : Execution). one.seen.response) executions

-- ---- requests to the host

-- a closure that returns the host's values for a command
abbrev pub Asking : Type 0 → Type 1
Asking F = Mut F (Unit {0}) (Result Host HostFault)

-- The host was asked once for its values, and the buffer was executed with them.
abbrev pub Asks : {F : Type 0} → Asking F → F → Execution → F → Type 0
Asks g old one new =
    (host : Host) × Called g old tt (Ok host) new
    × (one.event ≡ given_event (buffer_in one.event) host)

-- For each of these executions, in order, the host was asked once for its values.
abbrev pub AsksForEach : {F : Type 0} → Asking F → F → List Execution → F → Type 0
AsksForEach g old executions new = FoldsTo (Asks g) old executions new

-- For each of these executions, in order, the host was asked once for its values. Then it was asked
-- once more, and returned a fault.
abbrev pub AsksInVain : {F : Type 0} → Asking F → F → List Execution → F → Type 0
AsksInVain {F} g old executions new =
    (last : F) × AsksForEach g old executions last × (e : HostFault) × Called g last tt (Err e) new

-- ---- the steps of serving

-- One read requested as many bytes as still fit into a stream. On success, the bytes that were read
-- were added to the stream. On failure, the stream is unchanged.
abbrev pub Fills : Option (List ℕ) → Option (List ℕ) → Marks → Marks
    → Stream → Result ℕ Failed → Stream → Type 0
Fills had has before after old (Err failed) new =
    (after ≡ after_read {E = Failed} before (Err failed) (buffer_limit - length old.taken))
    × (new ≡ old) × Keeps had has
Fills had has before after old (Ok count) new =
    (bytes : List ℕ) × Consumes had has bytes × (new ≡ fed_stream old bytes)
    × (length bytes ≡ count)
    × (length new.taken ≤ buffer_limit)
    × (after ≡ after_read {E = Failed} before (Ok count) (buffer_limit - length old.taken))

-- One response was delivered: a witness was notified of the execution, and then the whole
-- response was written. If the witness failed, nothing was written; if the writer failed, a
-- prefix of the response was written.
abbrev pub Delivers : {S : Type 0} → (S → Execution → S → Type 0) → (S → Bool)
    → Option (List ℕ) → Option (List ℕ) → Marks → Marks
    → Execution → S → Result (Unit {0}) ServeFault → S → Type 0
Delivers notes failed held holds before after one old (Ok done) new =
    notes old one new × Appends held holds one.seen.response × (after ≡ before)
Delivers notes failed held holds before after one old (Err fault.Save) new =
    (failed new ≡ true) × (holds ≡ held)
Delivers notes failed held holds before after one old (Err fault.Write) new =
    notes old one new × AppendsFront held holds one.seen.response × (after.failed ≡ true)
Delivers notes failed held holds before after one old (Err e) new = ⊥

-- The writer failed while writing the response of the last execution. All earlier responses were
-- written completely. A prefix of the last response, which may be empty, was written.
abbrev pub LosesLast : Option (List ℕ) → Option (List ℕ) → List Execution → Type 0
LosesLast held holds executions =
    (answered : List Execution) × (lost : Execution) × (executions ≡ answered ++ lost ∷ [])
    × (front : List ℕ) × (rest : List ℕ) × (lost.seen.response ≡ front ++ rest)
    × Appends held holds (responses_of answered ++ front)

-- The response of the last execution was not written at all. All earlier responses were written
-- completely.
abbrev pub HoldsLastBack : Option (List ℕ) → Option (List ℕ) → List Execution → Type 0
HoldsLastBack held holds executions =
    (answered : List Execution) × (last : Execution) × (executions ≡ answered ++ last ∷ [])
    × Appends held holds (responses_of answered)

-- The result of executing the complete buffers of a stream. On success, all of them were executed,
-- and all responses were written. If the writer or the witness failed, it failed for the last
-- execution. If the host failed, the next buffer was not executed.
abbrev pub Finishes : {F : Type 0} → Asking F → Option (List ℕ) → Option (List ℕ)
    → Marks → Marks → F → List Execution → F → Stream → Result ℕ ServeFault → Type 0
Finishes g held holds before after asked executions asking left (Ok count) =
    (next_of left ≡ None) × AsksForEach g asked executions asking × (count ≡ length executions)
    × Appends held holds (responses_of executions) × (after ≡ before)
Finishes g held holds before after asked executions asking left (Err fault.Write) =
    AsksForEach g asked executions asking × (after.failed ≡ true) × LosesLast held holds executions
Finishes g held holds before after asked executions asking left (Err fault.Save) =
    AsksForEach g asked executions asking × HoldsLastBack held holds executions
Finishes g held holds before after asked executions asking left (Err fault.Host) =
    ((c : Cut) × (next_of left ≡ Some c)) × AsksInVain g asked executions asking
    × Appends held holds (responses_of executions) × (after ≡ before)
Finishes g held holds before after asked executions asking left (Err e) = ⊥

-- ---- the bytes that are read

-- The first list of buffers is a prefix of the second.
abbrev pub AreFirst : List (List ℕ) → List (List ℕ) → Type 0
AreFirst done buffers = (others : List (List ℕ)) × (buffers ≡ done ++ others)

-- the number of bytes that still fit into a connection after all its complete buffers were executed
abbrev pub room_left : Cutting → ℕ
room_left cut = buffer_limit - length cut.rest

-- One read returned a piece of the stream: at least one byte, and at most as many bytes as fit. The
-- stream had not ended before. The complete buffers in the bytes read earlier are the first of the
-- executed buffers.
abbrev pub ReadsPiece : (done : List (List ℕ)) → (old piece new : List ℕ) → Type 0
ReadsPiece done old piece new =
    (new ≡ old ++ piece) × (0 < length piece) × (length piece ≤ room_left (cut_of old))
    × ((cut_of old).ended ≡ false) × AreFirst (cut_of old).buffers done

-- ---- how serving ends

-- The first list of buffers is a proper prefix of the second.
abbrev pub AreFewer : List (List ℕ) → List (List ℕ) → Type 0
AreFewer done buffers =
    (next : List ℕ) × (others : List (List ℕ)) × (buffers ≡ done ++ next ∷ others)

-- The stream ended; or the reader was at its end when a read requested as many bytes as fit.
abbrev pub IsAtEnd : Marks → Cutting → Type 0
IsAtEnd reader cut =
    ((reader.ended ≡ true) × (reader.room ≡ room_left cut)) ⊎ (cut.ended ≡ true)

-- The connection reached its limit on reads that return bytes; or the reader failed when a read
-- requested as many bytes as fit.
abbrev pub ReadsNoMore : Marks → Cutting → Type 0
ReadsNoMore reader cut =
    ((reader.failed ≡ true) × (reader.room ≡ room_left cut)) ⊎ (reader.reads ≡ 1048576)

-- How serving ended.
-- - The reader or the stream ended: all buffers were executed and all responses were written.
-- - The reader failed, or reached the limit on reads that return bytes: all buffers were executed
--   and all responses were written.
-- - The writer failed: some buffers were executed, and the response of the last execution was not
--   written completely.
-- - The witness failed: some buffers were executed, and the response of the last execution was not
--   written.
-- - The host returned a fault: the next buffer is complete but was not executed. All buffers before
--   it were executed, and their responses were written.
abbrev pub Ends : {F : Type 0} → Asking F → Option (List ℕ) → Option (List ℕ)
    → Marks → Marks → Cutting → F → List Execution → F → Result ℕ ServeFault → Type 0
Ends g held holds reader writer cut asked executions asking (Ok count) =
    (cut.buffers ≡ buffers_of executions) × IsAtEnd reader cut × (count ≡ length executions)
    × AsksForEach g asked executions asking × Appends held holds (responses_of executions)
Ends g held holds reader writer cut asked executions asking (Err fault.Read) =
    (cut.buffers ≡ buffers_of executions) × ReadsNoMore reader cut
    × AsksForEach g asked executions asking × Appends held holds (responses_of executions)
Ends g held holds reader writer cut asked executions asking (Err fault.Write) =
    AreFirst (buffers_of executions) cut.buffers × (writer.failed ≡ true)
    × AsksForEach g asked executions asking × LosesLast held holds executions
Ends g held holds reader writer cut asked executions asking (Err fault.Save) =
    AreFirst (buffers_of executions) cut.buffers
    × AsksForEach g asked executions asking × HoldsLastBack held holds executions
Ends g held holds reader writer cut asked executions asking (Err fault.Host) =
    AreFewer (buffers_of executions) cut.buffers
    × AsksInVain g asked executions asking × Appends held holds (responses_of executions)
Ends g held holds reader writer cut asked executions asking (Err fault.Full) = ⊥

-- A connection was served: pieces were read from the reader, each in one read, within the limit on
-- reads for one connection. The pieces are joined and cut into buffers, and the first of these
-- buffers were executed. The executions change the old record to the new one. If the old record
-- follows a history, the executions satisfy `StretchFollows` after that history. `Ends` defines how
-- serving ended.
pub record Serves {F : Type 0} (g : Asking F) (can : Bool) (had has held holds : Option (List ℕ))
    (reader writer : Marks) (old : Record) (asked : F) (result : Result ℕ ServeFault)
    (new : Record) (asking : F) : Type 0
  where
    pub pieces : List (List ℕ)
    pub read : List ℕ
    pub executions : List Execution
    pub reads : FoldsTo (ReadsPiece (buffers_of executions)) [] pieces read
    pub counted : reader.reads ≡ length pieces
    pub few : length pieces ≤ 1048576
    pub consumed : Consumes had has read
    pub leads : Leads can old executions new
    pub stretch : (history : History) → Follows old history
        → StretchFollows can old executions new history
    pub ends : Ends g held holds reader writer (cut_of read) asked executions asking result

-- ---- the notifications of a witness

-- A witness was notified of each of these executions, in order.
abbrev pub NotesEach : {S : Type 0} → (S → Execution → S → Type 0) → S → List Execution → S → Type 0
NotesEach notes old executions new = FoldsTo notes old executions new

-- A witness was notified of each of these executions, in order. If serving ended because the
-- witness failed, it failed on the last execution, and was notified of all others.
abbrev pub Notes : {S : Type 0} → (S → Execution → S → Type 0) → (S → Bool)
    → S → List Execution → S → Result ℕ ServeFault → Type 0
Notes {S} notes failed old executions new (Err fault.Save) =
    (told : List Execution) × (last : Execution) × (executions ≡ told ++ last ∷ [])
    × (mid : S) × NotesEach notes old told mid × (failed new ≡ true)
Notes notes failed old executions new result = NotesEach notes old executions new
