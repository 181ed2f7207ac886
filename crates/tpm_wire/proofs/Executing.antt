-- Lemmas about successive executions, and about how serving ends.
use Rattle.std.proofs.Common.{◌≡◌, ◌≢◌, ℕ, List, [], ◌∷◌, ◌++◌, Bool, false, Option, Some, None, Result, Ok, Err, refl, sym, ap, ◌∙◌, subst, append_assoc, append-nil}
use Rattle.std.proofs.KnownBytes.{Appends-trans}
use Rattle.std.proofs.lemmas.Bool.{false≢true}
use Rattle.std.proofs.lemmas.Fn.{FoldsTo-push}
use Rattle.std.proofs.lemmas.Grind.{flat_map-append}
use Rattle.std.proofs.lemmas.List.{map-append}
use Rattle.std.specs.Fn.{Called}
use Rattle.std.specs.Io.KnownBytes.{Appends}
use Rattle.tpm_bytes.specs.Tap.{AppendsFront, Marks}
use Rattle.tpm_record.specs.Record.{Record}
use Rattle.tpm_step.specs.step.Execution.{Executes}
use Rattle.tpm_step.specs.step.Step.{outcome_step}
use Rattle.tpm_step.specs.declared.event.Outcome.{Outcome}
use Rattle.tpm_machine.specs.Executions.{Execution, Leads}
use Rattle.tpm_machine.proofs.Following.{leads_on}
use Rattle.tpm_wire.specs.Serve.{AreFewer, AreFirst, Asking, Asks, AsksForEach, AsksInVain, Delivers, Ends, Finishes, HoldsLastBack, LosesLast, Notes, NotesEach, buffer_in, buffers_of, responses_of}
use Rattle.tpm_wire.specs.Stream.{Cut, Cutting, CutsTo, Stream, cut_of, cut_with, exact_cutting, fed_stream, next_of}
use Rattle.tpm_wire.specs.Wire.{execution_of, given_event}
use Rattle.tpm_wire.specs.declared.fault.ServeFault.{ServeFault}
use Rattle.tpm_wire.specs.declared.fault.ServeFault.TheVariants as fault
use Rattle.tpm_wire.specs.declared.host.Host.{Host}
use Rattle.tpm_wire.proofs.Cutting.{buffers_stay, cut_next, cuts_one, read_on}
use Rattle.tpm_wire.proofs.Folds.{folds_on}

-- ---- executions that follow earlier executions

pub buffers_more : (first more : List Execution)
    → buffers_of (first ++ more) ≡ buffers_of first ++ buffers_of more
buffers_more first more = map-append (λ (one : Execution). buffer_in one.event) first more

responses_more : (first more : List Execution)
    → responses_of (first ++ more) ≡ responses_of first ++ responses_of more
responses_more first more = flat_map-append (λ (one : Execution). one.seen.response) first more

pub written_more : (held mid holds : Option (List ℕ)) (first more : List Execution)
    → Appends held mid (responses_of first) → Appends mid holds (responses_of more)
    → Appends held holds (responses_of (first ++ more))
written_more held mid holds first more written also =
    subst (Appends held holds) (sym (responses_more first more))
    (Appends-trans _ _ _ _ _ written also)

pub asks_more : {F : Type 0} (g : Asking F) (asked at asking : F) (first more : List Execution)
    → AsksForEach g asked first at → AsksForEach g at more asking
    → AsksForEach g asked (first ++ more) asking
asks_more g asked at asking first more asks also =
    folds_on (Asks g) asked at asking first more asks also

-- Suppose that more bytes are read, and then more buffers are executed. The bytes read so far are
-- still divided into the buffers of all executions and the stream that is left.
pub cut_more : (read bytes : List ℕ) (first more : List Execution) (s t u : Stream)
    → cut_of read ≡ cut_with (buffers_of first) s → t ≡ fed_stream s bytes
    → CutsTo t (buffers_of more) u → cut_of (read ++ bytes)
    ≡ cut_with (buffers_of (first ++ more)) u
cut_more read bytes first more s t u is same to =
    read_on read bytes (buffers_of first) (buffers_of more) s t u is same to
    ∙ ap (λ (done : List (List ℕ)). cut_with done u) (sym (buffers_more first more))

-- ---- one more execution

pub leads_one : (can : Bool) (old r new : Record) (executions : List Execution) (buffer : List ℕ)
    (host : Host) (outcome : Outcome) → Leads can old executions r
    → Executes can r (given_event buffer host) (outcome_step new outcome)
    → Leads can old (executions ++ execution_of r buffer host new outcome ∷ []) new
leads_one can old r new executions buffer host outcome leads executes =
    leads_on can old executions r (execution_of r buffer host new outcome ∷ []) new leads
    (refl, executes, refl)

pub asks_one : {F : Type 0} (g : Asking F) (asked h next : F) (executions : List Execution)
    (r new : Record) (buffer : List ℕ) (host : Host) (outcome : Outcome)
    → AsksForEach g asked executions h → Called g h tt (Ok host) next
    → AsksForEach g asked (executions ++ execution_of r buffer host new outcome ∷ []) next
asks_one g asked h next executions r new buffer host outcome asks called =
    FoldsTo-push (Asks g) asked executions h (execution_of r buffer host new outcome) next asks
    (host, called, refl)

pub cuts_more : (s t u : Stream) (executions : List Execution) (r new : Record) (c : Cut)
    (host : Host) (outcome : Outcome) → CutsTo s (buffers_of executions) t → next_of t ≡ Some c
    → u ≡ c.after
    → CutsTo s (buffers_of (executions ++ execution_of r c.buffer host new outcome ∷ [])) u
cuts_more s t u executions r new c host outcome to is same =
    subst (λ (done : List (List ℕ)). CutsTo s done u)
    (sym (buffers_more executions (execution_of r c.buffer host new outcome ∷ [])))
    (cuts_one s t (buffers_of executions) u c to is same)

responses_one : (executions : List Execution) (one : Execution)
    → responses_of (executions ++ one ∷ []) ≡ responses_of executions ++ one.seen.response
responses_one executions one =
    responses_more executions (one ∷ [])
    ∙ ap (λ (l : List ℕ). responses_of executions ++ l) (append-nil one.seen.response)

pub written_one : (held mid holds : Option (List ℕ)) (executions : List Execution) (r new : Record)
    (buffer : List ℕ) (host : Host) (outcome : Outcome) → Appends held mid (responses_of executions)
    → Appends mid holds outcome.response.items
    → Appends held holds (responses_of (executions ++ execution_of r buffer host new outcome ∷ []))
written_one held mid holds executions r new buffer host outcome written also =
    subst (Appends held holds)
    (sym (responses_one executions (execution_of r buffer host new outcome)))
    (Appends-trans _ _ _ _ _ written also)

-- If the writer fails while writing one more response, only a prefix of that response was written.
pub lost_last : (held mid holds : Option (List ℕ)) (executions : List Execution) (r new : Record)
    (buffer : List ℕ) (host : Host) (outcome : Outcome) → Appends held mid (responses_of executions)
    → AppendsFront mid holds outcome.response.items
    → LosesLast held holds (executions ++ execution_of r buffer host new outcome ∷ [])
lost_last held mid holds executions r new buffer host outcome written cut = (
  executions,
  execution_of r buffer host new outcome,
  refl,
  cut.0,
  cut.1,
  cut.2,
  Appends-trans _ _ _ _ _ written cut.3,
)

-- ---- how serving ends

are_first : (cut : Cutting) (done : List (List ℕ)) (left : Stream) → cut ≡ cut_with done left
    → AreFirst done cut.buffers
are_first cut done left is =
    let stay = buffers_stay (exact_cutting done left.ended) left.taken in
    (stay.0, ap (λ (c : Cutting). c.buffers) is ∙ stay.1)

are_fewer : (cut : Cutting) (done : List (List ℕ)) (left : Stream) (c : Cut)
    → cut ≡ cut_with done left → next_of left ≡ Some c → AreFewer done cut.buffers
are_fewer cut done left c is next =
    let first = are_first cut (done ++ c.buffer ∷ []) c.after (is ∙ cut_next done left c next) in
    (c.buffer, first.0, first.1 ∙ append_assoc done (c.buffer ∷ []) first.0)

loses_behind : (held mid holds : Option (List ℕ)) (first more : List Execution)
    → Appends held mid (responses_of first) → LosesLast mid holds more
    → LosesLast held holds (first ++ more)
loses_behind held mid holds first more written (answered, lost, are, front, rest, cut, also) = (
  first ++ answered,
  lost,
  ap (λ (l : List Execution). first ++ l) are ∙ sym (append_assoc first answered (lost ∷ [])),
  front,
  rest,
  cut,
  subst (Appends held holds)
      (sym (append_assoc (responses_of first) (responses_of answered) front)
      ∙ ap (λ (l : List ℕ). l ++ front) (sym (responses_more first answered)))
      (Appends-trans _ _ _ _ _ written also),
)

holds_back_behind : (held mid holds : Option (List ℕ)) (first more : List Execution)
    → Appends held mid (responses_of first) → HoldsLastBack mid holds more
    → HoldsLastBack held holds (first ++ more)
holds_back_behind held mid holds first more written (answered, last, are, also) = (
  first ++ answered,
  last,
  ap (λ (l : List Execution). first ++ l) are ∙ sym (append_assoc first answered (last ∷ [])),
  written_more held mid holds first answered written also,
)

-- If serving continues with further executions, and these end with a fault, then serving as a whole
-- ends with that fault.
pub ends_so : {F : Type 0} (g : Asking F) (held mid holds : Option (List ℕ))
    (before after reader : Marks) (cut : Cutting) (asked at : F) (first more : List Execution)
    (asking : F) (left : Stream) (e : ServeFault) → cut ≡ cut_with (buffers_of (first ++ more)) left
    → AsksForEach g asked first at → Appends held mid (responses_of first)
    → Finishes g mid holds before after at more asking left (Err e)
    → Ends g held holds reader after cut asked (first ++ more) asking (Err e)
ends_so g held mid holds before after reader cut asked at first more asking left fault.Write is asks
    written f = (
      are_first cut (buffers_of (first ++ more)) left is,
      f.1,
      asks_more g asked at asking first more asks f.0,
      loses_behind held mid holds first more written f.2,
    )
ends_so g held mid holds before after reader cut asked at first more asking left fault.Save is asks
    written f = (
      are_first cut (buffers_of (first ++ more)) left is,
      asks_more g asked at asking first more asks f.0,
      holds_back_behind held mid holds first more written f.1,
    )
ends_so g held mid holds before after reader cut asked at first more asking left fault.Host is asks
    written f =
    let vain : AsksInVain g at more asking = f.1 in (
      are_fewer cut (buffers_of (first ++ more)) left f.0.0 is f.0.1,
      (vain.0, asks_more g asked at vain.0 first more asks vain.1, vain.2, vain.3),
      written_more held mid holds first more written f.2,
    )
ends_so g held mid holds before after reader cut asked at first more asking left fault.Full is asks
    written f = absurd f
ends_so g held mid holds before after reader cut asked at first more asking left fault.Read is asks
    written f = absurd f

-- ---- the notifications of a witness

pub notes_one : {S : Type 0} (notes : S → Execution → S → Type 0) (old mid new : S)
    (executions : List Execution) (one : Execution) → NotesEach notes old executions mid
    → notes mid one new → NotesEach notes old (executions ++ one ∷ []) new
notes_one notes old mid new executions one told also =
    FoldsTo-push notes old executions mid one new told also

pub notes_more : {S : Type 0} (notes : S → Execution → S → Type 0) (old mid new : S)
    (first more : List Execution) → NotesEach notes old first mid → NotesEach notes mid more new
    → NotesEach notes old (first ++ more) new
notes_more notes old mid new first more told also = folds_on notes old mid new first more told also

-- Serving ends with the fault of the first delivery that fails.
pub unanswered : {F S : Type 0} (g : Asking F) (notes : S → Execution → S → Type 0)
    (failed : S → Bool) (held mid holds : Option (List ℕ)) (before at after : Marks)
    (asked asking : F) (witness told new : S) (executions : List Execution) (r left : Record)
    (buffer : List ℕ) (host : Host) (outcome : Outcome) (stream : Stream) (e : ServeFault)
    → AsksForEach g asked (executions ++ execution_of r buffer host left outcome ∷ []) asking
    → Appends held mid (responses_of executions) → NotesEach notes witness executions told
    → Delivers notes failed mid holds at after (execution_of r buffer host left outcome) told
    (Err e) new → Finishes g held holds before after asked
    (executions ++ execution_of r buffer host left outcome ∷ []) asking stream (Err e)
    × Notes notes failed witness (executions ++ execution_of r buffer host left outcome ∷ []) new
    (Err e)
unanswered g notes failed held mid holds before at after asked asking witness told new executions r
    left buffer host outcome stream fault.Write asks written noted delivers = (
      (
        asks,
        delivers.2,
        lost_last held mid holds executions r left buffer host outcome written
            delivers.1,
      ),
      notes_one notes witness told new executions
          (execution_of r buffer host left outcome) noted delivers.0,
    )
unanswered g notes failed held mid holds before at after asked asking witness told new executions r
    left buffer host outcome stream fault.Save asks written noted delivers =
    let one = execution_of r buffer host left outcome in
    let same : Appends held holds (responses_of executions) =
    subst (λ (o : Option (List ℕ)). Appends held o (responses_of executions)) (sym delivers.1)
    written in
    ((asks, (executions, one, refl, same)), (executions, one, refl, told, noted, delivers.0))
unanswered g notes failed held mid holds before at after asked asking witness told new executions r
    left buffer host outcome stream fault.Full asks written noted delivers = absurd delivers
unanswered g notes failed held mid holds before at after asked asking witness told new executions r
    left buffer host outcome stream fault.Read asks written noted delivers = absurd delivers
unanswered g notes failed held mid holds before at after asked asking witness told new executions r
    left buffer host outcome stream fault.Host asks written noted delivers = absurd delivers

-- Suppose that a witness was notified of earlier executions. If its notification of further
-- executions ends with a fault, its notification of all executions ends with that fault.
pub notes_so : {S : Type 0} (notes : S → Execution → S → Type 0) (failed : S → Bool)
    (old mid new : S) (first more : List Execution) (e : ServeFault) → NotesEach notes old first mid
    → Notes notes failed mid more new (Err e) → Notes notes failed old (first ++ more) new (Err e)
notes_so notes failed old mid new first more fault.Save told (others, last, are, at, also, fails) = (
  first ++ others,
  last,
  ap (λ (l : List Execution). first ++ l) are
      ∙ sym (append_assoc first others (last ∷ [])),
  at,
  notes_more notes old mid at first others told also,
  fails,
)
notes_so notes failed old mid new first more fault.Full told also =
    notes_more notes old mid new first more told also
notes_so notes failed old mid new first more fault.Read told also =
    notes_more notes old mid new first more told also
notes_so notes failed old mid new first more fault.Write told also =
    notes_more notes old mid new first more told also
notes_so notes failed old mid new first more fault.Host told also =
    notes_more notes old mid new first more told also

-- If notifying the witness cannot fail, serving never ends because of the witness.
pub never_unsaved : {S : Type 0} (notes : S → Execution → S → Type 0) (old new : S)
    (executions : List Execution) (result : Result ℕ ServeFault)
    → Notes notes (λ _. false) old executions new result → result ≢ Err fault.Save
never_unsaved notes old new executions (Ok count) told = λ is. cc
never_unsaved notes old new executions (Err fault.Save) (others, last, are, at, also, fails) =
    λ is. false≢true fails
never_unsaved notes old new executions (Err fault.Full) told = λ is. cc
never_unsaved notes old new executions (Err fault.Read) told = λ is. cc
never_unsaved notes old new executions (Err fault.Write) told = λ is. cc
never_unsaved notes old new executions (Err fault.Host) told = λ is. cc

pub unsaved_where : (free : Option ℕ) (result : Result ℕ ServeFault)
    → (free ≡ None → result ≡ Err fault.Full) → (free ≢ None → result ≢ Err fault.Save)
    → result ≢ Err fault.Save
unsaved_where None result full served = let is = full refl in λ also. cc
unsaved_where (Some place) result full served = served (λ none. cc)
