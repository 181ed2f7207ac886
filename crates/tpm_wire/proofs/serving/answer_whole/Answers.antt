use Rattle.std.proofs.Common.{rules, of_calls, [], ◌∷◌, ◌++◌, refl, ◌∙◌, arith, length-append}
use Rattle.std.proofs.KnownBytes.{Appends-nil}
use Rattle.tpm_bytes.specs.Tap.{device_of, marks_of}
use Rattle.tpm_machine.specs.State.{state_of}
use Rattle.tpm_wire.specs.Stream.{cut_at}
use Rattle.tpm_wire.specs.Wire.{execution_of}
use Rattle.tpm_wire.proofs.Cutting.{cuts_none, next_shorter}
use Rattle.tpm_wire.proofs.Executing.{asks_one, cuts_more, leads_one, notes_one, unanswered, written_one}
use Rattle.tpm_wire.proofs.serving.answer_whole.Goals as goal

pub loop-front-init : goal.loop-front-init
loop-front-init g c = record {
  callable = c.requires.callable;
  count = omega arith;
  ran = ([], refl, refl, cuts_none c.args.connection.now, refl, Appends-nil _, refl, refl);
}

pub returns-in-Err-clause-ran : goal.returns-in-Err-clause-ran
returns-in-Err-clause-ran g c =
    let i = c.loop-front.invariant.ran in (
      i.0,
      i.1,
      i.3,
      (
        (_, c.in-Some.ensures.1),
        (c.loop-front.host, i.2, c.in-Err.field-0, c.in-Err.ensures),
        i.5,
        i.6,
      ),
      i.7,
    )

pub returns-in-Err-answer_front-clause-ran : goal.returns-in-Err-answer_front-clause-ran
returns-in-Err-answer_front-clause-ran g c =
    let i = c.loop-front.invariant.ran in
    let s = c.loop-front.connection in
    let x = cut_at c.in-Some.front.size c.in-Some.front.last s.taken in
    let state = state_of g.K.Keep.record_of in
    let contents = g.W.Write.contents in
    let notes = g.S.Witness.notes in
    let failed = g.S.Witness.note_failed in
    let r = state c.loop-front.machine in
    let new = state c.answer_front.new.machine in
    let outcome = c.answer_front.new.outcome in
    let asks = asks_one g.H.FnMut c.args.host.now c.loop-front.host c.host.new.self i.0 r new
    x.buffer c.in-Ok.said outcome i.2 c.in-Ok.ensures in
    let held = contents (device_of c.loop-front.writer) in
    let holds = contents (device_of c.answer_front.new.writer) in
    let delivers = c.in-Err-answer_front.ensures.delivers in
    let ends = unanswered g.H.FnMut notes failed (contents (device_of c.args.writer.now)) held holds
    (marks_of c.args.writer.now) (marks_of c.loop-front.writer)
    (marks_of c.answer_front.new.writer) c.args.host.now c.host.new.self c.args.witness.now
    c.loop-front.witness c.answer_front.new.witness i.0 r new x.buffer c.in-Ok.said outcome
    c.answer_front.new.connection c.in-Err-answer_front.unsent asks i.5 i.7 delivers in (
      i.0 ++ execution_of r x.buffer c.in-Ok.said new outcome ∷ [],
      leads_one g.K.Keep.can_refuse (state c.args.machine.now) r new i.0 x.buffer c.in-Ok.said
          outcome i.1 c.answer_front.ensures.executes,
      cuts_more c.args.connection.now s c.answer_front.new.connection i.0 r new x c.in-Ok.said
          outcome i.3 c.in-Some.ensures.1 c.answer_front.ensures.after,
      ends.0,
      ends.1,
    )

pub overflow_add-answered : goal.overflow_add-answered
overflow_add-answered g c = let i = c.loop-front.invariant.count in let small =
    c.requires.small in omega arith

pub loop-front-smaller : goal.loop-front-smaller
loop-front-smaller g c =
    let front = c.in-Some.front in
    let less = next_shorter c.loop-front.connection
    (cut_at front.size front.last c.loop-front.connection.taken) c.in-Some.ensures.1 in
    rw c.answer_front.ensures.after less

pub loop-front-preserved : goal.loop-front-preserved
loop-front-preserved g c =
    let i = c.loop-front.invariant.ran in
    let s = c.loop-front.connection in
    let x = cut_at c.in-Some.front.size c.in-Some.front.last s.taken in
    let state = state_of g.K.Keep.record_of in
    let contents = g.W.Write.contents in
    let r = state c.loop-front.machine in
    let new = state c.answer_front.new.machine in
    let outcome = c.answer_front.new.outcome in
    let one = execution_of r x.buffer c.in-Ok.said new outcome in
    let less = next_shorter s x c.in-Some.ensures.1 in
    let count = c.loop-front.invariant.count in
    let delivers = c.in-Ok-answer_front.ensures.delivers in
    record {
      callable = search (rules, of_calls);
      count = rw c.answer_front.ensures.after (omega arith);
      ran = (
        i.0 ++ one ∷ [],
        leads_one g.K.Keep.can_refuse (state c.args.machine.now) r new i.0 x.buffer c.in-Ok.said
            outcome i.1 c.answer_front.ensures.executes,
        asks_one g.H.FnMut c.args.host.now c.loop-front.host c.host.new.self i.0 r new x.buffer
            c.in-Ok.said outcome i.2 c.in-Ok.ensures,
        cuts_more c.args.connection.now s c.answer_front.new.connection i.0 r new x c.in-Ok.said
            outcome i.3 c.in-Some.ensures.1 c.answer_front.ensures.after,
        omega (arith, i.4, length-append i.0 (one ∷ [])),
        written_one (contents (device_of c.args.writer.now))
            (contents (device_of c.loop-front.writer))
            (contents (device_of c.answer_front.new.writer)) i.0 r new x.buffer c.in-Ok.said outcome
            i.5 delivers.1,
        delivers.2 ∙ i.6,
        notes_one g.S.Witness.notes c.args.witness.now c.loop-front.witness
            c.answer_front.new.witness i.0 one i.7 delivers.0,
      );
    }

pub returns-clause-count : goal.returns-clause-count
returns-clause-count g c = c.loop-front.invariant.count

pub returns-clause-ran : goal.returns-clause-ran
returns-clause-ran g c =
    let i = c.loop-front.invariant.ran in
    (i.0, i.1, i.3, (c.in_default.ensures, i.2, i.4, i.5, i.6), i.7)
