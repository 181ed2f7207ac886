use Rattle.tpm_types_common.specs.Limits.{buffer_limit}
use Rattle.std.proofs.Common.{◌-◌, ◌<◌, ◌∷◌, [], ◌++◌, length, refl, sym, ap, ◌∙◌, arith, length-append, inl, inr}
use Rattle.std.proofs.KnownBytes.{Appends-nil, Consumes-kept, Consumes-nil, Consumes-trans}
use Rattle.tpm_bytes.specs.Tap.{Marks, device_of, marks_of}
use Rattle.tpm_machine.proofs.Following.{leads_on, stretch_follows}
use Rattle.tpm_wire.specs.Serve.{buffers_of, room_left}
use Rattle.tpm_wire.specs.Stream.{Cutting, Stream, cut_with, next_of}
use Rattle.tpm_wire.proofs.Cutting.{cut_last, next_opened, next_room}
use Rattle.tpm_wire.proofs.Executing.{asks_more, cut_more, ends_so, notes_more, notes_so, written_more}
use Rattle.tpm_wire.proofs.Filling.{counted_read, ended_read, nothing_read}
use Rattle.tpm_wire.proofs.Pieces.{piece_more, pieces_fit}
use Rattle.tpm_wire.proofs.serving.serve_connection.Goals as goal

pub loop-init : goal.loop-init
loop-init g c =
    let new = c.new-connection.ensures in
    record {
      callable = c.requires.callable;
      goes_on = ap (λ (s : Stream). s.ended) new;
      waits = ap next_of new ∙ next_opened;
      reads = ap (λ (m : Marks). m.reads) c.requires.unread;
      count = omega (arith, ap (λ (s : Stream). length s.taken) new);
      ran = (
        [],
        [],
        [],
        refl,
        refl,
        Consumes-nil _,
        refl,
        refl,
        ap (cut_with []) (sym new),
        refl,
        Appends-nil _,
        refl,
      );
    }

pub returns-in-Err : goal.returns-in-Err
returns-in-Err g c =
    let i = c.loop.invariant.ran in
    let f = c.in-Err.ensures {u = tt} in
    let whole = i.8 ∙ cut_last (buffers_of i.2) c.loop.connection c.loop.invariant.waits in (
      record {
        pieces = i.0;
        read = i.1;
        executions = i.2;
        reads = i.3;
        counted = ap (λ (m : Marks). m.reads) f.0 ∙ c.loop.invariant.reads ∙ sym i.4;
        few = omega (arith, i.4);
        consumed = Consumes-kept _ _ _ _ i.5 f.2;
        leads = i.6;
        stretch = λ history. stretch_follows _ _ i.2 _ history i.6;
        ends = (
          ap (λ (x : Cutting). x.buffers) whole,
          inl (
            ap (λ (m : Marks). m.failed) f.0,
            ap (λ (m : Marks). m.room) f.0
                ∙ ap room_left (sym whole),
          ),
          i.7,
          i.10,
        );
      },
      i.11,
    )

pub returns-then-count-eq0 : goal.returns-then-count-eq0
returns-then-count-eq0 g c =
    let i = c.loop.invariant.ran in
    let f = c.in-Ok.ensures in
    let s = c.loop.connection in
    let whole = i.8 ∙ cut_last (buffers_of i.2) s c.loop.invariant.waits in
    let room = next_room s c.loop.invariant.waits c.loop.invariant.goes_on in
    let some : 0 < buffer_limit - length s.taken = omega arith in
    let end = ended_read (marks_of c.loop.reader) (marks_of c.fill.new.reader) c.in-Ok.count
    (buffer_limit - length s.taken) c.if-count-eq0.true some f.5 in (
      record {
        pieces = i.0;
        read = i.1;
        executions = i.2;
        reads = i.3;
        counted = end.2 ∙ c.loop.invariant.reads ∙ sym i.4;
        few = omega (arith, i.4);
        consumed = nothing_read _ _ i.1 f.0 (f.3 ∙ c.if-count-eq0.true)
            (Consumes-trans _ _ _ _ _ i.5 f.1);
        leads = i.6;
        stretch = λ history. stretch_follows _ _ i.2 _ history i.6;
        ends = (
          ap (λ (x : Cutting). x.buffers) whole,
          inl (end.0, end.1 ∙ ap room_left (sym whole)),
          i.9,
          i.7,
          i.10,
        );
      },
      i.11,
    )

pub returns-in-Err-answer_whole : goal.returns-in-Err-answer_whole
returns-in-Err-answer_whole g c =
    let i = c.loop.invariant.ran in
    let f = c.in-Ok.ensures in
    let j = c.in-Err-answer_whole.ensures.ran in
    let s = c.loop.connection in
    let counted = counted_read (marks_of c.loop.reader) (marks_of c.fill.new.reader) c.in-Ok.count
    (buffer_limit - length s.taken) c.loop.counter c.loop.invariant.reads c.if-count-eq0.false
    (omega arith) f.5 in
    let many = pieces_fit i.0 f.0 c.loop.counter i.4 (omega arith) in
    let contents = g.W.Write.contents in
    let leads = leads_on g.K.Keep.can_refuse _ i.2 _ j.0 _ i.6 j.1 in (
      record {
        pieces = i.0 ++ f.0 ∷ [];
        read = i.1 ++ f.0;
        executions = i.2 ++ j.0;
        reads = piece_more i.2 j.0 i.0 i.1 f.0 s i.3 i.8 c.loop.invariant.waits
            c.loop.invariant.goes_on (omega (arith, f.3, c.if-count-eq0.false)) (rw f.2 at f.4);
        counted = counted ∙ sym many.0;
        few = many.1;
        consumed = Consumes-trans _ _ _ _ _ i.5 f.1;
        leads = leads;
        stretch = λ history. stretch_follows _ _ (i.2 ++ j.0) _ history leads;
        ends = ends_so g.H.FnMut (contents (device_of c.args.writer.now))
            (contents (device_of c.loop.writer)) (contents (device_of c.answer_whole.new.writer))
            (marks_of c.loop.writer) (marks_of c.answer_whole.new.writer)
            (marks_of c.fill.new.reader) _ c.args.host.now c.loop.host i.2 j.0
            c.answer_whole.new.host c.answer_whole.new.connection c.in-Err-answer_whole.fault
            (cut_more i.1 f.0 i.2 j.0 s c.fill.new.connection c.answer_whole.new.connection i.8 f.2
            j.2) i.7 i.10 j.3;
      },
      notes_so g.S.Witness.notes g.S.Witness.note_failed c.args.witness.now c.loop.witness
          c.answer_whole.new.witness i.2 j.0 c.in-Err-answer_whole.fault i.11 j.4,
    )

pub returns-then-has_ended : goal.returns-then-has_ended
returns-then-has_ended g c =
    let i = c.loop.invariant.ran in
    let f = c.in-Ok.ensures in
    let j = c.in-Ok-answer_whole.ensures.ran in
    let s = c.loop.connection in
    let whole = cut_more i.1 f.0 i.2 j.0 s c.fill.new.connection c.answer_whole.new.connection i.8
    f.2 j.2 ∙ cut_last (buffers_of (i.2 ++ j.0)) c.answer_whole.new.connection j.3.0 in
    let counted = counted_read (marks_of c.loop.reader) (marks_of c.fill.new.reader) c.in-Ok.count
    (buffer_limit - length s.taken) c.loop.counter c.loop.invariant.reads c.if-count-eq0.false
    (omega arith) f.5 in
    let many = pieces_fit i.0 f.0 c.loop.counter i.4 (omega arith) in
    let leads = leads_on g.K.Keep.can_refuse _ i.2 _ j.0 _ i.6 j.1 in (
      record {
        pieces = i.0 ++ f.0 ∷ [];
        read = i.1 ++ f.0;
        executions = i.2 ++ j.0;
        reads = piece_more i.2 j.0 i.0 i.1 f.0 s i.3 i.8 c.loop.invariant.waits
            c.loop.invariant.goes_on (omega (arith, f.3, c.if-count-eq0.false)) (rw f.2 at f.4);
        counted = counted ∙ sym many.0;
        few = many.1;
        consumed = Consumes-trans _ _ _ _ _ i.5 f.1;
        leads = leads;
        stretch = λ history. stretch_follows _ _ (i.2 ++ j.0) _ history leads;
        ends = (
          ap (λ (x : Cutting). x.buffers) whole,
          inr (ap (λ (x : Cutting). x.ended) whole ∙ sym c.has_ended.ensures ∙ c.if-has_ended.true),
          omega (arith, i.9, j.3.2, length-append i.2 j.0),
          asks_more g.H.FnMut c.args.host.now c.loop.host c.answer_whole.new.host i.2 j.0 i.7 j.3.1,
          written_more _ _ _ i.2 j.0 i.10 j.3.3,
        );
      },
      notes_more g.S.Witness.notes c.args.witness.now c.loop.witness c.answer_whole.new.witness i.2
          j.0 i.11 j.4,
    )

pub loop-preserved : goal.loop-preserved
loop-preserved g c =
    let i = c.loop.invariant.ran in
    let f = c.in-Ok.ensures in
    let j = c.in-Ok-answer_whole.ensures.ran in
    let s = c.loop.connection in
    let count = c.in-Ok-answer_whole.ensures.count in
    let many = pieces_fit i.0 f.0 c.loop.counter i.4 (omega arith) in
    record {
      callable = c.in-Ok-answer_whole.ensures.callable;
      goes_on = sym c.has_ended.ensures ∙ c.if-has_ended.false;
      waits = j.3.0;
      reads = counted_read (marks_of c.loop.reader) (marks_of c.fill.new.reader) c.in-Ok.count
          (buffer_limit - length s.taken) c.loop.counter c.loop.invariant.reads c.if-count-eq0.false
          (omega arith) f.5;
      count = omega (arith, count, f.4);
      ran = (
        i.0 ++ f.0 ∷ [],
        i.1 ++ f.0,
        i.2 ++ j.0,
        piece_more i.2 j.0 i.0 i.1 f.0 s i.3 i.8 c.loop.invariant.waits c.loop.invariant.goes_on
            (omega (arith, f.3, c.if-count-eq0.false)) (rw f.2 at f.4),
        many.0,
        Consumes-trans _ _ _ _ _ i.5 f.1,
        leads_on g.K.Keep.can_refuse _ i.2 _ j.0 _ i.6 j.1,
        asks_more g.H.FnMut c.args.host.now c.loop.host c.answer_whole.new.host i.2 j.0 i.7 j.3.1,
        cut_more i.1 f.0 i.2 j.0 s c.fill.new.connection c.answer_whole.new.connection i.8 f.2 j.2,
        omega (arith, i.9, j.3.2, length-append i.2 j.0),
        written_more _ _ _ i.2 j.0 i.10 j.3.3,
        notes_more g.S.Witness.notes c.args.witness.now c.loop.witness c.answer_whole.new.witness
            i.2 j.0 i.11 j.4,
      );
    }

pub returns : goal.returns
returns g c =
    let i = c.loop.invariant.ran in
    let whole = i.8 ∙ cut_last (buffers_of i.2) c.loop.connection c.loop.invariant.waits in (
      record {
        pieces = i.0;
        read = i.1;
        executions = i.2;
        reads = i.3;
        counted = c.loop.invariant.reads ∙ sym i.4;
        few = omega (arith, i.4);
        consumed = i.5;
        leads = i.6;
        stretch = λ history. stretch_follows _ _ i.2 _ history i.6;
        ends = (
          ap (λ (x : Cutting). x.buffers) whole,
          inr (omega (arith, c.loop.invariant.reads)),
          i.7,
          i.10,
        );
      },
      i.11,
    )
