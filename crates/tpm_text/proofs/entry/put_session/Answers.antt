use Rattle.std.proofs.Common.{rules, refl}
use Rattle.std.proofs.lemmas.Result.{err_from_is_err_and}
use Rattle.std.specs.Int.{w8, w32, to_be_bytes}
use Rattle.tpm_text.specs.Draft.{drafted_bytes}
use Rattle.tpm_text.specs.EntryPieces.{four_of}
use Rattle.tpm_text.proofs.EntryTexts.{no_session_text, parts_drafted, session_text}
use Rattle.tpm_text.proofs.Growing.{drafts_err, drafts_ok}
use Rattle.tpm_text.proofs.entry.put_session.Goals as goal

pub returns-in_err-pieces : goal.returns-in_err-pieces
returns-in_err-pieces c =
    let p = err_from_is_err_and c.from_residual.result c.from_residual.ensures.1 in
    rw (p.1, p.2, no_session_text c.args.text.now c.in_err-pieces.field-0.0 c.in_err-pieces.ensures)
    refl

pub returns-in_err-handle_in : goal.returns-in_err-handle_in
returns-in_err-handle_in c =
    let p = err_from_is_err_and c.from_residual-in_err-handle_in.result
    c.from_residual-in_err-handle_in.ensures.1 in
    rw (
      p.1,
      p.2,
      session_text c.args.text.now (four_of c.in_ok-pieces.pieces)
          c.in_ok-pieces.ensures,
      c.in_err-handle_in.ensures,
    ) refl

pub returns-in_err-put_buffer : goal.returns-in_err-put_buffer
returns-in_err-put_buffer c =
    let p = err_from_is_err_and c.from_residual-in_err-put_buffer.result
    c.from_residual-in_err-put_buffer.ensures.1 in
    let nonce = drafts_err _ _ _ _ _ c.in_err-put_buffer.was c.put_buffer.ensures in
    rw (
      p.1,
      p.2,
      session_text c.args.text.now (four_of c.in_ok-pieces.pieces)
          c.in_ok-pieces.ensures,
      c.in_ok-handle_in.ensures,
      nonce,
    ) refl

pub returns-in_err-octet_in : goal.returns-in_err-octet_in
returns-in_err-octet_in c =
    let p = err_from_is_err_and c.from_residual-in_err-octet_in.result
    c.from_residual-in_err-octet_in.ensures.1 in
    let nonce = drafts_ok _ _ _ _ c.in_ok-put_buffer.was c.put_buffer.ensures in
    rw (
      p.1,
      p.2,
      session_text c.args.text.now (four_of c.in_ok-pieces.pieces)
          c.in_ok-pieces.ensures,
      c.in_ok-handle_in.ensures,
      nonce.1,
      c.in_err-octet_in.ensures,
    )
    refl

pub returns : goal.returns
returns c =
    let nonce = drafts_ok _ _ _ _ c.in_ok-put_buffer.was c.put_buffer.ensures in
    rw (
      session_text c.args.text.now (four_of c.in_ok-pieces.pieces) c.in_ok-pieces.ensures,
      c.in_ok-handle_in.ensures,
      nonce.1,
      c.in_ok-octet_in.ensures,
    )
    (parts_drafted (to_be_bytes w32 c.in_ok-handle_in.field-0.number)
    (to_be_bytes w8 c.in_ok-octet_in.field-0) nonce.0 _ _ (drafted_bytes c.put.new.self)
    (drafted_bytes c.put_buffer.new.self) (drafted_bytes c.put-2.new.self) _ _ (search rules)
    nonce.2 (search rules) c.put_buffer-2.ensures)
