-- Lemmas about the pieces in which a stream is read.
use Rattle.tpm_types_common.specs.Limits.{buffer_limit}
use Rattle.std.proofs.Common.{◌≡◌, ℕ, ◌+◌, ◌<◌, ◌≤◌, List, [], ◌∷◌, ◌++◌, length, None, false, refl, sym, ap, subst, ◌∙◌, append-nil, append_assoc, length-append, arith}
use Rattle.std.proofs.lemmas.Fn.{FoldsTo-push}
use Rattle.std.specs.List.{FoldsTo}
use Rattle.tpm_machine.specs.Executions.{Execution}
use Rattle.tpm_wire.specs.Serve.{AreFirst, ReadsPiece, buffers_of}
use Rattle.tpm_wire.specs.Stream.{Cutting, Stream, cut_of, cut_with, fed_stream, next_of}
use Rattle.tpm_wire.proofs.Cutting.{cut_last}
use Rattle.tpm_wire.proofs.Executing.{buffers_more}

first_still : (buffers done more : List (List ℕ)) → AreFirst buffers done
    → AreFirst buffers (done ++ more)
first_still buffers done more first = (
  first.0 ++ more,
  ap (λ (l : List (List ℕ)). l ++ more) first.1
      ∙ append_assoc buffers first.0 more,
)

-- Executing more buffers does not change the pieces that were read.
pub pieces_stay : (done more : List (List ℕ)) (start : List ℕ) (pieces : List (List ℕ))
    (read : List ℕ) → FoldsTo (ReadsPiece done) start pieces read
    → FoldsTo (ReadsPiece (done ++ more)) start pieces read
pieces_stay done more start [] read run = run
pieces_stay done more start (piece ∷ pieces) read run =
    let one = run.1 in (
      run.0,
      (one.0, one.1, one.2, one.3, first_still _ done more one.4),
      pieces_stay done more run.0 pieces read run.2,
    )

one_piece : (done more pieces : List (List ℕ)) (read bytes : List ℕ) (s : Stream)
    → FoldsTo (ReadsPiece done) [] pieces read → cut_of read ≡ cut_with done s → next_of s ≡ None
    → s.ended ≡ false → 0 < length bytes → length (fed_stream s bytes).taken ≤ buffer_limit
    → FoldsTo (ReadsPiece (done ++ more)) [] (pieces ++ bytes ∷ []) (read ++ bytes)
one_piece done more pieces read bytes s run is none lives some fits =
    let whole = is ∙ cut_last done s none in
    let rest : length (cut_of read).rest ≡ length s.taken =
    ap (λ (c : Cutting). length c.rest) whole in
    let first : AreFirst (cut_of read).buffers done =
    ([], ap (λ (c : Cutting). c.buffers) (sym whole) ∙ sym (append-nil _)) in
    FoldsTo-push (ReadsPiece (done ++ more)) [] pieces read bytes (read ++ bytes)
    (pieces_stay done more [] pieces read run) (
      refl,
      some,
      omega (arith, rest, fits, length-append s.taken bytes),
      ap (λ (c : Cutting). c.ended) whole ∙ lives,
      first_still _ done more first,
    )

-- After one more piece is read and more buffers are executed, all pieces satisfy `ReadsPiece`.
pub piece_more : (first more : List Execution) (pieces : List (List ℕ)) (read bytes : List ℕ)
    (s : Stream) → FoldsTo (ReadsPiece (buffers_of first)) [] pieces read
    → cut_of read ≡ cut_with (buffers_of first) s → next_of s ≡ None → s.ended ≡ false
    → 0 < length bytes → length (fed_stream s bytes).taken ≤ buffer_limit
    → FoldsTo (ReadsPiece (buffers_of (first ++ more))) [] (pieces ++ bytes ∷ []) (read ++ bytes)
piece_more first more pieces read bytes s run is none lives some fits =
    subst (λ (done : List (List ℕ)). FoldsTo (ReadsPiece done) [] (pieces ++ bytes ∷ [])
    (read ++ bytes)) (sym (buffers_more first more))
    (one_piece (buffers_of first) (buffers_of more) pieces read bytes s run is none lives some fits)

-- One more piece raises the count of reads by one, and the count does not exceed the limit for
-- one connection.
pub pieces_fit : (pieces : List (List ℕ)) (piece : List ℕ) (reads : ℕ) → length pieces ≡ reads
    → reads < 1048576 → (length (pieces ++ piece ∷ []) ≡ reads + 1)
    × (length (pieces ++ piece ∷ []) ≤ 1048576)
pieces_fit pieces piece reads so few =
    let one = length-append pieces (piece ∷ []) in
    (omega (arith, one, so), omega (arith, one, so, few))
