-- Lemmas about printed output, of which one part is written and the rest is buffered.
use Rattle.std.proofs.Common.{◌≡◌, ℕ, ◌+◌, ◌≤◌, List, [], ◌++◌, length, take, Option, Some, None, sym, ap, ◌∙◌, append_assoc, append-nil, length-append}
use Rattle.std.proofs.lemmas.List.{length-take-le, take-take, take_at}
use Rattle.std.specs.Io.KnownBytes.{Appends, Keeps, append_known}

-- The printed output includes the buffered output. Therefore writing the buffer leaves the printed
-- output unchanged.
pub written : (old new : Option (List ℕ)) (held : List ℕ) → Appends old new held
    → Keeps (append_known old held) (append_known new [])
written None new held h = tt
written (Some old) None held h = absurd h
written (Some old) (Some new) held h = append-nil new ∙ h

-- Output counts as printed as soon as it is in the buffer.
pub held : (known : Option (List ℕ)) (old more : List ℕ)
    → Appends (append_known known old) (append_known known (old ++ more)) more
held None old more = tt
held (Some known) old more = sym (append_assoc known old more)

-- Copying a line to the offset directly after the buffered output extends the buffered output by
-- the line.
pub put_behind : (items held line printed rest tail : List ℕ) (used end size : ℕ) → held ≡ items
    → line ≡ printed → used ≤ length items → end ≡ used + length printed → end ≤ size
    → take end (take size (take used held ++ (line ++ rest) ++ tail)) ≡ take used items ++ printed
put_behind items held line printed rest tail used end size a b inside e fits =
    let front : take used held ++ (line ++ rest) ++ tail ≡ (take used items ++ printed)
    ++ (rest ++ tail) =
    ap (λ (l : List ℕ). take used l ++ (line ++ rest) ++ tail) a
    ∙ ap (λ (l : List ℕ). take used items ++ (l ++ rest) ++ tail) b ∙ simp append_assoc in
    let whole : length (take used items ++ printed) ≡ end =
    length-append (take used items) printed
    ∙ ap (λ n. n + length printed) (length-take-le used items inside) ∙ sym e in
    take-take end size (take used held ++ (line ++ rest) ++ tail) fits ∙ ap (take end) front
    ∙ take_at (take used items ++ printed) (rest ++ tail) end whole
