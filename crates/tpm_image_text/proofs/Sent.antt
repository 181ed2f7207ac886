-- If bytes are written in two parts, and the write of either part is cut off, a prefix of the bytes
-- is appended.
use Rattle.std.proofs.Common.{ℕ, List, ◌++◌, Option, Some, None, ap, ◌∙◌, append_assoc, sym}
use Rattle.std.specs.Io.KnownBytes.{Appends}
use Rattle.tpm_bytes.specs.Tap.{AppendsFront}

pub appends_more : (a b c : Option (List ℕ)) (xs ys : List ℕ) → Appends a b xs → Appends b c ys
    → Appends a c (xs ++ ys)
appends_more None b c xs ys h k = tt
appends_more (Some a) None c xs ys h k = absurd h
appends_more (Some a) (Some b) None xs ys h k = absurd k
appends_more (Some a) (Some b) (Some c) xs ys h k =
    k ∙ ap (λ (l : List ℕ). l ++ ys) h ∙ append_assoc a xs ys

pub front_of_more : (a b : Option (List ℕ)) (xs ys : List ℕ) → AppendsFront a b xs
    → AppendsFront a b (xs ++ ys)
front_of_more a b xs ys h =
    (h.0, h.1 ++ ys, ap (λ (l : List ℕ). l ++ ys) h.2 ∙ append_assoc h.0 h.1 ys, h.3)

pub front_behind : (a b c : Option (List ℕ)) (xs ys : List ℕ) → Appends a b xs → AppendsFront b c ys
    → AppendsFront a c (xs ++ ys)
front_behind a b c xs ys h k = (
  xs ++ k.0,
  k.1,
  ap (λ (l : List ℕ). xs ++ l) k.2 ∙ sym (append_assoc xs k.0 k.1),
  appends_more a b c xs k.0 h k.3,
)
