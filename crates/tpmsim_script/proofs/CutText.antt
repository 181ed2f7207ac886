-- Lemmas about output that was printed and then truncated.
use Rattle.std.proofs.Common.{◌≡◌, ℕ, List, [], ◌++◌, Option, Some, None, sym, ap, ◌∙◌, append_assoc, append-nil}
use Rattle.std.specs.Prelude.{Result, Ok, Err, OnErr}
use Rattle.std.specs.Io.KnownBytes.{Appends, Keeps, append_known}
use Rattle.tpm_bytes.specs.Tap.{AppendsFront}
use Rattle.tpmsim_script.specs.Answers.{CutOff}

-- If only a prefix of the buffered output was written, and the rest was dropped, the new contents
-- are a prefix of the old output.
pub cut_writing : (old new : Option (List ℕ)) (held : List ℕ) → AppendsFront old new held
    → CutOff (append_known old held) (append_known new [])
cut_writing None new held h = tt
cut_writing (Some old) None held h = absurd h.3
cut_writing (Some old) (Some new) held h =
    let wrote : new ++ [] ≡ old ++ h.0 = append-nil new ∙ h.3 in (
      h.1,
      ap (λ (l : List ℕ). old ++ l) h.2 ∙ sym (append_assoc old h.0 h.1)
          ∙ ap (λ (l : List ℕ). l ++ h.1) (sym wrote),
    )

pub on_err : {X E : Type 0} (result : Result X E) (fact : Type 0) → fact → OnErr result fact
on_err (Ok x) fact h = tt
on_err (Err e) fact h = h

pub cut_then_kept : (a b c : Option (List ℕ)) → CutOff a b → Keeps b c → CutOff a c
cut_then_kept None b c h k = tt
cut_then_kept (Some a) None c h k = absurd h
cut_then_kept (Some a) (Some b) None h k = absurd k
cut_then_kept (Some a) (Some b) (Some c) h k = (h.0, h.1 ∙ ap (λ (l : List ℕ). l ++ h.0) (sym k))

-- A prefix of a prefix of an output is a prefix of the output.
pub cut_twice : (a b c : Option (List ℕ)) → CutOff a b → CutOff b c → CutOff a c
cut_twice None b c h k = tt
cut_twice (Some a) None c h k = absurd h
cut_twice (Some a) (Some b) None h k = absurd k
cut_twice (Some a) (Some b) (Some c) h k =
    (k.0 ++ h.0, h.1 ∙ ap (λ (l : List ℕ). l ++ h.0) k.1 ∙ append_assoc c k.0 h.0)

-- A prefix of an output is also a prefix of any longer output that begins with that output.
pub cut_longer : (a b : Option (List ℕ)) (more : List ℕ) → CutOff a b
    → CutOff (append_known a more) b
cut_longer None b more h = tt
cut_longer (Some a) None more h = absurd h
cut_longer (Some a) (Some b) more h =
    (h.0 ++ more, ap (λ (l : List ℕ). l ++ more) h.1 ∙ append_assoc b h.0 more)

-- If a text was printed, and the output was truncated after that, the result is a prefix of the old
-- output followed by the text.
pub cut_behind : (a b c : Option (List ℕ)) (text : List ℕ) → Appends a b text → CutOff b c
    → CutOff (append_known a text) c
cut_behind None b c text h k = tt
cut_behind (Some a) None c text h k = absurd h
cut_behind (Some a) (Some b) None text h k = absurd k
cut_behind (Some a) (Some b) (Some c) text h k = (k.0, sym h ∙ k.1)

-- Suppose that one text is printed completely, and a second text only in part. Then the result is a
-- prefix of the old output followed by both texts.
pub cut_within : (a b c d : Option (List ℕ)) (text more : List ℕ) → Appends a b text → Keeps b c
    → CutOff (append_known c more) d → CutOff (append_known a (text ++ more)) d
cut_within None b c d text more h k cut = tt
cut_within (Some a) None c d text more h k cut = absurd h
cut_within (Some a) (Some b) None d text more h k cut = absurd k
cut_within (Some a) (Some b) (Some c) None text more h k cut = absurd cut
cut_within (Some a) (Some b) (Some c) (Some d) text more h k cut =
    (cut.0, sym (append_assoc a text more) ∙ ap (λ (l : List ℕ). l ++ more) (sym (k ∙ h)) ∙ cut.1)

-- Suppose that a text is printed, and that the output is then truncated within a second text. Then
-- the result is a prefix of the old output followed by both texts.
pub cut_after : (a b d : Option (List ℕ)) (text more : List ℕ) → Appends a b text
    → CutOff (append_known b more) d → CutOff (append_known a (text ++ more)) d
cut_after None b d text more h cut = tt
cut_after (Some a) None d text more h cut = absurd h
cut_after (Some a) (Some b) None text more h cut = absurd cut
cut_after (Some a) (Some b) (Some d) text more h cut =
    (cut.0, sym (append_assoc a text more) ∙ ap (λ (l : List ℕ). l ++ more) (sym h) ∙ cut.1)

-- If two texts were printed one after the other, their concatenation was printed.
pub printed_on : (a b c d : Option (List ℕ)) (text more : List ℕ) → Appends a b text → Keeps b c
    → Appends c d more → Appends a d (text ++ more)
printed_on None b c d text more h k m = tt
printed_on (Some a) None c d text more h k m = absurd h
printed_on (Some a) (Some b) None d text more h k m = absurd k
printed_on (Some a) (Some b) (Some c) None text more h k m = absurd m
printed_on (Some a) (Some b) (Some c) (Some d) text more h k m =
    m ∙ ap (λ (l : List ℕ). l ++ more) (k ∙ h) ∙ append_assoc a text more

pub printed_yet : (a b c : Option (List ℕ)) (text : List ℕ) → Appends a b text → Keeps b c
    → Appends a c text
printed_yet None b c text h k = tt
printed_yet (Some a) None c text h k = absurd h
printed_yet (Some a) (Some b) None text h k = absurd k
printed_yet (Some a) (Some b) (Some c) text h k = k ∙ h

pub nothing_printed_yet : (a : Option (List ℕ)) → Appends a a []
nothing_printed_yet None = tt
nothing_printed_yet (Some a) = sym (append-nil a)
