use Rattle.std.proofs.Common.{◌≡◌, ℕ, List, [], ◌∷◌, ◌++◌, Result, Ok, Err, ap, sym, ◌∙◌}
use Rattle.std.proofs.lemmas.List.{append-nil, append_assoc}
use Rattle.std.specs.Fmt.{WritesInCalls}
use Rattle.std.specs.List.{FoldsTo, concat}
use Rattle.std.specs.Prelude.{OnOk}
use Rattle.arrayvec.specs.declared.array_string.ArrayString.{ArrayString}
use Rattle.tpmsim_web.proofs.report.write_fault.Goals as goal

on_ok : {A E : Type 0} (r : Result A E) (P Q : Type 0) → (P → Q) → OnOk r P → OnOk r Q
on_ok (Ok done) P Q so p = so p
on_ok (Err e) P Q so p = tt

-- the call appends these bytes to a string
abbrev Appended : ArrayString 256 → List ℕ → ArrayString 256 → Type 0
Appended old bytes new = new.bytes ≡ old.bytes ++ bytes

after_calls : (old : ArrayString 256) (parts : List (List ℕ)) (new : ArrayString 256)
    → FoldsTo Appended old parts new → new.bytes ≡ old.bytes ++ concat parts
after_calls old [] new folds = ap (λ (s : ArrayString 256). s.bytes) (sym folds)
    ∙ sym (append-nil old.bytes)
after_calls old (part ∷ parts) new folds =
    after_calls folds.0 parts new folds.2
    ∙ ap (λ (bytes : List ℕ). bytes ++ concat parts) folds.1
    ∙ append_assoc old.bytes part (concat parts)

appended : (old new : ArrayString 256) (bytes : List ℕ) → WritesInCalls Appended old bytes new
    → new.bytes ≡ old.bytes ++ bytes
appended old new bytes writes = after_calls old writes.parts new writes.calls
    ∙ ap (λ (all : List ℕ). old.bytes ++ all) writes.whole

pub returns : goal.returns
returns c = on_ok c.writeln.result _ _ (appended c.args.text.now c.writeln.new.self _)
    c.writeln.ensures.writes
