-- A log that was notified of executions contains their entries.
use Rattle.std.proofs.Common.{◌≡◌, ℕ, List, [], ◌∷◌, map, Option, Some, None, refl, sym, ap, ◌∙◌, subst}
use Rattle.std.proofs.KnownBytes.{Appends-nil, Appends-trans}
use Rattle.std.specs.Io.KnownBytes.{Appends}
use Rattle.std.specs.List.{FoldsTo}
use Rattle.tpm_machine.specs.Executions.{Execution}
use Rattle.tpm_journal_text.specs.Entry.{PlainEntry}
use Rattle.tpm_journal_text.specs.Journal.{entries_text, sum_after_all}
use Rattle.tpmsim_image.specs.log.Executed.{entry_in}
use Rattle.tpmsim_image.specs.log.Log.{Adds, AddsAll, AddsSome, Written}

behind_first : (old mid new : Written) (one : Execution) (found : Option PlainEntry)
    (executions : List Execution)
    → entry_in one ≡ found → AddsSome old found mid → AddsAll mid executions new
    → AddsAll old (one ∷ executions) new
behind_first old mid new one None executions is adds all = absurd adds
behind_first old mid new one (Some e) executions is adds all = record {
  entries = e ∷ all.entries;
  are = ap (λ (o : Option PlainEntry). o ∷ map entry_in executions) is
      ∙ ap (λ (l : List (Option PlainEntry)). Some e ∷ l) all.are;
  entry = (adds.is, all.entry);
  text = Appends-trans _ _ _ _ _ adds.text
      (subst (λ (sum : ℕ). Appends mid.text new.text (entries_text sum all.entries)) adds.sum
      all.text);
  sum = all.sum ∙ ap (λ (sum : ℕ). sum_after_all sum all.entries) adds.sum;
}

pub tells_all : (old : Written) (executions : List Execution) (new : Written)
    → FoldsTo Adds old executions new → AddsAll old executions new
tells_all old [] new told = record {
  entries = [];
  are = refl;
  entry = tt;
  text = subst (λ (w : Written). Appends old.text w.text []) told (Appends-nil _);
  sum = ap (λ (w : Written). w.sum) (sym told);
}
tells_all old (one ∷ executions) new told =
    behind_first old told.0 new one (entry_in one) executions refl told.1
    (tells_all told.0 executions new told.2)
