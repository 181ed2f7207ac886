use Rattle.std.proofs.Common.{arith, ◌≡◌, ℕ, length, List, [], ◌∷◌, ◌++◌, take, drop, ap, sym, ◌∙◌}
use Rattle.std.proofs.lemmas.List.{take_at}
use Rattle.tpmsim_script.specs.Report.{fault_text}
use Rattle.tpmsim_web.proofs.report.put_fault.Goals as goal

front : (text rest new : List ℕ) (size : ℕ) → size ≡ length text → new ≡ text ++ rest
    → take size new ≡ text
front text rest new size is same = ap (take size) same ∙ take_at text rest size (sym is)

pub returns-in-Ok : goal.returns-in-Ok
returns-in-Ok c = λ fits.
    front c.as_bytes.result.now (drop c.put_front.result c.args.report.now) c.put_front.new.buffer
    c.put_front.result c.put_front.ensures.0
    (c.put_front.ensures.1 (omega (arith, fits, c.told-report)))
    ∙ c.as_bytes.ensures.value ∙ c.as_str.ensures.value ∙ c.in-Ok.ensures
    ∙ ap (λ (before : List ℕ). before
    ++ (fault_text c.args.number c.args.bad.fault c.wanted_text.result.now ++ 10 ∷ []))
    c.new-text.ensures
    ∙ ap (λ (word : List ℕ). fault_text c.args.number c.args.bad.fault word ++ 10 ∷ [])
    c.wanted_text.ensures
