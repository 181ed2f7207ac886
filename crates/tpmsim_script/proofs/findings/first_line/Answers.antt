use Rattle.std.proofs.Common.{rules, ◌≡◌, ◌==◌, ℕ, None, Some}
use Rattle.std.specs.List.{position}
use Rattle.tpmsim_script.proofs.FirstLine.{line_found, line_is_last}
use Rattle.tpmsim_script.proofs.findings.first_line.Goals as goal

pub returns-in-Some : goal.returns-in-Some
returns-in-Some c =
    let at : position (λ (byte : ℕ). byte == 10) c.args.text.now ≡ Some c.in-Some.end =
    search rules in
    λ some. line_found c.args.text.now c.in-Some.end at

pub returns-in-None : goal.returns-in-None
returns-in-None c =
    let none : position (λ (byte : ℕ). byte == 10) c.args.text.now ≡ None = search rules in
    λ some. line_is_last c.args.text.now none some
