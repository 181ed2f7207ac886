use Rattle.std.proofs.Common.{rules, ◌≡◌, ◌==◌, ℕ, [], None, Some, ap, sym, get_or}
use Rattle.std.specs.List.{position}
use Rattle.tpm_text.proofs.Cutting.{cut_found, cut_none}
use Rattle.tpm_help.proofs.wanted.first_token.Goals as goal

pub returns-in-Some : goal.returns-in-Some
returns-in-Some c =
    let at : position (λ (byte : ℕ). byte == 32) c.args.words.now ≡ Some c.in-Some.place =
    search rules in
    sym (ap (λ tokens. get_or tokens 0 []) (cut_found 32 c.args.words.now c.in-Some.place at))

pub returns-in-None : goal.returns-in-None
returns-in-None c =
    let none : position (λ (byte : ℕ). byte == 32) c.args.words.now ≡ None = search rules in
    sym (ap (λ tokens. get_or tokens 0 []) (cut_none 32 c.args.words.now none))
