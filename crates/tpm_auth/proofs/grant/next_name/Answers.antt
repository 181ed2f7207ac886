use Rattle.std.proofs.Common.{◌≡◌, Some, ap, sym, ◌∙◌}
use Rattle.std.proofs.lemmas.Bool.{eqb-true}
use Rattle.tpm_auth.proofs.Resolving.{next_again, next_named}
use Rattle.tpm_auth.proofs.grant.next_name.Goals as goal

pub returns-in-Some : goal.returns-in-Some
returns-in-Some g c =
    let first = c.resolved_at-first.result in
    let resolved = c.resolved_at-resolved.result in
    let same : first.handle.number ≡ resolved.handle.number =
    eqb-true _ _ (sym c.eq.ensures ∙ c.if-eq.true) in
    ap Some c.copy.ensures ∙ next_again _ _ _ _ _ first resolved _ c.requires.resolved.found
    c.requires.named c.resolved_at-first.ensures c.resolved_at-resolved.ensures
    (sym c.in-Some.ensures.value) same

pub returns-in_default : goal.returns-in_default
returns-in_default g c = next_named _ _ _ _ c.resolved_at-resolved.result _
    c.requires.resolved.found c.resolved_at-resolved.ensures c.name_of.ensures
