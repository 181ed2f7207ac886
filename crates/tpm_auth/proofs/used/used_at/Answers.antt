use Rattle.std.proofs.Common.{length, refl, ap, sym, ◌∙◌, slice_get}
use Rattle.std.proofs.lemmas.Option.{slice_get_read, slice_get_past}
use Rattle.tpm_types_command.specs.Command.{whole_of}
use Rattle.tpm_commands.specs.CommandCode.{authorized_handles}
use Rattle.tpm_auth.proofs.Resolving.{nothing_in, used_in}
use Rattle.tpm_auth.proofs.used.used_at.Goals as goal

pub returns-in-Some : goal.returns-in-Some
returns-in-Some c r is =
    let command = whole_of c.args.sent.now.command.now in
    let place = c.args.place in
    let first = c.authorized.result.now in
    let lookup = c.in-Some.ensures.lookup in
    let here = slice_get_read first (length first) place c.in-Some.resolved.now refl lookup.3.0
    lookup.1 in
    used_in r command.handles c.args.sent.now.entities.now (authorized_handles command.code) place
    c.in-Some.resolved.now is.found (ap (λ l. slice_get l place) (sym c.authorized.ensures)
    ∙ here)

pub returns-in-None : goal.returns-in-None
returns-in-None c r is =
    let command = whole_of c.args.sent.now.command.now in
    let place = c.args.place in
    let first = c.authorized.result.now in
    let lookup = c.in-None.ensures.lookup in
    let none = slice_get_past first place lookup.3 in
    nothing_in r command.handles c.args.sent.now.entities.now (authorized_handles command.code)
    place is.found (ap (λ l. slice_get l place) (sym c.authorized.ensures) ∙ none)
