use Rattle.std.proofs.Common.{◌≡◌, rules}
use Rattle.tpm_types_object.specs.Public.{object_type, object_type_number}
use Rattle.tpm_object.proofs.Wrapping.{unwrapped_found}
use Rattle.tpm_object.proofs.private_area.unwrap_named.Goals as goal

pub returns-clause-found : goal.returns-clause-found
returns-clause-found c =
    let area = c.in_ok-area.area in
    let number : object_type_number area.object_type
    ≡ object_type_number (object_type c.args.public.now) = search rules in
    unwrapped_found c.args.parent.now c.args.public.now c.args.name.now c.args.private.now
    c.in_ok-protected.protected.now area c.requires c.in_ok-protected.ensures.bytes
    c.in_ok-protected.ensures.value
    c.in_ok-area.ensures.found number
