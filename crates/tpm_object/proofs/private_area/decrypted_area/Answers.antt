use Rattle.std.proofs.Common.{◌≡◌, ℕ, List, Ok, arith, rules, subst, sym}
use Rattle.tpm_bytes.specs.Reading.{sized_at}
use Rattle.tpm_object.proofs.Wrapping.{decrypted_law, long_area_refused}
use Rattle.tpm_object.proofs.private_area.decrypted_area.Goals as goal

pub returns-clause-found : goal.returns-clause-found
returns-clause-found c =
    let found = c.in_ok-found.found.now in
    let iv : List ℕ = c.copy_from_slice.new.self in
    let rest = c.rest-encrypted.result.now in
    let read : sized_at 16 c.args.protected.now ≡ Ok (found, rest) = search rules in
    let same : iv ≡ found = c.copy_from_slice.ensures.after in
    decrypted_law c.args.parent.now c.args.name.now c.args.protected.now iv rest
    c.decrypted-plain.result.items
    c.area_in.result c.new-text.ensures.bytes
    (subst (λ (l : List ℕ). sized_at 16 c.args.protected.now ≡ Ok (l, rest)) (sym same) read)
    (search rules) c.decrypted-plain.ensures.undone (search rules)

pub returns-then-encrypted-gt-AREA_LIMIT-clause-value : goal.returns-then-encrypted-gt-AREA_LIMIT-clause-value
returns-then-encrypted-gt-AREA_LIMIT-clause-value c =
    let found = c.in_ok-found.found.now in
    let rest = c.rest-encrypted.result.now in
    let read : sized_at 16 c.args.protected.now ≡ Ok (found, rest) = search rules in
    sym (long_area_refused c.args.parent.now c.args.name.now c.args.protected.now found rest read
    (omega arith) (omega arith))
