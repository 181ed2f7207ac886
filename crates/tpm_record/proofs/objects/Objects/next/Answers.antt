use Rattle.std.proofs.Common.{rules, of_calls, arith, ◌≡◌, ℕ, Bool, true, sym, ap, ◌∙◌}
use Rattle.std.specs.Prelude.{Some, option_map}
use Rattle.tpm_containers.specs.Numbered.{number_of}
use Rattle.tpm_types_common.specs.Limits.{object_limit}
use Rattle.tpm_record.specs.AnyObject.{is_from}
use Rattle.tpm_record.specs.Objects.{objects_of}
use Rattle.tpm_record.proofs.Searching.{found_least}
use Rattle.tpm_record.proofs.objects.Objects.next.Goals as goal

pub returns-then-is_there : goal.returns-then-is_there
returns-then-is_there g c =
    let test : ℕ → Bool = is_from (objects_of g.O.Slots.places c.args.self.now) c.args.from.number in
    let passes : test c.loop-place.place ≡ true = search (rules, of_calls) in
    ap (λ (n : ℕ). Some n) c.number_of.ensures
    ∙ sym (ap (option_map (number_of 0x80))
    (found_least test c.loop-place.place object_limit c.loop-place.invariant passes
    (omega arith)))
