use Rattle.std.proofs.Common.{rules, arith, ◌≡◌, ◌∙◌, ◌-◌, ◌+◌, ◌<◌, length, sym, map}
use Rattle.std.proofs.lemmas.Grind.{common_steps}
use Rattle.std.proofs.lemmas.Bool.Decides.{nat_tests}
use Rattle.std.proofs.lemmas.Result.{err_from_is_err_and}
use Rattle.tpm_types_command.specs.AuthEntry.{entry_of}
use Rattle.tpm_bytes.proofs.Joining.{map_push}
use Rattle.tpm_types_command.proofs.EntriesLemmas.{entry_more, entry_refused, no_entry_left, entry_too_many}
use Rattle.tpm_types_command.proofs.auth_area.read_entries.Goals as goal
use Rattle.tpm_types_command.proofs.auth_area.read_entries.Goals.{then-not-is_empty+in_ok-read, else-not-is_empty}

pub loop-preserved : goal.loop-preserved
loop-preserved c =
    elim c.if-not-is_empty.branch [
      | then-not-is_empty+in_ok-read w ↦
          let some : 0 < length c.loop.left = grind (arith, nat_tests) in
          rw (
            w.left-is,
            w.entries-is,
            w.push.ensures.items,
            map_push entry_of c.loop.entries.items w.in_ok-read.field-0,
          ) (record {
            joined = entry_more (map entry_of c.loop.entries.items) (3 - c.loop.counter)
                (3 - (c.loop.counter + 1)) _ c.loop.left w.read.new.text (omega arith) some
                (search rules) ∙ c.loop.invariant.joined;
            few = grind (arith, common_steps);
          })
      | else-not-is_empty w ↦
          let none : length c.loop.left ≡ 0 = grind (arith, nat_tests) in
          rw (w.left-is, w.entries-is) (record {
            joined = no_entry_left (map entry_of c.loop.entries.items) (3 - (c.loop.counter + 1))
                c.loop.left none
                ∙ (sym (no_entry_left (map entry_of c.loop.entries.items) (3 - c.loop.counter)
                c.loop.left none) ∙ c.loop.invariant.joined);
            few = omega arith;
          })
    ]

pub returns-in_err-read : goal.returns-in_err-read
returns-in_err-read c =
    let p = err_from_is_err_and c.from_residual.result c.from_residual.ensures.1 in
    let some : 0 < length c.loop.left = grind (arith, nat_tests) in
    rw (p.1, p.2) (sym c.loop.invariant.joined
    ∙ entry_refused (map entry_of c.loop.entries.items) (3 - c.loop.counter)
    (3 - (c.loop.counter + 1)) _ c.loop.left (omega arith) some (search rules))

pub returns-else-is_empty : goal.returns-else-is_empty
returns-else-is_empty c =
    let some : 0 < length c.loop.left = grind (arith, nat_tests) in
    sym c.loop.invariant.joined
    ∙ (entry_too_many _ (3 - c.loop.counter) c.loop.left (omega arith) some ∙ search rules)
