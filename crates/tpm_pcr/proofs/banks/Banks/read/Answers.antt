use Rattle.std.proofs.Common.{arith, refl, ◌≡◌, ◌+◌, ◌-◌, ◌∙◌, ◌++◌, ap, sym, min, length, length-append, length-take, append-nil, drop, []}
use Rattle.std.proofs.lemmas.Grind.{common_steps}
use Rattle.std.proofs.lemmas.List.{length-map, drop_all}
use Rattle.tpm_types_common.specs.DigestList.{digests_of}
use Rattle.std.specs.List.{flat_map}
use Rattle.tpm_pcr.specs.Banks.{answer_selection, read_values, selected_pcrs, selected_values}
use Rattle.tpm_pcr.proofs.OwnValues.{own_values}
use Rattle.tpm_pcr.proofs.Reading.{answered_more, read_more, read_values-nil, room_after}
use Rattle.tpm_pcr.proofs.banks.Banks.read.Goals as goal

pub loop-bank-preserved : goal.loop-bank-preserved
loop-bank-preserved c =
    let i = c.loop-bank.invariant in
    let bank = c.bank-item.result in
    let front = digests_of c.loop-bank.values.items in
    let old = length c.loop-bank.values.items in
    let new = length c.read_bank-select.new.values.items in
    let counted : new ≡ old + min (8 - old) (length (selected_pcrs bank)) =
    sym (length-map _ _) ∙ ap length c.read_bank-select.ensures.values ∙ length-append front _
    ∙ rw (length-take, length-map, length-map) refl in
    let left : 8 - new ≡ (8 - old) - length (selected_pcrs bank) =
    room_after old new (length (selected_pcrs bank)) counted in
    record {
      banks =
          rw c.push.ensures.items
          (answered_more (8 - old) (8 - new) c.loop-bank.bank-index _ c.loop-bank.banks.items bank _
          c.loop-bank-test.true c.bank-item.is c.read_bank-select.ensures.select left ∙ i.banks);
      values =
          ap (λ l. l ++ read_values c.args.self.now (8 - new)
          (drop (c.loop-bank.bank-index + 1) c.as_slice-bank-items.result.now))
          c.read_bank-select.ensures.values
          ∙ read_more c.args.self.now (8 - old) (8 - new) c.loop-bank.bank-index _ bank front
          c.loop-bank-test.true c.bank-item.is left ∙ i.values;
      count = grind (arith, common_steps);
    }

pub returns-clause-values : goal.returns-clause-values
returns-clause-values c =
    let items = c.as_slice-bank-items.result.now in
    let none : drop c.loop-bank.bank-index items ≡ [] =
    drop_all c.loop-bank.bank-index items (omega arith) in
    sym (append-nil _)
    ∙ ap (λ l. digests_of c.loop-bank.values.items ++ l)
    (sym (ap (read_values c.args.self.now (8 - length c.loop-bank.values.items)) none
    ∙ read_values-nil c.args.self.now (8 - length c.loop-bank.values.items)))
    ∙ c.loop-bank.invariant.values
    ∙ ap (read_values c.args.self.now 8) c.as_slice-bank-items.ensures.value

pub returns-clause-own : goal.returns-clause-own
returns-clause-own c =
    let items = c.as_slice-bank-items.result.now in
    let room = 8 - length c.loop-bank.values.items in
    let front = c.loop-bank.banks.items in
    let none : drop c.loop-bank.bank-index items ≡ [] =
    drop_all c.loop-bank.bank-index items (omega arith) in
    let answer : front ≡ answer_selection 8 items =
    sym (append-nil _) ∙ ap (λ l. front ++ l) (sym (ap (answer_selection room) none))
    ∙ c.loop-bank.invariant.banks in
    returns-clause-values c
    ∙ ap (read_values c.args.self.now 8) (sym c.as_slice-bank-items.ensures.value)
    ∙ sym (own_values c.args.self.now 8 items)
    ∙ ap (flat_map (selected_values c.args.self.now)) (sym answer)
