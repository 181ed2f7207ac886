use Rattle.tpm_bytes.specs.Numbers.{numbers_below}
use Rattle.std.proofs.Common.{rules, arith, ◌≡◌, ◌+◌, ◌-◌, ◌∙◌, min, length, filter}
use Rattle.std.proofs.lemmas.List.{length-map, take-map}
use Rattle.tpm_types_common.specs.Pcr.{is_selected}
use Rattle.tpm_types_common.specs.DigestList.{digests_of}
use Rattle.tpm_pcr.specs.Banks.{pcr_value}
use Rattle.tpm_pcr.proofs.Reading.{select_step, selected_pcrs-is, values_count, values_step}
use Rattle.tpm_pcr.proofs.banks.Banks.read_bank.Goals as goal

pub loop-number-preserved : goal.loop-number-preserved
loop-number-preserved c =
    let i = c.loop-number.invariant in
    let n = c.loop-number.number in
    let p = is_selected c.args.bank.now.select in
    let f = pcr_value c.args.self.now c.args.bank.now.hash in
    let front = digests_of c.args.values.now.items in
    let values = digests_of c.loop-number.values.items in
    let is : c.unwrap-pcr.result ≡ n = search rules in
    let counted : length c.loop-number.values.items
    ≡ length c.args.values.now.items + min (8 - length c.args.values.now.items)
    (length (filter p (numbers_below n))) =
    values_count p f n _ _ front values (length-map _ _) (length-map _ _) i.values in
    record {
      select = c.read_pcr.ensures.select ∙ select_step p n _ _ _ _ is counted i.select;
      values = c.read_pcr.ensures.values ∙ values_step p f n _ _ _ front values is counted i.values;
    }

pub returns-clause-select : goal.returns-clause-select
returns-clause-select c =
    let done : c.loop-number.number ≡ 24 = omega arith in
    rw (selected_pcrs-is c.args.bank.now c.loop-number.number done) c.loop-number.invariant.select

pub returns-clause-values : goal.returns-clause-values
returns-clause-values c =
    let done : c.loop-number.number ≡ 24 = omega arith in
    rw (selected_pcrs-is c.args.bank.now c.loop-number.number done, take-map)
    c.loop-number.invariant.values
