use Rattle.std.proofs.Common.{sym, ap, ◌∙◌, ◌++◌, List, ℕ, append-nil, arith}
use Rattle.tpm_types_common.proofs.BanksLemmas.{bank_written, banks_text-nil}
use Rattle.tpm_types_common.proofs.pcr_selection.append_banks.Goals as goal

pub loop-bank-init : goal.loop-bank-init
loop-bank-init g c = record {
  so_far = sym (ap (λ (l : List ℕ). c.args.sink.now ++ l) banks_text-nil
      ∙ append-nil c.args.sink.now);
  size = omega arith;
  room = c.requires;
}

pub loop-bank-preserved : goal.loop-bank-preserved
loop-bank-preserved g c =
    let i = c.loop-bank.invariant in
    let w = bank_written c.args.banks.now c.loop-bank.bank-index c.bank-item.result c.args.sink.now
    c.loop-bank.sink _ c.loop-bank-test.true c.bank-item.is i.so_far i.size
    c.append_to.ensures in
    record { so_far = w.0; size = w.1; room = i.room }
