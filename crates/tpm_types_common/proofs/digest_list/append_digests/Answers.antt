use Rattle.std.proofs.Common.{sym, ap, ◌∙◌, ◌++◌, List, ℕ, append-nil, arith}
use Rattle.tpm_types_common.proofs.DigestLemmas.{digest_written, digests_text-nil}
use Rattle.tpm_types_common.proofs.digest_list.append_digests.Goals as goal

pub loop-digest-init : goal.loop-digest-init
loop-digest-init g c = record {
  so_far = sym (ap (λ (l : List ℕ). c.args.sink.now ++ l) digests_text-nil
      ∙ append-nil c.args.sink.now);
  small = omega arith;
  room = c.requires;
}

pub loop-digest-preserved : goal.loop-digest-preserved
loop-digest-preserved g c =
    let i = c.loop-digest.invariant in
    let w = digest_written c.args.digests.now c.loop-digest.digest-index c.digest-item.result
    c.as_slice.result.now c.args.sink.now c.loop-digest.sink _ c.loop-digest-test.true
    c.digest-item.is c.as_slice.ensures.value c.as_slice.ensures.fits i.so_far i.small
    c.append_sized.ensures in
    record { so_far = w.0; small = w.1; room = i.room }
