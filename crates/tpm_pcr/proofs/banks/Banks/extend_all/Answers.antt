use Rattle.tpm_pcr.proofs.Extending.{extended_more}
use Rattle.tpm_pcr.proofs.banks.Banks.extend_all.Goals as goal

pub loop-digest-preserved : goal.loop-digest-preserved
loop-digest-preserved c =
    let i = c.loop-digest.invariant in
    let more = extended_more c.args.pcr c.args.self.now c.loop-digest.self c.extend_by.new.self
    c.args.digests.now c.loop-digest.digest-index _ c.loop-digest-test.true i.so_far i.counted
    c.extend_by.ensures in
    record { so_far = more.0; counted = more.1; room = i.room }
