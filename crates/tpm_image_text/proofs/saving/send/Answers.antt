use Rattle.tpm_image_text.proofs.Sent.{appends_more, front_behind, front_of_more}
use Rattle.tpm_image_text.proofs.saving.send.Goals as goal

pub returns-in_default-clause-cut_off : goal.returns-in_default-clause-cut_off
returns-in_default-clause-cut_off g c =
    front_of_more _ _ c.args.head.now c.args.text.now c.in_default.ensures.cut_off

pub returns-in_default-write_all-clause-cut_off : goal.returns-in_default-write_all-clause-cut_off
returns-in_default-write_all-clause-cut_off g c =
    front_behind _ _ _ c.args.head.now c.args.text.now c.in-Ok.ensures.sent
    c.in_default-write_all.ensures.cut_off

pub returns-clause-written : goal.returns-clause-written
returns-clause-written g c =
    appends_more _ _ _ _ _ c.in-Ok.ensures.sent c.in-Ok-write_all.ensures.sent
