use Rattle.std.proofs.Common.{refl}
use Rattle.tpm_image_text.specs.Body.{state_in}
use Rattle.tpm_image_text.specs.NonVolatile.{KeptState}
use Rattle.tpm_image_text.proofs.body.read_state.Goals as goal

pub returns : goal.returns
unfolding state_in
returns c =
    let state : KeptState = record {
      hierarchies = c.in_ok-fixed.field-0;
      disable_clear = c.in_ok-fixed-2.field-0;
      lockout = c.in_ok-read_lockout.field-0;
      clock = c.in_ok-fixed-3.field-0;
      reset_count = c.in_ok-fixed-4.field-0;
      restart_count = c.in_ok-fixed-5.field-0;
      max_count = c.in_ok-max_count.max_count;
      saved = c.in_ok-fixed-6.field-0;
    } in (
      state,
      rw (
        c.in_ok-fixed.ensures,
        c.in_ok-fixed-2.ensures,
        c.in_ok-read_lockout.ensures,
        c.in_ok-fixed-3.ensures,
        c.in_ok-fixed-4.ensures,
        c.in_ok-fixed-5.ensures,
        c.in_ok-max_count.ensures,
        c.in_ok-fixed-6.ensures,
      ) refl,
      rw c.restore-fixed.ensures refl,
      refl,
    )
