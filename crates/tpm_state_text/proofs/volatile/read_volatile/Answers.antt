use Rattle.std.proofs.Common.{rules, ◌≡◌}
use Rattle.tpm_record.specs.Objects.{objects_of}
use Rattle.tpm_record.specs.Record.{Record}
use Rattle.tpm_session.specs.Sessions.{places_of}
use Rattle.tpm_state_text.proofs.Resuming.{resumes}
use Rattle.tpm_state_text.proofs.volatile.read_volatile.Goals as goal

pub returns : goal.returns
returns g c =
    let r : Record = g.K.Keep.record_of c.args.keep.now in
    let old = c.fixed_mut-fixed.result.now in
    let sessions = places_of g.K.Se.Slots.places c.read_sessions.new.sessions in
    let objects = objects_of g.K.ObjectSlots.Slots.places c.read_transients.new.objects in
    let fixed = record old {
      started = c.in-Ok.started;
      banks = c.in-Ok-read_banks.banks;
      time =
          c.in-Ok-read_u64.time;
      lockout = c.resume-fixed.result;
    } in
    let written : g.K.Keep.record_of
    (g.K.Keep.with_objects
    (g.K.Keep.with_sessions (g.K.Keep.with_fixed c.args.keep.now fixed)
    c.read_sessions.new.sessions) c.read_transients.new.objects)
    ≡ record r { fixed = fixed; sessions = sessions; objects = objects } = search rules in
    resumes r old c.resume-fixed.result c.fields.result c.in-Ok.started c.in-Ok-read_banks.banks
    c.in-Ok-read_u64.time c.in-Ok-read_lockout_time.forgiving_time
    c.in-Ok-read_lockout_time-2.closed_time sessions objects _ _ _ _ _ _ _ _ _
    c.fixed_mut-fixed.ensures.value c.fields.ensures.value c.resume-fixed.ensures written
    c.in-Ok.ensures c.in-Ok-read_banks.ensures c.in-Ok-read_u64.ensures
    c.in-Ok-read_lockout_time.ensures.exact c.in-Ok-read_lockout_time-2.ensures.exact
    c.in_ok-read_sessions.ensures c.in_ok-read_transients.ensures
