use Rattle.tpmsim_web.proofs.device.Device.execute.Goals as goal

-- the results of an execution satisfy what `put_trace` requires
pub put_trace-traced-requires-clause-row : goal.put_trace-traced-requires-clause-row
put_trace-traced-requires-clause-row c =
    (c.traceable_laws.ensures _ _ _ _ c.execute_into.ensures.executes).0

pub put_trace-traced-requires-clause-response : goal.put_trace-traced-requires-clause-response
put_trace-traced-requires-clause-response c =
    (c.traceable_laws.ensures _ _ _ _ c.execute_into.ensures.executes).1
