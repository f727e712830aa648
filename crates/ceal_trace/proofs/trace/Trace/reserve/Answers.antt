use Rattle.ceal_trace.proofs.Keeps.{trace-touched}
use Rattle.ceal_trace.proofs.trace.Trace.reserve.Goals as goal

pub returns-then-has_room-clause-whole : goal.returns-then-has_room-clause-whole
returns-then-has_room-clause-whole c = rw (← c.self.view_is) (trace-touched _ _ c.self.invariant.is_trace)
