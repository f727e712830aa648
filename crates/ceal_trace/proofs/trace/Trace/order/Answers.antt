use Rattle.std.proofs.Common.{refl}
use Rattle.ceal_trace.proofs.Keeps.{stamps_are}
use Rattle.ceal_trace.proofs.trace.Trace.order.Goals as goal

pub returns : goal.returns
returns c = rw (← c.self.view_is) (rw (stamps_are c.self.inside.order c.self.inside.table) refl)
