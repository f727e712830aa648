use Rattle.std.proofs.Common.{refl}
use Rattle.ceal_flow.proofs.lower.lower.Goals as goal

pub returns-in-Ok-graph-clause-first : goal.returns-in-Ok-graph-clause-first
returns-in-Ok-graph-clause-first c = rw (c.in-Ok.ensures.within refl, c.in-Ok-graph.ensures.value) refl
