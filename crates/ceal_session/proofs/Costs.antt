-- What costs nothing, and what stays marked.
use Rattle.ceal_engine.specs.Cost.{CostOfCall}
use Rattle.ceal_engine.specs.Engine.{EngineState}
use Rattle.ceal_session.specs.Marks.{KeepsMarks}
use Rattle.std.proofs.Common.{◌≡◌}

pub no_cost : (e : EngineState) → CostOfCall e e
no_cost e = CostOfCall.same

pub marks_stay : (e n : EngineState) → n.marked ≡ e.marked → KeepsMarks e n
marks_stay e n same = KeepsMarks.still same
