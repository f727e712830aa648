use Rattle.std.proofs.Common.{◌≡◌, length, slice_get, Some, ap, subst}
use Rattle.ceal_norm.specs.Table.{BeginsBelow}
use Rattle.ceal_norm.proofs.Equations.PlanSteps.{begins-below}
use Rattle.ceal_norm.proofs.plan.Plan.function.Goals as goal

-- a function's first block is one of the graph
pub returns-clause-begins : goal.returns-clause-begins
returns-clause-begins c =
    let same : c.self.inside.graph.now ≡ c.args.self.now.graph = ap (λ s. s.graph) c.self.view_is in
    let found : slice_get c.self.inside.graph.now.functions c.args.f ≡ Some c.function_at.result.now = rw (← c.functions.ensures.value) c.function_at.ensures in
    subst (λ g. BeginsBelow (length g.blocks) c.function_at.result.now) same
    (begins-below c.self.inside.graph.now c.self.inside.entries.items c.self.invariant c.args.f c.function_at.result.now found)
