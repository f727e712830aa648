use Rattle.std.proofs.Common.{◌≡◌, length, slice_get, Some, ap, subst}
use Rattle.ceal_norm.specs.Table.{JumpsBelow, Planned}
use Rattle.ceal_norm.proofs.Equations.PlanSteps.{jumps-below, tree-of}
use Rattle.ceal_norm.proofs.plan.Plan.block.Goals as goal

-- a graph's jumps go to its blocks
pub returns-clause-jumps : goal.returns-clause-jumps
returns-clause-jumps c =
    let same : c.self.inside.graph.now ≡ c.args.self.now.graph = ap (λ s. s.graph) c.self.view_is in
    let found : slice_get c.self.inside.graph.now.blocks c.args.b ≡ Some c.block_at.result.now = rw (← c.blocks-2.ensures.value) c.block_at.ensures in
    subst (λ g. JumpsBelow (length g.blocks) c.block_at.result.now) same
    (jumps-below c.self.inside.graph.now c.self.inside.entries.items c.self.invariant c.args.b c.block_at.result.now found)

-- the tree of a block is its code, with the trees of the blocks to which it jumps
pub returns-clause-tree : goal.returns-clause-tree
returns-clause-tree c =
    let same : c.self.inside.graph.now ≡ c.args.self.now.graph = ap (λ s. s.graph) c.self.view_is in
    let found : slice_get c.self.inside.graph.now.blocks c.args.b ≡ Some c.block_at.result.now = rw (← c.blocks-2.ensures.value) c.block_at.ensures in
    tree-of c.args.self.now c.self.inside.entries.items
    (subst (λ g. Planned g c.self.inside.entries.items) same c.self.invariant) c.args.b c.block_at.result.now c.requires.there
    (subst (λ g. slice_get g.blocks c.args.b ≡ Some c.block_at.result.now) same found)
