use Rattle.std.proofs.Common.{◌≡◌, ◌<◌, length, ap, sym, subst}
use Rattle.ceal_norm.specs.Table.{entry_at}
use Rattle.ceal_norm.proofs.Equations.PlanSteps.{entry-there, entry-is}
use Rattle.ceal_norm.proofs.plan.Plan.entry.Goals as goal

-- each block has its place in the list of entries
pub entry_at-requires : goal.entry_at-requires
entry_at-requires c =
    let same : c.self.inside.graph.now ≡ c.args.self.now.graph = ap (λ s. s.graph) c.self.view_is in
    rw c.as_slice.ensures.value (entry-there c.self.inside.graph.now c.self.inside.entries.items c.self.invariant c.args.b
    (subst (λ g. c.args.b < length g.blocks) (sym same) c.requires.there))

-- the list has, for each block, the unit that begins there
pub returns : goal.returns
returns c =
    let same : c.self.inside.graph.now ≡ c.args.self.now.graph = ap (λ s. s.graph) c.self.view_is in
    record {
      value = subst (λ g. c.entry_at.result ≡ entry_at g c.args.b) same
          (entry-is c.self.inside.graph.now c.self.inside.entries.items c.self.invariant c.args.b c.entry_at.result
          (subst (λ g. c.args.b < length g.blocks) (sym same) c.requires.there) (rw c.as_slice.ensures.value at c.entry_at.ensures));
    }
