use Rattle.std.proofs.Common.{drop, ap, ◌∙◌}
use Rattle.ceal_code.proofs.Equations.FloorSteps.{cut-none, waiting-none}
use Rattle.ceal_code.specs.Stacks.{waits_in}
use Rattle.ceal_code.proofs.waits.Waits.clear.Goals as goal

pub returns-clause-cleared : goal.returns-clause-cleared
unfolding waits_in
returns-clause-cleared c =
    let p = c.self.inside in
    waiting-none _ _ (ap (drop p.floor.units) c.truncate.ensures.items ∙ cut-none p.floor.units p.units.items c.self.invariant.0)
