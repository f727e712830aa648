use Rattle.std.proofs.Common.{◌≡◌, sym, subst, arith}
use Rattle.ceal_engine.proofs.ReadRun.{few-steps}
use Rattle.ceal_engine.specs.declared.phase.Phase.TheVariants.{Finished}
use Rattle.ceal_engine.proofs.engine.Engine.steps.Goals as goal

-- a finished run has at most as many steps as the fuel, so they fit 64 bits
pub overflow_cast-result : goal.overflow_cast-result
overflow_cast-result c =
    let v = c.self.inside in
    let few = few-steps v.code v.inputs v.fuel v.run v.call.call c.self.invariant.limits c.self.invariant.keeps
    (subst (λ e. e.phase ≡ Finished) (sym c.self.view_is) c.requires) c.finished.result.now c.finished.ensures in
    omega (arith, few, c.steps.ensures.items)
