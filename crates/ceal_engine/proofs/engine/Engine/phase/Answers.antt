use Rattle.std.proofs.Common.{◌≡◌, subst, sym}
use Rattle.ceal_engine.proofs.Present.{sound-engine}
use Rattle.ceal_engine.proofs.Carrying.{is-under-way}
use Rattle.ceal_engine.specs.Engine.{IsEngine}
use Rattle.ceal_engine.specs.Partial.{IsUnderWay}
use Rattle.ceal_engine.specs.declared.phase.Phase.TheVariants.{Partial}
use Rattle.ceal_engine.proofs.engine.Engine.phase.Goals as goal

pub returns-clause-whole : goal.returns-clause-whole
returns-clause-whole c = let v = c.self.inside in subst IsEngine c.self.view_is (sound-engine v.code v.fuel v.inputs v.call v.run c.self.invariant)

pub returns-clause-partial : goal.returns-clause-partial
returns-clause-partial c = λ e.
    let v = c.self.inside in
    subst IsUnderWay c.self.view_is (is-under-way v.code v.fuel v.inputs v.run v.call.call c.self.invariant.keeps (subst (λ s. s.phase ≡ Partial) (sym c.self.view_is) e))
