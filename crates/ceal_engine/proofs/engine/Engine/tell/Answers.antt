use Rattle.std.proofs.Common.{◌≡◌, ◌∙◌, ap, refl, sym, subst}
use Rattle.ceal_engine.proofs.Keeping.{sound-with}
use Rattle.ceal_engine.proofs.Propagated.{keeps-told, told-state}
use Rattle.ceal_engine.specs.Engine.{EngineState}
use Rattle.ceal_engine.specs.Keeping.{state_of}
use Rattle.ceal_engine.specs.Runs.{told_of}
use Rattle.ceal_engine.specs.declared.phase.Phase.TheVariants.{Finished}
use Rattle.ceal_engine.proofs.engine.Engine.tell.Goals as goal

-- only the work that is told changes
pub invariant_of-self : goal.invariant_of-self
invariant_of-self c =
    let v = c.self.inside in
    rw c.tell.ensures
    (sound-with v.code v.fuel v.inputs v.call v.run (told_of c.args.work v.run) c.self.invariant
    (keeps-told v.code v.fuel v.inputs c.args.work v.run v.call.call (rw (subst (λ e. e.phase ≡ Finished) (sym c.self.view_is) c.requires) refl) c.self.invariant.keeps))

-- the same run, with its work told
pub returns : goal.returns
returns c =
    let v = c.self.inside in
    ap (state_of v.code v.fuel v.inputs v.call.call) c.tell.ensures
    ∙ (told-state v.code v.fuel v.inputs c.args.work v.call.call v.run (subst (λ e. e.phase ≡ Finished) (sym c.self.view_is) c.requires)
    ∙ ap (λ (e : EngineState). record e { work = c.args.work }) c.self.view_is)
