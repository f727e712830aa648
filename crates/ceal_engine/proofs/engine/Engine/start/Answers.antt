use Rattle.std.proofs.Common.{refl, sym, subst}
use Rattle.std.specs.Option.{IsSomeAnd}
use Rattle.ceal_engine.proofs.Keeping.{sound-with}
use Rattle.ceal_engine.proofs.Present.{sound-present}
use Rattle.ceal_engine.specs.Keeping.{Keeps}
use Rattle.ceal_engine.specs.Cost.{CostOfRun}
use Rattle.ceal_engine.specs.Repaired.{IsFirst}
use Rattle.ceal_engine.specs.Runs.{finished, trace_in}
use Rattle.ceal_engine.specs.declared.run.Run.TheVariants as its
use Rattle.ceal_engine.specs.declared.run.Stage.TheVariants as stage
use Rattle.ceal_engine.proofs.engine.Engine.start.Goals as goal

-- the run is finished, and its cost is that of a run from scratch
pub returns-clause-anew : goal.returns-clause-anew
returns-clause-anew c =
    let v = c.self.inside in
    let run = its.Kept c.in_ok-run.run' stage.Finished in
    let first = c.in_ok-run.ensures.ok in
    let is = c.self.view_is in
    rw c.keep.ensures
    (record {
      phase = refl;
      present =
          sound-present v.code v.fuel v.inputs v.call run
          (sound-with v.code v.fuel v.inputs v.call v.run run c.self.invariant (subst (λ e. Keeps e.code e.fuel e.inputs run e.call) (sym is) first.kept)) refl;
      first = subst (λ e. IsSomeAnd (trace_in c.in_ok-run.run') (IsFirst (finished e.code e.fuel e.inputs e.call c.in_ok-run.run'))) (sym is) first.first;
      unmarked = first.unmarked;
      cost = subst (λ e. CostOfRun (finished e.code e.fuel e.inputs e.call c.in_ok-run.run')) (sym is) first.cost;
    })
