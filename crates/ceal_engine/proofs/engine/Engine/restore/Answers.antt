use Rattle.std.proofs.Common.{◌≡◌, None, Err, refl, sym, ◌∙◌, subst}
use Rattle.std.specs.Option.{IsSomeAnd}
use Rattle.ceal_engine.proofs.Advanced.{end-keeps, ran}
use Rattle.ceal_engine.proofs.Restored.{not-out-of, engine-restored}
use Rattle.ceal_engine.specs.Calls.{called}
use Rattle.ceal_engine.specs.Engine.{IfOutOfFuel, fresh_of, trace}
use Rattle.ceal_engine.specs.Repaired.{IsRestored}
use Rattle.ceal_engine.specs.declared.phase.Came.{Came}
use Rattle.ceal_engine.proofs.engine.Engine.restore.Goals as goal

-- the call has a run within the fuel, so the run from nothing is not out of fuel
pub unreachable-requires : goal.unreachable-requires
unreachable-requires c =
    let k = end-keeps (called c.in_ok-engine.engine c.args.function c.args.args.now) c.run.new.self c.run.result c.run.ensures.advances in
    not-out-of c.args.code c.args.fuel c.args.inputs.now c.args.function c.args.args.now c.args.forest.now c.requires.trace c.run.new.self
    (k.code ∙ c.in_ok-engine.ensures.code) (k.fuel ∙ c.in_ok-engine.ensures.fuel)
    (k.inputs ∙ c.in_ok-engine.ensures.inputs) k.call
    (subst (λ e. IfOutOfFuel {A = Came} (Err e) (fresh_of c.run.new.self ≡ None)) c.in-Err-OutOfFuel.field-0-is c.in-Err-OutOfFuel.ensures.advances.keeps.out_of_fuel)

-- the run from nothing has the saved trace
pub returns-in-Ok-clause-forest : goal.returns-in-Ok-clause-forest
returns-in-Ok-clause-forest c =
    let k = end-keeps (called c.in_ok-engine.engine c.args.function c.args.args.now) c.run.new.self c.run.result c.run.ensures.advances in
    subst (λ e. IsSomeAnd (trace e) (IsRestored c.args.forest.now)) (sym c.tell.ensures)
    (engine-restored c.args.code c.args.fuel c.args.inputs.now c.args.function c.args.args.now c.args.forest.now c.requires.trace c.run.new.self c.phase-phase.ensures.whole
    (k.code ∙ c.in_ok-engine.ensures.code) (k.inputs ∙ c.in_ok-engine.ensures.inputs) k.call c.in-Ok.ensures.phase)

-- no read is found stale in a run from nothing
pub returns-in-Ok-clause-differed : goal.returns-in-Ok-clause-differed
returns-in-Ok-clause-differed c =
    let anew = ran (called c.in_ok-engine.engine c.args.function c.args.args.now) c.run.new.self refl c.in-Ok.ensures.advances in
    rw c.tell.ensures anew.cost.differed
