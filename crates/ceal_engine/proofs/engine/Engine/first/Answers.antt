use Rattle.std.proofs.Common.{◌∙◌, sym, subst}
use Rattle.ceal_engine.proofs.Keeping.{the-call, first-done}
use Rattle.ceal_engine.specs.Runs.{IsFirstOf}
use Rattle.ceal_engine.proofs.engine.Engine.first.Goals as goal

-- the first run of the call, from nothing
pub returns-in-Done-clause-ok : goal.returns-in-Done-clause-ok
returns-in-Done-clause-ok c =
    subst (λ e. IsFirstOf e.code e.fuel e.inputs e.call c.in-Done.run') c.self.view_is
    (first-done c.self.inside.code c.self.inside.fuel c.self.inside.inputs c.self.inside.call.call c.in-Some.function c.args-args.result.now
    (the-call c.self.inside.code c.self.inside.fuel c.self.inside.inputs c.self.inside.call.call c.in-Some.function c.args-args.result.now
    (sym c.function.ensures ∙ c.in-Some.is) c.args-args.ensures.value)
    c.self.invariant.calls c.in_ok-outcome-in-Some.outcome c.in_ok-outcome-in-Some.ensures.first c.in-Done.run' c.in-Done.is)
