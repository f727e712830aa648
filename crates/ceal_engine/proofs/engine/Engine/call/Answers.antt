use Rattle.std.proofs.Common.{◌≡◌, Some, ◌∙◌, sym, subst}
use Rattle.ceal_engine.proofs.Keeping.{the-call}
use Rattle.ceal_engine.proofs.engine.Engine.call.Goals as goal

-- the call is the one that was set
pub returns-in-Some : goal.returns-in-Some
returns-in-Some c =
    record {
      value = subst (λ e. e.call ≡ Some (record { function = c.in-Some.function; args = c.args-in-Some.result.now })) c.self.view_is
          (the-call c.self.inside.code c.self.inside.fuel c.self.inside.inputs c.self.inside.call.call c.in-Some.function c.args-in-Some.result.now
          (sym c.function.ensures ∙ c.in-Some.is) c.args-in-Some.ensures.value);
    }
