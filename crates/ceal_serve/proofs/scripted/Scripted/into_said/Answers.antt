use Rattle.std.proofs.Common.{arith}
use Rattle.ceal_serve.proofs.Pieces.{heard-within}
use Rattle.ceal_serve.proofs.scripted.Scripted.into_said.Goals as goal

pub returns-clause-within : goal.returns-clause-within
returns-clause-within c =
    rw (← c.self.view_is) (heard-within _ _ _ _ _ (λ e. let at = c.self.invariant.1 e in omega (arith, at, c.self.inside.input.ok.0)))
