use Rattle.std.proofs.Common.{arith}
use Rattle.ceal_serve.proofs.Hearing.{given-heard, piece-lost}
use Rattle.ceal_serve.proofs.lines.Lines.hear.Goals as goal

pub returns-then-count-eq0-clause-given : goal.returns-then-count-eq0-clause-given
returns-then-count-eq0-clause-given g c = given-heard _ _ _ c.in_ok-count.ensures.heard

pub returns-in_err-keep-clause-given : goal.returns-in_err-keep-clause-given
returns-in_err-keep-clause-given g c = given-heard _ _ _ c.in_ok-count.ensures.heard

pub returns-clause-given : goal.returns-clause-given
returns-clause-given g c = given-heard _ _ _ c.in_ok-count.ensures.heard

pub returns-in_err-keep-clause-lost : goal.returns-in_err-keep-clause-lost
returns-in_err-keep-clause-lost g c = piece-lost _ _ _ _ _ (λ e. grind (arith, e, c.if-count-eq0.false)) c.in_ok-count.ensures.bound.0 c.in_ok-count.ensures.heard
