use Rattle.std.proofs.Common.{◌<◌, length, arith}
use Rattle.ceal_norm.proofs.Equations.InitialiserSteps.{all-take}
use Rattle.ceal_norm.proofs.initialiser.+init.Goals as goal

-- this statement, after those before it
pub inits_of-loop-s-preserved : goal.inits_of-loop-s-preserved
inits_of-loop-s-preserved t c =
    let within : c.loop-s.s-index < length c.args.stmts.now = omega arith in
    rw (all-take c.args.stmts.now c.loop-s.s-index c.s-item.result within, ← c.s-item.is, ← c.loop-s.invariant) c.in_ok-put_init.ensures
