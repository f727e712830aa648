use Rattle.std.proofs.Common.{◌<◌, length, arith}
use Rattle.ceal_mean.proofs.InitSteps.{set-take}
use Rattle.ceal_mean.proofs.init.+set.Goals as goal

-- this statement sets its field after those before it
pub set_fields-loop-s-preserved : goal.set_fields-loop-s-preserved
set_fields-loop-s-preserved t c =
    let within : c.loop-s.s-index < length c.args.stmts.now = omega arith in
    rw (set-take c.args.env.now c.args.memory.now c.args.stmts.now c.loop-s.s-index c.s-item.result c.args.words.now.items within, ← c.s-item.is, ← c.loop-s.invariant) c.set_field.ensures
