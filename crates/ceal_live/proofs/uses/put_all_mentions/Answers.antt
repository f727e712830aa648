use Rattle.std.proofs.Common.{◌<◌, length, arith, append_assoc}
use Rattle.ceal_live.proofs.UseSteps.{all-take}
use Rattle.ceal_live.proofs.uses.put_all_mentions.Goals as goal

-- the variables of this expression, after those of the expressions before it
pub loop-e-preserved : goal.loop-e-preserved
loop-e-preserved c =
    let within : c.loop-e.e-index < length c.args.es.now = omega arith in
    rw (all-take c.args.es.now c.loop-e.e-index c.e-item.result c.e-item.is within, ← append_assoc, ← c.loop-e.invariant) c.in_ok-put_mentions.ensures
