use Rattle.std.proofs.Common.{◌<◌, length, arith}
use Rattle.ceal_code.specs.Init.{arguments}
use Rattle.ceal_code.proofs.Equations.ValueSteps.{values-take}
use Rattle.ceal_code.proofs.evaluate.Scope.evaluate.Goals as goal

-- the value of one expression more is pushed
pub loop-e-preserved : goal.loop-e-preserved
loop-e-preserved g c =
    let within : c.loop-e.e-index < length c.args.es.now = omega arith in
    record {
      values = rw (
        values-take c.args.self.now.structs.now (g.P.PlainWords.plain c.args.self.now.plain.now) (arguments c.args.self.now.env.now) c.args.es.now c.loop-e.e-index c.e-item.result within,
        ← c.e-item.is,
        ← c.loop-e.invariant.values,
        ← c.value.ensures.value,
      ) c.push_reserved.ensures.items;
      room = omega (arith, c.loop-e.invariant.room, c.push_reserved.ensures.capacity, c.push_reserved.ensures.len, within);
    }
