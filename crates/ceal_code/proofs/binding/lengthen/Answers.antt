use Rattle.std.proofs.Common.{◌∙◌, arith}
use Rattle.ceal_code.proofs.Equations.StackSteps.{arguments-padded}
use Rattle.ceal_code.proofs.binding.lengthen.Goals as goal

pub loop-env-preserved : goal.loop-env-preserved
loop-env-preserved c = record {
  same = arguments-padded c.loop-env.env.items c.push_reserved.new.self.items 1 c.push_reserved.ensures.items ∙ c.loop-env.invariant.same;
  room = omega (arith, c.loop-env.invariant.room, c.push_reserved.ensures.capacity);
}
