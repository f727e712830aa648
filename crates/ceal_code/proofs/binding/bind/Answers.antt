use Rattle.std.proofs.Common.{◌-◌, ◌∙◌, sym, arith}
use Rattle.ceal_code.specs.Init.{arguments}
use Rattle.ceal_code.proofs.Equations.StackSteps.{bind-next, bound-end, no-arguments}
use Rattle.ceal_code.proofs.binding.bind.Goals as goal

pub loop-i-init : goal.loop-i-init
loop-i-init c = record {
  within = omega (arith, c.smaller-i.ensures);
  inside = omega (arith, c.smaller-i.ensures);
  same = no-arguments _ c.clear.ensures.items ∙ sym (bound-end c.args.params.now c.args.words.now c.smaller-i.result c.smaller-i.ensures);
}

-- one parameter more has the word of its argument
pub loop-i-preserved : goal.loop-i-preserved
loop-i-preserved c = record {
  within = omega (arith, c.loop-i.invariant.within);
  inside = omega (arith, c.loop-i.invariant.inside);
  same = bind-next c.args.params.now c.args.words.now (c.loop-i.i - 1) c.loop-i.i c.param_at-p.result c.argument_at-word.result (arguments c.loop-i.env.items) (arguments c.set_variable.new.env.items)
      (omega (arith, c.loop-i-test.true)) c.param_at-p.ensures c.argument_at-word.ensures c.loop-i.invariant.same c.in_ok-set_variable.ensures.set;
}
