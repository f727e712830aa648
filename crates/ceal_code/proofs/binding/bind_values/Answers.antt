use Rattle.std.proofs.Common.{◌-◌, ◌∙◌, sym, arith}
use Rattle.ceal_code.specs.Init.{arguments}
use Rattle.ceal_code.proofs.Equations.StackSteps.{no-arguments}
use Rattle.ceal_code.proofs.Equations.GivenSteps.{values-end, values-next}
use Rattle.ceal_code.proofs.binding.bind_values.Goals as goal

-- the words are cleared, so before the first parameter no variable has a word
pub loop-i-init : goal.loop-i-init
loop-i-init g c = record {
  within = omega (arith, c.smaller-i.ensures);
  inside = omega (arith, c.smaller-i.ensures);
  same = no-arguments _ c.clear.ensures.items
      ∙ sym (values-end c.args.scope.now.structs.now (g.P.PlainWords.plain c.args.scope.now.plain.now) (arguments c.args.scope.now.env.now)
      c.args.params.now c.args.es.now c.smaller-i.result c.smaller-i.ensures);
}

-- one parameter more has the value of its argument
pub loop-i-preserved : goal.loop-i-preserved
loop-i-preserved g c = record {
  within = omega (arith, c.loop-i.invariant.within);
  inside = omega (arith, c.loop-i.invariant.inside);
  same = values-next c.args.scope.now.structs.now (g.P.PlainWords.plain c.args.scope.now.plain.now) (arguments c.args.scope.now.env.now)
      c.args.params.now c.args.es.now (c.loop-i.i - 1) c.loop-i.i c.param_at-p.result c.expr_at.result.now c.value-word.result
      (arguments c.loop-i.env.items) (arguments c.set_variable.new.env.items)
      (omega (arith, c.loop-i-test.true)) c.param_at-p.ensures c.expr_at.ensures c.value-word.ensures.value c.loop-i.invariant.same c.in_ok-set_variable.ensures.set;
}
