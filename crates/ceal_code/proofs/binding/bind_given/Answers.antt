use Rattle.std.proofs.Common.{◌-◌, ◌∙◌, sym, length, drop, arith}
use Rattle.ceal_code.specs.Init.{arguments}
use Rattle.ceal_code.proofs.Equations.StackSteps.{no-arguments}
use Rattle.ceal_code.proofs.Equations.GivenSteps.{others-all, others-next, given-none, given-next, given-all}
use Rattle.ceal_code.proofs.binding.bind_given.Goals as goal

-- the words are cleared, so before the first parameter each variable is null but the one that is given
pub loop-i-init : goal.loop-i-init
loop-i-init c = record {
  within = omega arith;
  count = c.count_others-at.ensures ∙ sym (others-all c.args.v c.args.params.now (length c.args.params.now) (omega arith));
  same = no-arguments _ c.clear.ensures.items ∙ given-none c.args.params.now c.args.v c.args.value (drop c.count_others-at.result c.args.args.now);
}

pub overflow_sub-at : goal.overflow_sub-at
overflow_sub-at c =
    let n = others-next c.args.v c.args.params.now c.loop-i.i (c.loop-i.i - 1) c.param_at-p.result c.other-one.result
    (omega (arith, c.loop-i-test.true)) c.param_at-p.ensures c.other-one.ensures.value in
    omega (arith, n, c.loop-i.invariant.count)

-- one parameter more has its word: the one that is given, or the next of the others
pub loop-i-preserved : goal.loop-i-preserved
loop-i-preserved c =
    let n = others-next c.args.v c.args.params.now c.loop-i.i (c.loop-i.i - 1) c.param_at-p.result c.other-one.result
    (omega (arith, c.loop-i-test.true)) c.param_at-p.ensures c.other-one.ensures.value in
    record {
      within = omega (arith, c.loop-i.invariant.within);
      count = omega (arith, n, c.loop-i.invariant.count);
      same = given-next c.args.params.now c.args.v c.args.value c.args.args.now (c.loop-i.i - 1) c.loop-i.i c.loop-i.at (c.loop-i.at - c.other-one.result) c.other-one.result
          c.param_at-p.result c.given_word-word.result (arguments c.loop-i.env.items) (arguments c.set_variable.new.env.items)
          (omega (arith, c.loop-i-test.true)) c.param_at-p.ensures c.given_word-word.ensures c.other-one.ensures.value (omega (arith, n, c.loop-i.invariant.count))
          c.loop-i.invariant.same c.in_ok-set_variable.ensures.set;
    }

pub returns : goal.returns
returns c = record {
  bound = given-all c.args.params.now c.args.v c.args.value c.args.args.now c.loop-i.i c.loop-i.at (arguments c.loop-i.env.items)
      (omega (arith, c.loop-i-test.false)) c.loop-i.invariant.count c.loop-i.invariant.same;
}
