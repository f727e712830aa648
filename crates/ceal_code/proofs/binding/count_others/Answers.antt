use Rattle.std.proofs.Common.{◌+◌, ◌∙◌, sym, refl, arith}
use Rattle.ceal_code.proofs.Equations.GivenSteps.{others-none, others-next, others-all}
use Rattle.ceal_code.proofs.binding.count_others.Goals as goal

-- a parameter counts unless it is the one that is given
pub loop-i-preserved : goal.loop-i-preserved
loop-i-preserved c =
    let n = others-next c.args.v c.args.params.now (c.loop-i.i + 1) c.loop-i.i c.param_at-p.result c.other-one.result refl c.param_at-p.ensures c.other-one.ensures.value in
    record {
      few = omega (arith, c.loop-i.invariant.few, c.other-one.ensures.small);
      same = omega (arith, n, c.loop-i.invariant.same);
    }

pub returns : goal.returns
returns c = c.loop-i.invariant.same ∙ others-all c.args.v c.args.params.now c.loop-i.i (omega arith)

pub loop-i-init : goal.loop-i-init
loop-i-init c = record { few = omega arith; same = sym (others-none c.args.v c.args.params.now) }
