use Rattle.ceal_code.specs.Step.{chosen}
use Rattle.ceal_code.proofs.Equations.StackSteps.{choose-next, choose-end}
use Rattle.ceal_code.proofs.binding.choose.Goals as goal

pub loop-p-preserved : goal.loop-p-preserved
loop-p-preserved c =
    choose-next c.loop-p.words.items c.push.new.self.items c.loop-p.params.now c.in-Some.more.now c.in-Some.p.now c.args.args.now (chosen c.args.params.now c.args.args.now) c.argument.result
    c.in_ok-push.ensures.items c.argument.ensures c.in-Some.ensures.cases.0 c.loop-p.invariant

pub returns : goal.returns
returns c = record {
  chosen = choose-end c.loop-p.words.items c.loop-p.params.now c.args.args.now (chosen c.args.params.now c.args.args.now) c.in_default.ensures.cases c.loop-p.invariant;
}
