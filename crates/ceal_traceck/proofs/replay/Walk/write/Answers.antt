use Rattle.ceal_code.specs.Stacks.{stack_in}
use Rattle.ceal_traceck.proofs.WalkSteps.{writes-more}
use Rattle.ceal_traceck.specs.Walk.{code_of, plain_of, waiting}
use Rattle.ceal_traceck.proofs.replay.Walk.write.Goals as goal

-- a step and this write follow
pub returns-clause-turn : goal.returns-clause-turn
returns-clause-turn c =
    let w = c.args.self.now in
    writes-more (code_of w) (plain_of w) c.args.place c.args.value (stack_in w.stack) (waiting w.below.items) w.items.now c.in-Some.more.now c.in-Some-after_write.more.now
    c.in-Some.ensures.some c.in-Some-after_write.ensures.some
