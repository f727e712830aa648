use Rattle.std.proofs.Common.{◌∷◌, ◌∙◌, ap}
use Rattle.ceal_code.specs.Stacks.{stack_in}
use Rattle.ceal_traceck.proofs.WalkSteps.{reads-more, waiting-push}
use Rattle.ceal_traceck.specs.Walk.{code_of, plain_of, waiting}
use Rattle.ceal_traceck.proofs.replay.Walk.read.Goals as goal

-- a step and this read follow; its unit runs on the value that was recorded, and the rest waits
pub returns-clause-turn : goal.returns-clause-turn
returns-clause-turn c =
    let w = c.args.self.now in
    reads-more (code_of w) (plain_of w) c.args.closure.place c.args.closure.unit c.args.closure.var c.args.closure.args c.in-Some-after_read.value
    (stack_in w.stack) (stack_in c.replace-outside.new.dest) (stack_in c.empty-inside.result) (waiting w.below.items) (waiting c.push.new.self.items)
    w.items.now c.in-Some.more.now c.in-Some-after_read.more.now c.in-Some.ensures.some c.in-Some-after_read.ensures.some
    (ap stack_in c.replace-outside.ensures.after ∙ (rw (c.code.ensures.value, c.continuation.ensures.unit, c.continuation.ensures.var, c.continuation.ensures.args) at c.in_ok-resume.ensures.resumed))
    c.empty-inside.ensures.empty
    (ap waiting c.in_ok-push.ensures.items ∙ (waiting-push w.below.items c.replace-outside.result ∙ ap (λ s. stack_in s ∷ waiting w.below.items) c.replace-outside.ensures.value))
