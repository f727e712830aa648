use Rattle.std.proofs.Common.{◌∙◌, ap, Some, reverse}
use Rattle.ceal_mean.specs.Frame.{State}
use Rattle.ceal_mean.proofs.FrameLemmas.{reverse-push, step-done}
use Rattle.ceal_mean.proofs.run.step.Goals as goal

-- the statement enters no function: its frame continues with what follows it
pub returns-in_ok-push-in-None-clause-advanced : goal.returns-in_ok-push-in-None-clause-advanced
returns-in_ok-push-in-None-clause-advanced c =
    rw (c.in_ok-push-in-None.ensures.items, reverse-push)
    (step-done c.args.machine.now.program.now c.args.memory.now c.args.frames.now.items _ c.pop.new.self.items c.in-Some-pop.frame _
    (rw c.in-Some.is at c.in_ok-s.ensures.some) c.in-Some-pop.ensures.items
    ∙ ap (λ (s : State). Some s) (rw c.in-None.is at (c.in_ok-act.ensures.done (reverse c.pop.new.self.items))))

-- the statement enters a function, whose frame is above the one that waits
pub returns-in_ok-push-in-Some-2-2-clause-advanced : goal.returns-in_ok-push-in-Some-2-2-clause-advanced
returns-in_ok-push-in-Some-2-2-clause-advanced c =
    rw (c.in_ok-push-in-Some-2-2.ensures.items, reverse-push, c.in_ok-push-in-Some-2.ensures.items, reverse-push)
    (step-done c.args.machine.now.program.now c.args.memory.now c.args.frames.now.items _ c.pop.new.self.items c.in-Some-pop.frame _
    (rw c.in-Some.is at c.in_ok-s.ensures.some) c.in-Some-pop.ensures.items
    ∙ ap (λ (s : State). Some s) (rw c.in-Some-2.is at (c.in_ok-act.ensures.done (reverse c.pop.new.self.items))))
