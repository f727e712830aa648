use Rattle.ceal_code.specs.Stacks.{stack_in}
use Rattle.ceal_code.proofs.Equations.WaitSteps.{next-of}
use Rattle.ceal_code.proofs.stack.Stack.step.Goals as goal

-- the command was found by settling, and performing it is the step
pub returns-in-Some : goal.returns-in-Some
returns-in-Some g c =
    let e = next-of c.args.code.now (g.P.PlainWords.plain c.args.plain.now) (stack_in c.args.self.now) c.settle.new.self c.in-Some.c.now
    (rw c.in-Some.is at c.in_ok-settle.ensures.settled) (rw c.in-Some.is at c.in_ok-settle.ensures.command) in
    record { step = rw e c.perform.ensures.acts; aside = rw c.in_ok-settle.ensures.aside at c.perform.ensures.aside }
