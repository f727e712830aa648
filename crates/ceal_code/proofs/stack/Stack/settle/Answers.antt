use Rattle.std.proofs.Common.{sym, ap, ◌∙◌}
use Rattle.ceal_code.proofs.Equations.WaitSteps.{settle-over, settle-found, settle-none}
use Rattle.ceal_code.specs.Piles.{Piles}
use Rattle.ceal_code.specs.Stacks.{waits_in, stack_in}
use Rattle.ceal_code.specs.Step.{stack_after_quiet}
use Rattle.ceal_code.proofs.stack.Stack.settle.Goals as goal

-- the unit has a command that takes a step, or one that waits for what is below
pub returns-in-Some-clause-settled : goal.returns-in-Some-clause-settled
returns-in-Some-clause-settled g c =
    sym c.loop-self.invariant.same
    ∙ (ap (stack_after_quiet c.args.code.now (g.P.PlainWords.plain c.args.plain.now)) (sym c.in_ok-begin.ensures.same)
    ∙ settle-found c.args.code.now (g.P.PlainWords.plain c.args.plain.now) c.begin.new.self (stack_in c.arrive.new.self) (c.in_ok-begin.ensures.runs ∙ c.if-branch.true)
    (λ rest. rw c.in-Some.is at (c.in_ok-c.ensures.arrives rest)))

pub returns-in-Some-clause-aside : goal.returns-in-Some-clause-aside
returns-in-Some-clause-aside g c = ap (λ (w : Piles). w.aside) c.in_ok-c.ensures.waits ∙ (c.in_ok-begin.ensures.aside ∙ c.loop-self.invariant.aside)

-- the unit is over, so the one below runs, and that takes no step
pub loop-self-preserved : goal.loop-self-preserved
loop-self-preserved g c = record {
  same = ap (stack_after_quiet c.args.code.now (g.P.PlainWords.plain c.args.plain.now)) c.leave.ensures.left
      ∙ (ap (λ w. stack_after_quiet c.args.code.now (g.P.PlainWords.plain c.args.plain.now) (waits_in w)) c.in_ok-c.ensures.waits
      ∙ (sym (settle-over c.args.code.now (g.P.PlainWords.plain c.args.plain.now) c.begin.new.self (c.in_ok-begin.ensures.runs ∙ c.if-branch.true)
      (λ rest. rw c.in_default.is at (c.in_ok-c.ensures.arrives rest)))
      ∙ (ap (stack_after_quiet c.args.code.now (g.P.PlainWords.plain c.args.plain.now)) c.in_ok-begin.ensures.same
      ∙ c.loop-self.invariant.same)));
  aside = c.leave.ensures.aside ∙ (ap (λ (w : Piles). w.aside) c.in_ok-c.ensures.waits ∙ (c.in_ok-begin.ensures.aside ∙ c.loop-self.invariant.aside));
}

pub returns-clause-settled : goal.returns-clause-settled
returns-clause-settled g c =
    sym c.loop-self.invariant.same
    ∙ settle-none c.args.code.now (g.P.PlainWords.plain c.args.plain.now) (stack_in c.loop-self.self) (c.in_ok-begin.ensures.none c.if-branch.false)

pub returns-clause-aside : goal.returns-clause-aside
returns-clause-aside g c = c.in_ok-begin.ensures.aside ∙ c.loop-self.invariant.aside
