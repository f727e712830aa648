use Rattle.std.proofs.Common.{◌≡◌}
use Rattle.ceal_code.specs.Stacks.{stack_in, aside_in, left_in}
use Rattle.ceal_code.specs.Step.{stack_after_quiet}
use Rattle.ceal_code.proofs.stack.Stack.settle.Given as goal

abbrev pub invariant-loop-self : goal.invariant-loop-self
invariant-loop-self g l = record {
  same : stack_after_quiet l.code (g.P.PlainWords.plain l.plain) (stack_in l.self) ≡ stack_after_quiet l.code (g.P.PlainWords.plain l.plain) (stack_in l.initial.self);
  aside : aside_in l.self ≡ aside_in l.initial.self;
}

abbrev pub decreases-loop-self : goal.decreases-loop-self
decreases-loop-self g l = left_in l.self
