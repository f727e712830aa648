use Rattle.std.proofs.Common.{◌≡◌, ◌<◌, ◌-◌, ◌∙◌, sym, ap, arith, length, reverse, Some}
use Rattle.ceal_mean.specs.Exec.{frames_to_run}
use Rattle.ceal_mean.specs.Fresh.{fresh, outcome_of}
use Rattle.ceal_mean.proofs.RunLemmas.{run-more, run-over, run-empty, run-short}
use Rattle.ceal_mean.proofs.run.interpret.Goals as goal

-- one step is taken within the fuel, and the run from here on is the one from before it
pub loop-steps-preserved : goal.loop-steps-preserved
loop-steps-preserved c =
    let below : c.loop-steps.steps < c.args.fuel = omega arith in
    record {
      few = omega (arith, c.in_ok-more.ensures.grows, c.loop-steps.invariant.few);
      same = sym (run-more c.args.program.now c.args.fuel c.loop-steps.steps c.loop-steps.memory (reverse c.loop-steps.frames.items) _ below
          (rw c.if-not-more.false at c.in_ok-more.ensures.advanced)) ∙ c.loop-steps.invariant.same;
    }

-- no frame is left, so the run has ended with these steps
pub returns-then-not-more : goal.returns-then-not-more
returns-then-not-more c =
    let last : Some (record { memory = c.step.new.memory; steps = c.loop-steps.steps; blocks = length c.step.new.memory.made })
    ≡ fresh c.args.program.now c.args.function c.args.args.now c.args.inputs.now c.args.fuel =
    rw (c.in_ok-more.ensures.over c.if-not-more.true)
    (sym (run-over c.args.program.now (c.args.fuel - c.loop-steps.steps) c.loop-steps.steps c.loop-steps.memory (frames_to_run (reverse c.loop-steps.frames.items))
    (rw c.if-not-more.true at c.in_ok-more.ensures.advanced)) ∙ c.loop-steps.invariant.same) in
    record { outcome = c.done.ensures ∙ ap outcome_of last }

-- the fuel is spent, and nothing was left to do
pub returns-in-None : goal.returns-in-None
returns-in-None c =
    let spent : c.loop-steps.steps ≡ c.args.fuel = omega arith in
    record {
      outcome = c.done-in-None.ensures ∙ ap outcome_of
          (ap (λ n. Some (record { memory = c.loop-steps.memory; steps = n; blocks = length c.loop-steps.memory.made })) (sym spent)
          ∙ sym (run-empty c.args.program.now (c.args.fuel - c.loop-steps.steps) c.loop-steps.steps c.loop-steps.memory _ (rw c.in-None.is at c.in_ok-next_of.ensures.some))
          ∙ c.loop-steps.invariant.same);
    }

-- the fuel is spent, and a statement is left to do
pub returns-in-Some : goal.returns-in-Some
returns-in-Some c =
    let none : c.args.fuel - c.loop-steps.steps ≡ 0 = omega arith in
    record {
      outcome = ap outcome_of (sym (run-short c.args.program.now _ c.loop-steps.steps c.loop-steps.memory _ _ none (rw c.in-Some.is at c.in_ok-next_of.ensures.some))
          ∙ c.loop-steps.invariant.same);
    }
