-- What a unit does next, of a repair.
use Rattle.std.proofs.Common.{◌≡◌, reverse, sym, ap, subst, ◌∙◌}
use Rattle.ceal_code.specs.Piles.{Pile}
use Rattle.ceal_code.specs.Stacks.{stack_in, aside_in, act_in}
use Rattle.ceal_code.specs.Step.{Stack}
use Rattle.ceal_code.specs.declared.step.Act.{Act}
use Rattle.ceal_code.specs.declared.step.Step.{Step as CodeStep}
use Rattle.ceal_repair.specs.Frames.{frames_in}
use Rattle.ceal_repair.specs.Moment.{Start, RunningNow}
use Rattle.ceal_repair.specs.Repairs.{code_of, inputs_of, frames_of, view, next_in, step_of, Runs, RunsAt, ActsOver}
use Rattle.ceal_repair.specs.declared.repair.Repair.{Repair}

-- what a unit does next, where its step was taken from its stack, and then what the step is for
pub acts-over : (old mid new : Repair) (s t : CodeStep) (b : Act) (below : Stack) → mid ≡ record old { stack = mid.stack }
    → next_in old (stack_in old.stack.now) ≡ step_of mid s → s ≡ t → new ≡ record mid { stack = new.stack; args = new.args } → step_of mid t ≡ act_in b below
    → aside_in new.stack.now ≡ aside_in old.stack.now → (start : Start) → Runs start old → ActsOver start b below new
acts-over old mid new s t b below rest does is last taken aside start runs =
    let all : new ≡ record old { stack = new.stack; args = new.args } = last ∙ ap (λ (r : Repair). record r { stack = new.stack; args = new.args }) rest in
    let there = subst (λ (a : Pile). RunningNow (code_of old) (inputs_of old) start (stack_in old.stack.now) (record (view old) { frames = frames_in a (reverse (frames_of old)) })) (sym aside) runs in
    record {
      stack = stack_in old.stack.now;
      now = subst (λ r. RunsAt start (stack_in old.stack.now) r) (sym all) there;
      does = subst (λ r. next_in r (stack_in old.stack.now) ≡ act_in b below) (sym all) (does ∙ (ap (λ u. step_of mid u) is ∙ taken));
    }
