use Rattle.std.proofs.Common.{[], ◌++◌, length, ap, ◌∙◌, sym, subst, arith}
use Rattle.ceal_fold.specs.Folding.{at_root, folded_commands}
use Rattle.ceal_fold.specs.States.{copies_at, AllUntil}
use Rattle.ceal_fold.proofs.ReplaceSteps.{replaced-same, root-none, replicate-length, until-begun, walk-on}
use Rattle.ceal_fold.proofs.replace.replace_all.Goals as goal

-- nothing is known at the root, so the whole body is replaced from there
pub loop-command-init : goal.loop-command-init
loop-command-init c =
    let structs = c.args.structs.now in
    let states = c.in_ok-states.states.items in
    let body = c.args.body.now in
    record {
      whole = ap (λ ds. ds ++ folded_commands structs (copies_at states) 0 body) c.in_ok-done.ensures.items
          ∙ replaced-same structs (copies_at states) at_root 0 body (λ j lo hi. ap (λ s. copies_at s j) c.in_ok-states.ensures ∙ root-none _ j);
      long = ap length c.in_ok-states.ensures ∙ replicate-length _ [];
      left = omega arith;
      times = subst (AllUntil 0) (sym c.in_ok-states.ensures) (until-begun 0 _);
    }

-- this command is replaced by what is known at it, and hands that on to those that follow it
pub loop-command-preserved : goal.loop-command-preserved
loop-command-preserved c =
    let w = c.loop-command.invariant in
    record {
      whole = walk-on c.args.structs.now c.loop-command.states.items c.replace_at.new.states.items c.loop-command.index c.in-Some.command.now c.in_ok-command.command c.in-Some.more.now
          c.loop-command.rest.now c.loop-command.done.items c.push.new.self.items _
          c.in-Some.ensures.cases.0 c.in_ok-push.ensures.items c.in_ok-command.ensures.command (omega (arith, w.left, w.long)) c.in_ok-command.ensures.handed w.whole;
      long = c.in_ok-command.ensures.length ∙ w.long;
      left = omega (arith, w.left, ap length c.in-Some.ensures.cases.0);
      times = c.in_ok-command.ensures.times;
    }
