use Rattle.std.proofs.Common.{rules, ◌≡◌, length, ◌∙◌}
use Rattle.ceal_fold.proofs.UnusedSteps.{underway-begun, underway-on, underway-over}
use Rattle.ceal_fold.proofs.unused.tick_all.Goals as goal

-- from the last command on, and no variable is used after it
pub loop-command-init : goal.loop-command-init
loop-command-init c =
    let n : c.len.result ≡ length c.args.body.items = search rules in
    underway-begun c.args.body.items c.in_ok-done.done.items c.in_ok-sets.sets.items _ c.in_ok-done.ensures.items c.in_ok-sets.ensures n c.requires.tree

-- the uses after this command are known, since all that follow it are done
pub loop-command-preserved : goal.loop-command-preserved
loop-command-preserved c =
    let n : c.len-in-Some.result ≡ length c.pop.new.self.items = search rules in
    underway-on c.args.body.items c.pop.new.self.items c.in-Some.command c.in_ok-command.command c.loop-command.done.items c.loop-command.sets.items c.tick_at.new.sets.items
    c.loop-command.left.items c.push.new.self.items _ c.in-Some.ensures.items c.in_ok-push.ensures.items n c.loop-command.invariant
    c.in_ok-command.ensures.command c.in_ok-command.ensures.here c.in_ok-command.ensures.left c.in_ok-command.ensures.length

-- the loop passed all commands, the first one last
pub returns : goal.returns
returns c =
    let none : length c.loop-command.left.items ≡ 0 = search rules in
    record { value = c.reverse.ensures.items ∙ underway-over c.args.body.items c.loop-command.left.items c.loop-command.done.items c.loop-command.sets.items c.loop-command.invariant none }
