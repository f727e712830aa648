use Rattle.ceal_repair.proofs.TableCalls.PutKeepsTables.{steps-kept}
use Rattle.std.proofs.Common.{refl, arith}
use Rattle.ceal_repair.proofs.TableCalls.FewLooks.{touched-same, grows-but}
use Rattle.ceal_repair.proofs.tables.Tables.set_steps.Goals as goal

pub returns-clause-kept : goal.returns-clause-kept
returns-clause-kept c =
    steps-kept c.args.self.now c.requires.kept c.args.node.0 c.args.steps c.set_steps.new.self c.requires.here c.set_steps.ensures.nodes c.set_steps.ensures.node c.set_steps.ensures.others
    c.set_steps.ensures.whole (c.set_steps.ensures.closed c.requires.kept.step.closed)

pub returns-clause-touched : goal.returns-clause-touched
returns-clause-touched c = touched-same c.args.node.0 c.args.self.now.trace c.set_steps.new.self c.set_steps.ensures.touches c.set_steps.ensures.others

pub returns-clause-counts : goal.returns-clause-counts
returns-clause-counts c = record {
  looked = omega arith;
  differed = omega arith;
  touched = c.set_steps.ensures.touches.no_fewer;
  grows = λ few. grows-but c.args.node.0 c.args.self.now.trace c.set_steps.new.self c.set_steps.ensures.touches c.set_steps.ensures.others c.set_steps.ensures.spare;
  seed = refl;
}
