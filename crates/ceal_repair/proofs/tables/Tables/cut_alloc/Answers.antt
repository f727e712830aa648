use Rattle.std.proofs.Common.{refl}
use Rattle.ceal_repair.specs.Lists.{entries_in}
use Rattle.ceal_trace.specs.Nodes.{stamps_in}
use Rattle.ceal_trace.specs.declared.node.Node.{Node}
use Rattle.ceal_trace.specs.declared.node.Node.TheVariants.{Alloc}
use Rattle.ceal_repair.proofs.QueueCover.NodeChanges.{node-has}
use Rattle.ceal_repair.proofs.TableCalls.CutKeepsTables.{alloc-cut-kept, no-end}
use Rattle.std.proofs.Common.{arith}
use Rattle.ceal_repair.proofs.TableCalls.FewLooks.{touched-less, grows-cut}
use Rattle.ceal_repair.proofs.tables.Tables.cut_alloc.Goals as goal

pub remove-requires-clause-here : goal.remove-requires-clause-here
remove-requires-clause-here c = rw c.order.ensures (node-has c.args.alloc.0 (Alloc c.requires.here.0 c.requires.here.1) c.args.self.now.trace.nodes c.requires.here.2)

pub discard-requires-clause-here : goal.discard-requires-clause-here
discard-requires-clause-here c = node-has c.args.alloc.0 (Alloc c.requires.here.0 c.requires.here.1) c.args.self.now.trace.nodes c.requires.here.2

-- the memo loses the node with its stamp, and the other tables never had it
pub returns-clause-kept : goal.returns-clause-kept
returns-clause-kept c =
    let n : Node = Alloc c.requires.here.0 c.requires.here.1 in
    alloc-cut-kept c.args.self.now c.requires.kept c.args.alloc.0
    (Alloc c.requires.here.0 c.requires.here.1) c.requires.here.2 c.discard.new.self c.discard.ensures.nodes c.discard.ensures.others c.discard.ensures.whole
    (c.discard.ensures.closed c.requires.kept.step.closed (no-end c.args.alloc.0 (Alloc c.requires.here.0 c.requires.here.1) c.args.self.now.trace c.requires.kept.step.whole c.requires.here.2 refl))
    c.requires.here.0 c.requires.here.1 refl c.remove.new.self (c.remove.ensures.holds (entries_in c.args.self.now.trace.nodes) c.requires.kept.step.keyed.entries) c.remove.ensures.gone
    (c.remove.ensures.follows (stamps_in c.args.self.now.trace.nodes) c.requires.kept.step.memo)

pub returns-clause-touched : goal.returns-clause-touched
returns-clause-touched c = touched-less c.args.alloc.0 c.args.self.now.trace c.discard.new.self c.discard.ensures.touches c.discard.ensures.others

pub returns-clause-counts : goal.returns-clause-counts
returns-clause-counts c = record {
  looked = omega arith;
  differed = omega arith;
  touched = c.discard.ensures.touches.no_fewer;
  grows = λ few. grows-cut c.args.alloc.0 c.args.self.now.trace c.discard.new.self c.discard.ensures.touches c.discard.ensures.others c.discard.ensures.spare;
  seed = c.remove.ensures.seed;
}
