use Rattle.std.proofs.Common.{ℕ, refl}
use Rattle.ceal_trace.specs.Nodes.{stamps_in}
use Rattle.ceal_trace.specs.declared.node.Node.TheVariants.{End}
use Rattle.ceal_repair.proofs.QueueCover.NodeChanges.{read-has}
use Rattle.ceal_repair.proofs.TableCalls.PutKeepsTables.{end-kept}
use Rattle.ceal_repair.proofs.TableCalls.CallsKeepCover.{behind-put}
use Rattle.std.proofs.Common.{arith}
use Rattle.ceal_repair.proofs.TableCalls.FewLooks.{touched-more, touched-on, grows-put}
use Rattle.ceal_repair.proofs.tables.Tables.finish_read.Goals as goal

pub returns-clause-behind : goal.returns-clause-behind
returns-clause-behind c = λ late r i.
    behind-put c.args.after.0 c.finish_read.result.0 (End c.args.read) c.args.self.now.trace.nodes c.finish_read.new.self.nodes
    (rw c.reserve.ensures.nodes at c.finish_read.ensures.inserted) c.requires.here r (read-has r c.args.self.now.trace.nodes (c.requires.kept.step.queued r i)) (late r i)

-- the order has one stamp more, along which all tables still lie
pub returns-clause-kept : goal.returns-clause-kept
returns-clause-kept c =
    let s : ℕ = c.finish_read.result.0 in
    let more = rw c.reserve.ensures.nodes at c.finish_read.ensures.inserted in
    end-kept c.args.self.now c.requires.kept c.args.after.0 s (End c.args.read) c.finish_read.new.self c.requires.here (rw c.reserve.ensures.nodes at c.finish_read.ensures.nodes) more
    c.finish_read.ensures.whole c.finish_read.ensures.closed c.args.read refl
    (c.follows_still.ensures.inserted s c.args.self.now.mods (stamps_in c.args.self.now.trace.nodes) (stamps_in c.finish_read.new.self.nodes) c.requires.kept.step.mods more.others.stamps)
    (c.follows_still-3.ensures.inserted s c.args.self.now.memo (stamps_in c.args.self.now.trace.nodes) (stamps_in c.finish_read.new.self.nodes) c.requires.kept.step.memo more.others.stamps)
    (c.follows_still-2.ensures.inserted s c.args.self.now.stale (stamps_in c.args.self.now.trace.nodes) (stamps_in c.finish_read.new.self.nodes) c.requires.kept.step.stale more.others.stamps)

pub returns-clause-touched : goal.returns-clause-touched
returns-clause-touched c =
    touched-more c.finish_read.result.0 c.args.self.now.trace c.reserve.new.self c.finish_read.new.self c.reserve.ensures.nodes c.reserve.ensures.untouched c.finish_read.ensures.touches
    c.finish_read.ensures.inserted.others

pub returns-clause-counts : goal.returns-clause-counts
returns-clause-counts c = record {
  looked = omega arith;
  differed = omega arith;
  touched = touched-on c.args.self.now.trace c.reserve.new.self c.finish_read.new.self c.reserve.ensures.untouched c.finish_read.ensures.touches;
  grows = λ few. grows-put c.finish_read.result.0 c.args.self.now.trace c.reserve.new.self c.finish_read.new.self c.reserve.ensures.nodes c.reserve.ensures.untouched
      c.in_ok-reserve.ensures.few c.finish_read.ensures.touches c.finish_read.ensures.inserted.others c.finish_read.ensures.spare few;
  seed = refl;
}
