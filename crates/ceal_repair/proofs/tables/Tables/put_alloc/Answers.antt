use Rattle.std.proofs.Common.{ℕ, refl}
use Rattle.ceal_memo.specs.Keys.{OfAlloc}
use Rattle.ceal_repair.specs.Lists.{entries_in}
use Rattle.ceal_trace.specs.Nodes.{stamps_in}
use Rattle.ceal_trace.specs.declared.node.Node.TheVariants.{Alloc}
use Rattle.ceal_repair.proofs.QueueCover.NodeChanges.{read-has}
use Rattle.ceal_repair.proofs.TableCalls.CallsKeepCover.{behind-put}
use Rattle.ceal_repair.proofs.TableCalls.PutKeepsTables.{alloc-kept, no-entry}
use Rattle.std.proofs.Common.{arith}
use Rattle.ceal_repair.proofs.TableCalls.FewLooks.{touched-more, touched-on, grows-put}
use Rattle.ceal_repair.proofs.tables.Tables.put_alloc.Goals as goal

pub add-requires-clause-absent : goal.add-requires-clause-absent
add-requires-clause-absent c = no-entry c.insert_alloc-alloc.result.0 c.args.self.now c.requires.kept.step (rw c.reserve.ensures.nodes at c.insert_alloc-alloc.ensures.inserted.new)

pub returns-clause-behind : goal.returns-clause-behind
returns-clause-behind c = λ late r i.
    behind-put c.args.after.0 c.insert_alloc-alloc.result.0 (Alloc c.args.block c.args.key) c.args.self.now.trace.nodes c.insert_alloc-alloc.new.self.nodes
    (rw c.reserve.ensures.nodes at c.insert_alloc-alloc.ensures.inserted) c.requires.here r (read-has r c.args.self.now.trace.nodes (c.requires.kept.step.queued r i)) (late r i)

-- the order has one stamp more, along which all tables still lie
pub returns-clause-kept : goal.returns-clause-kept
returns-clause-kept c =
    let s : ℕ = c.insert_alloc-alloc.result.0 in
    let more = rw c.reserve.ensures.nodes at c.insert_alloc-alloc.ensures.inserted in
    alloc-kept c.args.self.now c.requires.kept c.args.after.0 s (Alloc c.args.block c.args.key) c.insert_alloc-alloc.new.self c.requires.here
    (rw c.reserve.ensures.nodes at c.insert_alloc-alloc.ensures.nodes) (rw c.reserve.ensures.nodes at c.insert_alloc-alloc.ensures.inserted)
    c.insert_alloc-alloc.ensures.whole c.insert_alloc-alloc.ensures.closed c.args.block c.args.key refl c.add.new.self
    (c.in_ok-add.ensures.ok (OfAlloc c.args.key) (entries_in c.args.self.now.trace.nodes) c.requires.hashed c.requires.kept.step.keyed.entries)
    (c.follows_still.ensures.inserted s c.args.self.now.mods (stamps_in c.args.self.now.trace.nodes) (stamps_in c.insert_alloc-alloc.new.self.nodes) c.requires.kept.step.mods more.others.stamps)
    (rw c.order.ensures at c.add.ensures.follows)
    (c.follows_still-2.ensures.inserted s c.args.self.now.stale (stamps_in c.args.self.now.trace.nodes) (stamps_in c.insert_alloc-alloc.new.self.nodes) c.requires.kept.step.stale more.others.stamps)

pub returns-clause-touched : goal.returns-clause-touched
returns-clause-touched c =
    touched-more c.insert_alloc-alloc.result.0 c.args.self.now.trace c.reserve.new.self c.insert_alloc-alloc.new.self c.reserve.ensures.nodes c.reserve.ensures.untouched
    c.insert_alloc-alloc.ensures.touches c.insert_alloc-alloc.ensures.inserted.others

pub returns-clause-counts : goal.returns-clause-counts
returns-clause-counts c = record {
  looked = omega arith;
  differed = omega arith;
  touched = touched-on c.args.self.now.trace c.reserve.new.self c.insert_alloc-alloc.new.self c.reserve.ensures.untouched c.insert_alloc-alloc.ensures.touches;
  grows = λ few. grows-put c.insert_alloc-alloc.result.0 c.args.self.now.trace c.reserve.new.self c.insert_alloc-alloc.new.self c.reserve.ensures.nodes c.reserve.ensures.untouched
      c.in_ok-reserve.ensures.few c.insert_alloc-alloc.ensures.touches c.insert_alloc-alloc.ensures.inserted.others c.insert_alloc-alloc.ensures.spare few;
  seed = c.add.ensures.seed;
}
