use Rattle.ceal_memo.specs.Keys.{OfAlloc}
use Rattle.ceal_repair.proofs.TableCalls.LookUp.{looked-up, alloc-tells}
use Rattle.ceal_repair.specs.Lists.{allocates}
use Rattle.ceal_repair.proofs.tables.Tables.find_alloc.Goals as goal

pub first_of_alloc-requires-clause-keys : goal.first_of_alloc-requires-clause-keys
first_of_alloc-requires-clause-keys c = c.requires.kept.step.keyed.entries

pub returns : goal.returns
returns c =
    looked-up (allocates c.args.key.now) (OfAlloc c.args.key.now) (alloc-tells c.args.key.now) c.args.self.now.trace.nodes c.requires.kept.step.whole.order.distinct c.args.after.0 c.args.until.0
    c.requires.after c.requires.until c.requires.order c.first_of_alloc.result
    (rw c.order.ensures at c.first_of_alloc.ensures.first) (rw c.order.ensures at c.first_of_alloc.ensures.before) (rw c.order.ensures at c.first_of_alloc.ensures.none)
