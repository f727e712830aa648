use Rattle.ceal_memo.specs.Keys.{OfRead}
use Rattle.ceal_repair.proofs.TableCalls.LookUp.{looked-up, read-tells}
use Rattle.ceal_repair.specs.Lists.{recalls}
use Rattle.ceal_repair.proofs.tables.Tables.find_read.Goals as goal

pub first_of_read-requires-clause-keys : goal.first_of_read-requires-clause-keys
first_of_read-requires-clause-keys c = c.requires.kept.step.keyed.entries

pub returns : goal.returns
returns c =
    looked-up (recalls c.args.key.now) (OfRead c.args.key.now) (read-tells c.args.key.now) c.args.self.now.trace.nodes c.requires.kept.step.whole.order.distinct c.args.after.0 c.args.until.0
    c.requires.after c.requires.until c.requires.order c.first_of_read.result
    (rw c.order.ensures at c.first_of_read.ensures.first) (rw c.order.ensures at c.first_of_read.ensures.before) (rw c.order.ensures at c.first_of_read.ensures.none)
