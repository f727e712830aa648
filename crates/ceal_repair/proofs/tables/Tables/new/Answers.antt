use Rattle.ceal_trace.specs.Nodes.{stamps_in}
use Rattle.ceal_repair.proofs.TableCalls.PutKeepsTables.{tables}
use Rattle.ceal_repair.proofs.TableCalls.ContentAfter.{first-kept}
use Rattle.ceal_repair.proofs.tables.Tables.new.Goals as goal

-- there is one node, the root, and each table is empty
pub returns-clause-kept : goal.returns-clause-kept
returns-clause-kept c =
    first-kept (tables c.in_ok-new.field-0 c.in_ok-new-2.field-0 c.in_ok-new-3.field-0 c.in_ok-seeded.field-0) c.in_ok-new.ensures.nodes c.in_ok-new.ensures.whole c.in_ok-new.ensures.closed
    c.in_ok-new-2.ensures.cells
    c.in_ok-new-3.ensures.stamps c.in_ok-seeded.ensures.holds (c.in_ok-new-2.ensures.follows (stamps_in c.in_ok-new.field-0.nodes))
    (c.in_ok-seeded.ensures.follows (stamps_in c.in_ok-new.field-0.nodes))
    (c.in_ok-new-3.ensures.follows (stamps_in c.in_ok-new.field-0.nodes))

pub returns-clause-looks : goal.returns-clause-looks
returns-clause-looks c = record { looked = c.in_ok-new-2.ensures.looked; differed = c.in_ok-new-2.ensures.differed; touched = c.in_ok-new.ensures.untouched; spare = c.in_ok-new.ensures.spare }

pub returns-clause-unmarked : goal.returns-clause-unmarked
returns-clause-unmarked c = c.in_ok-new-2.ensures.marked
