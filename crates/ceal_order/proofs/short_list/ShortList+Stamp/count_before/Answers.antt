use Rattle.std.proofs.Common.{arith}
use Rattle.ceal_order.proofs.Searching.{count_within}
use Rattle.ceal_order.proofs.short_list.ShortList+Stamp.count_before.Goals as goal

pub returns-in-Many-clause-within : goal.returns-in-Many-clause-within
returns-in-Many-clause-within c =
    let found = rw c.deref.ensures at c.count_before.ensures in
    rw (← c.self.view_is, c.in-Many.is) (omega (arith, found, count_within c.args.order.now.stamps c.args.stamp.0 c.in-Many.items.value))
