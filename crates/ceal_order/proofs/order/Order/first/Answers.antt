use Rattle.ceal_order.proofs.Chains.{order_is, first_there}
use Rattle.ceal_order.proofs.order.Order.first.Goals as goal

pub returns-clause-first_in : goal.returns-clause-first_in
returns-clause-first_in c = rw (← c.self.view_is) (first_there _ _ c.self.invariant.live).0

pub returns-clause-at_start : goal.returns-clause-at_start
returns-clause-at_start c = rw (← c.self.view_is) (first_there _ _ c.self.invariant.live).1

pub returns-clause-whole : goal.returns-clause-whole
returns-clause-whole c = rw (← c.self.view_is) (order_is _ _ _ _ _ c.self.invariant)
