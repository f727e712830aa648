use Rattle.ceal_order.proofs.Chains.{order_is}
use Rattle.ceal_order.proofs.order.Order.reserve.Goals as goal

pub returns-then-more-len-clause-whole : goal.returns-then-more-len-clause-whole
returns-then-more-len-clause-whole c = rw (← c.self.view_is) (order_is _ _ _ _ _ c.self.invariant)

pub returns-in_err-self-inside-clause-whole : goal.returns-in_err-self-inside-clause-whole
returns-in_err-self-inside-clause-whole c = rw c.in_err-self-inside.ensures.err (order_is _ _ _ _ _ c.self.invariant)

pub returns-clause-whole : goal.returns-clause-whole
returns-clause-whole c = order_is _ _ _ _ _ (c.in_ok-self-inside.ensures.ok.sound _ c.self.invariant)

pub returns-then-n-self-clause-whole : goal.returns-then-n-self-clause-whole
returns-then-n-self-clause-whole c = rw (← c.self.view_is) (order_is _ _ _ _ _ c.self.invariant)
