use Rattle.std.proofs.Common.{arith, length-append}
use Rattle.ceal_order.proofs.Searching.{count_within}
use Rattle.ceal_queue.proofs.stamps.Stamps.count_before.Goals as goal

pub returns-then-is_empty-clause-within : goal.returns-then-is_empty-clause-within
returns-then-is_empty-clause-within c =
    rw (← c.self.view_is)
    (omega (arith, c.count_before.ensures, count_within c.args.order.now.stamps c.args.stamp.0 c.self.inside.sequence, length-append c.self.inside.sequence c.self.inside.plain.items))
