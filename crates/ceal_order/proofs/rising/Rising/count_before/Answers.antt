use Rattle.std.proofs.Common.{arith}
use Rattle.ceal_order.proofs.Searching.{length-numbers}
use Rattle.ceal_order.proofs.rising.Rising.count_before.Goals as goal

pub returns-clause-within : goal.returns-clause-within
returns-clause-within c = rw (← c.self.view_is) (omega (arith, c.searched.ensures.within, length-numbers c.self.inside.stamps))
