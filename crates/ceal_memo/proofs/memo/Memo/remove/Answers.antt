use Rattle.ceal_memo.proofs.Holding.{holds_less}
use Rattle.ceal_memo.proofs.memo.Memo.remove.Goals as goal

pub returns-clause-holds : goal.returns-clause-holds
returns-clause-holds c = λ entries holds.
    holds_less c.args.order.now.stamps c.args.stamp.0 c.self.inside.table c.remove.new.self c.self.inside.seed.words entries
    (rw (← c.self.view_is) at c.requires.follows).table c.remove.ensures.stamps (rw (← c.self.view_is) at holds)
