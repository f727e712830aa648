use Rattle.ceal_memo.proofs.Holding.{holds_more}
use Rattle.ceal_memo.proofs.memo.Memo.add.Goals as goal

pub returns-clause-ok : goal.returns-clause-ok
returns-clause-ok c = λ key entries of holds.
    holds_more c.args.order.now.stamps c.args.stamp.0 key c.self.inside.table c.add.new.self c.self.inside.seed.words entries
    (rw (← c.self.view_is) at c.requires.absent).table (rw (rw (← c.self.view_is) at of).hash at c.in_ok-add.ensures.ok) (rw (← c.self.view_is) at holds)
