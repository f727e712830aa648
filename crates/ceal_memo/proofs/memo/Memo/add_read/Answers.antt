use Rattle.ceal_memo.specs.Keys.{OfRead}
use Rattle.ceal_memo.proofs.memo.Memo.add_read.Goals as goal

pub returns-clause-ok : goal.returns-clause-ok
returns-clause-ok c = λ entries holds. c.in_ok-add.ensures.ok (OfRead c.args.key.now) entries c.of_read-hashed.ensures holds
