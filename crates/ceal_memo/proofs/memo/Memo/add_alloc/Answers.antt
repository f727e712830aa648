use Rattle.ceal_memo.specs.Keys.{OfAlloc}
use Rattle.ceal_memo.proofs.memo.Memo.add_alloc.Goals as goal

pub returns-clause-ok : goal.returns-clause-ok
returns-clause-ok c = λ entries holds. c.in_ok-add.ensures.ok (OfAlloc c.args.key.now) entries c.of_alloc-hashed.ensures holds
