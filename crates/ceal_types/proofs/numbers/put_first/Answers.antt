use Rattle.ceal_types.proofs.NameNumbers.FirstOfName.{with-new}
use Rattle.ceal_types.proofs.numbers.put_first.Goals as goal

pub returns : goal.returns
returns c = λ n. rw (c.in_ok-add.ensures.ok, c.in_ok-name.ensures.equal) (with-new c.args.table.now c.args.name.now n c.args.number)
