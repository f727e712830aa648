use Rattle.std.proofs.Common.{sym}
use Rattle.ceal_types.proofs.NameNumbers.NumberOfName.{has-number}
use Rattle.ceal_types.proofs.table.Table.has.Goals as goal

pub returns : goal.returns
returns g c = record { there = rw (c.is_some.ensures, c.index.ensures.number) (sym (has-number c.args.self.now c.args.name.now)) }
