use Rattle.ceal_repair.proofs.TableCalls.BaseEdit.{Looking}
use Rattle.ceal_repair.proofs.tables.Tables.has_stale.Given as goal

abbrev pub invariant-loop-looked : goal.invariant-loop-looked
invariant-loop-looked l = Looking l.fn.self l.self l._looked
