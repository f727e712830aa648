use Rattle.std.proofs.Common.{◌≡◌, ◌++◌, length}
use Rattle.ceal_session.specs.InputNames.{AreDistinct}
use Rattle.ceal_session.proofs.restore.table_of.Given as goal

abbrev pub invariant-loop-name : goal.invariant-loop-name
invariant-loop-name l = record {
  whole : l.table ++ l.names ≡ l.fn.names;
  once : AreDistinct l.table;
}

abbrev pub decreases-loop-name : goal.decreases-loop-name
decreases-loop-name l = length l.names
