use Rattle.std.proofs.Common.{length}
use Rattle.ceal_engine_tests.proofs.edits.+extends.Given as goal

abbrev pub decreases-extends : goal.decreases-extends
decreases-extends l = length l.old.now
