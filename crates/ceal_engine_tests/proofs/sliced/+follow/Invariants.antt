use Rattle.std.proofs.Common.{length}
use Rattle.ceal_engine_tests.proofs.sliced.+follow.Given as goal

abbrev pub decreases-follow : goal.decreases-follow
decreases-follow l = length l.steps.now
