use Rattle.std.proofs.Common.{length}
use Rattle.ceal_engine_tests.proofs.known.+are_blocks.Given as goal

abbrev pub decreases-are_blocks : goal.decreases-are_blocks
decreases-are_blocks l = length l.found.now
