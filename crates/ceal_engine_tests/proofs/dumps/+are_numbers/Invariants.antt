use Rattle.std.proofs.Common.{length}
use Rattle.ceal_engine_tests.proofs.dumps.+are_numbers.Given as goal

abbrev pub decreases-are_numbers : goal.decreases-are_numbers
decreases-are_numbers l = length l.blocks.now
