use Rattle.std.proofs.Common.{length}
use Rattle.ceal_engine_tests.proofs.edits.+are_plain_same.Given as goal

abbrev pub decreases-are_plain_same : goal.decreases-are_plain_same
decreases-are_plain_same l = length l.fields.now
