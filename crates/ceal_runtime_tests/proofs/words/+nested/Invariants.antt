use Rattle.ceal_runtime_tests.proofs.words.+nested.Given as goal

abbrev pub decreases-nested : goal.decreases-nested
decreases-nested g l = l.count
