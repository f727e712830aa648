use Rattle.std.proofs.Common.{length}
use Rattle.ceal_parse.proofs.piece.+reduce.Given as goal

abbrev pub decreases-reduce : goal.decreases-reduce
decreases-reduce l = length l.frames.now
