use Rattle.std.proofs.Common.{length}
use Rattle.ceal_parse.proofs.statement.+wrap.Given as goal

abbrev pub decreases-wrap : goal.decreases-wrap
decreases-wrap l = length l.chain.now
