use Rattle.ceal_repair.proofs.QueueCover.ChainCovers.{kept-covers}
use Rattle.ceal_repair.proofs.laws.stale_reads_are_covered.Goals as goal

pub returns : goal.returns
returns c = kept-covers
