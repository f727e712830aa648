use Rattle.std.proofs.Common.{length}
use Rattle.ceal_samples.proofs.calls.+do_blocks_fit.Given as goal

abbrev pub decreases-do_blocks_fit : goal.decreases-do_blocks_fit
decreases-do_blocks_fit l = length l.blocks.now
