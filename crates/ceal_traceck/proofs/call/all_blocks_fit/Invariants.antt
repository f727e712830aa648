use Rattle.std.proofs.Common.{◌≡◌, length}
use Rattle.std.specs.List.{list_all}
use Rattle.ceal_base.specs.Block.{alone}
use Rattle.ceal_base.specs.Fitting.{block_fits}
use Rattle.ceal_traceck.proofs.call.all_blocks_fit.Given as goal

abbrev pub invariant-loop-block : goal.invariant-loop-block
invariant-loop-block l = list_all (block_fits l.code.structs (alone l.inputs)) l.blocks ≡ list_all (block_fits l.code.structs (alone l.inputs)) l.inputs

abbrev pub decreases-loop-block : goal.decreases-loop-block
decreases-loop-block l = length l.blocks
