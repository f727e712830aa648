use Rattle.std.proofs.Common.{◌≡◌, length}
use Rattle.std.specs.List.{list_all}
use Rattle.ceal_traceck.specs.Verdicts.{has_known_shape}
use Rattle.ceal_traceck.proofs.call.all_shapes_known.Given as goal

abbrev pub invariant-loop-block : goal.invariant-loop-block
invariant-loop-block l = list_all (has_known_shape l.code.structs) l.blocks ≡ list_all (has_known_shape l.code.structs) l.inputs

abbrev pub decreases-loop-block : goal.decreases-loop-block
decreases-loop-block l = length l.blocks
