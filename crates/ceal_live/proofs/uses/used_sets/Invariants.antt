use Rattle.std.proofs.Common.{take}
use Rattle.ceal_live.specs.Rounds.{Begun}
use Rattle.ceal_live.proofs.uses.used_sets.Given as goal

abbrev pub invariant-loop-block : goal.invariant-loop-block
invariant-loop-block l = Begun (take l.block-index l.blocks) l.sets.items
