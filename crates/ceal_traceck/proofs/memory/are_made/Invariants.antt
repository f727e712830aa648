use Rattle.std.proofs.Common.{length}
use Rattle.std.specs.Prelude.{◌↔◌}
use Rattle.ceal_code.specs.Tables.{memory_in}
use Rattle.ceal_traceck.specs.Items.{AreMade}
use Rattle.ceal_traceck.proofs.memory.are_made.Given as goal

-- all is right exactly when what is left is right
abbrev pub invariant-loop-item : goal.invariant-loop-item
invariant-loop-item l = AreMade (memory_in l.memory) l.fn.items l.fn.blocks ↔ AreMade (memory_in l.memory) l.items l.blocks

abbrev pub decreases-loop-item : goal.decreases-loop-item
decreases-loop-item l = length l.items
