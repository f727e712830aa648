use Rattle.std.proofs.Common.{◌≡◌, ◌<◌, ℕ, length, drop, slice_get}
use Rattle.ceal_base.specs.declared.word.BlockId.TheVariants.{Input}
use Rattle.ceal_code.specs.Tables.{memory_in}
use Rattle.ceal_traceck.proofs.memory.are_inputs.Given as goal

-- the blocks so far are those of the memory
abbrev pub invariant-loop-block : goal.invariant-loop-block
invariant-loop-block l = record {
  rest : l.blocks ≡ drop l.number l.fn.blocks;
  same : (i : ℕ) → i < l.number → memory_in l.memory (Input i) ≡ slice_get l.fn.blocks i;
}

abbrev pub decreases-loop-block : goal.decreases-loop-block
decreases-loop-block l = length l.blocks
