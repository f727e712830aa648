-- What a trace says of the run from scratch.
use Rattle.std.specs.Prelude.{◌≡◌, ℕ, ◌≤◌, ◌<◌, Some, None, List, length}
use Rattle.ceal_base.specs.Block.{Block, Blocks}
use Rattle.ceal_base.specs.Same.{Same}
use Rattle.ceal_base.specs.Trace.{Trace, steps_of, blocks_of}
use Rattle.ceal_base.specs.declared.word.BlockId.TheVariants.{Core}
use Rattle.ceal_base.specs.declared.word.Word.{Word}
use Rattle.ceal_code.specs.Fresh.{fresh}
use Rattle.ceal_code.specs.Program.{Code}
use Rattle.ceal_code.specs.Replay.{Store, core_numbers, plain_of, block_after, inputs_after}

-- The run from scratch has the trace's steps and its number of blocks. Its memory is that of the trace, where the store
-- is this one at the end and the i-th block stands for the core block of number i. With fewer steps there is no end.
pub record Determined
    (code : Code) (inputs : List Block) (f : ℕ) (args : List Word) (l : Trace) (after : Store) : Type 0 where
  pub memory : Blocks
  pub same : Same (core_numbers (blocks_of l)) (inputs_after code after 0 inputs)
      (λ b. block_after code (plain_of code inputs l) after (Core b)) memory
  pub ends : (fuel : ℕ) → steps_of l ≤ fuel
      → fresh code f args inputs fuel
      ≡ Some (record { memory = memory; steps = steps_of l; blocks = length (blocks_of l) })
  pub short : (fuel : ℕ) → fuel < steps_of l → fresh code f args inputs fuel ≡ None
