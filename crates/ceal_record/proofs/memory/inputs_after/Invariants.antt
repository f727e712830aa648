use Rattle.std.proofs.Common.{◌≡◌, ◌<◌, ℕ, Some, length, slice_get}
use Rattle.ceal_base.specs.Block.{Block}
use Rattle.ceal_base.specs.declared.word.BlockId.TheVariants.{Input}
use Rattle.ceal_code.specs.Tables.{memory_in}
use Rattle.ceal_record.proofs.memory.inputs_after.Given as goal

abbrev pub invariant-loop-old : goal.invariant-loop-old
invariant-loop-old l = record {
  at : l.number ≡ l.old-index;
  counted : length l.blocks.items ≡ l.old-index;
  each : (k : ℕ) (old b : Block) → k < l.old-index → slice_get l.inputs k ≡ Some old → memory_in l.memory (Input k) ≡ Some b → b.shape ≡ old.shape → slice_get l.blocks.items k ≡ Some b;
}
