-- The words of a block of the memory after a trace, one by one.
use Rattle.std.proofs.Common.{◌≡◌, Option, Some, None, List, refl, sym}
use Rattle.std.specs.Option.{option_map}
use Rattle.ceal_base.specs.Block.{Block}
use Rattle.ceal_base.specs.declared.kind.Shape.{Shape}
use Rattle.ceal_base.specs.declared.word.BlockId.{BlockId}
use Rattle.ceal_base.specs.declared.word.Word.{Word}
use Rattle.ceal_code.proofs.Words.SameIsEqual.{some-same, none-some}
use Rattle.ceal_code.specs.PlainWords.{block_shape}
use Rattle.ceal_code.specs.Program.{Code}
use Rattle.ceal_code.specs.Replay.{Store, filled, block_after}
use Rattle.ceal_code.specs.Tables.{code_in, plain_in, store_in, memory_in}
use Rattle.ceal_code.specs.declared.trace_memory.TraceMemory.{TraceMemory}

shape-filled : (code : Code) (s : Store) (b : BlockId) (o : Option Block) → block_shape (option_map (filled code s b) o) ≡ block_shape o
shape-filled code s b None = refl
shape-filled code s b (Some block) = refl

-- a block has the shape that its plain words have
pub shape-after : (m : TraceMemory) (b : BlockId) → block_shape (memory_in m b) ≡ block_shape (plain_in m b)
unfolding block_after
shape-after m b = shape-filled (code_in m) (store_in m) b (plain_in m b)

-- a block from its shape and its words
pub block-is : (o : Option Block) (shape : Shape) (words : List Word) → Some shape ≡ block_shape o → ((b : Block) → o ≡ Some b → words ≡ b.words)
    → Some (record { shape = shape; words = words }) ≡ o
block-is None shape words e h = none-some shape (sym e)
block-is (Some block) shape words e h = rw (some-same shape block.shape e, h block refl) refl

pub block-none : (o : Option Block) → None ≡ block_shape o → None ≡ o
block-none None e = refl
block-none (Some block) e = none-some block.shape e
