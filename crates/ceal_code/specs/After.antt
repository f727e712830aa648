-- Memory after a trace.
use Rattle.std.specs.Prelude.{◌≡◌, ℕ, Option, List, slice_get}
use Rattle.ceal_base.specs.Block.{Block}
use Rattle.ceal_base.specs.Trace.{Trace, Nothing, Stepped, Allocated, Wrote, WasRead}
use Rattle.ceal_base.specs.declared.word.BlockId.{BlockId}
use Rattle.ceal_base.specs.declared.word.BlockId.TheVariants.{Input}
use Rattle.ceal_base.specs.declared.word.Word.{Word}
use Rattle.ceal_code.specs.Program.{Code}
use Rattle.ceal_code.specs.Replay.{Store, Honest, Replays, bases, plain_of, cleared, stored, block_after, inputs_after}

-- the store after the items: an allocation puts the modifiables of its block at their defaults,
-- a write changes its place
abbrev pub store_after : Code → Store → Trace → Store
store_after code s Nothing = s
store_after code s (Stepped rest) = store_after code s rest
store_after code s (Allocated b key rest) = store_after code (cleared code s b key) rest
store_after code s (Wrote p value rest) = store_after code (stored s p value) rest
store_after code s (WasRead p value u v args inside rest) = store_after code (store_after code s inside) rest

-- memory after a trace on these inputs: each block with the contents of its modifiables
abbrev pub memory_after : Code → List Block → Trace → BlockId → Option Block
memory_after code inputs l b = block_after code (plain_of code inputs l) (store_after code (bases code inputs) l) b

-- an honest walk ends at the store after its items
abbrev pub StoreLaw : Type 0
StoreLaw = (code : Code) (s t : Store) (l : Trace) → Honest code s l t → t ≡ store_after code s l

-- the input blocks after a trace are those of the memory
abbrev pub InputsLaw : Type 0
InputsLaw = (code : Code) (inputs : List Block) (f : ℕ) (args : List Word) (l : Trace) → Replays code inputs f args l
    → (s : Store) (i : ℕ)
    → slice_get (inputs_after code s 0 inputs) i ≡ block_after code (plain_of code inputs l) s (Input i)
