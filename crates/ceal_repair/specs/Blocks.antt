-- The blocks of a run, and what its nodes say of them.
use Rattle.std.specs.Prelude.{◌≡◌, ◌↔◌, ◌⊎◌, ◌<◌, ◌≤◌, ◌+◌, ℕ, List, Some, IsSome, length}
use Rattle.ceal_base.specs.Block.{Block}
use Rattle.ceal_base.specs.declared.forest.Key.{Key}
use Rattle.ceal_base.specs.declared.word.BlockId.{BlockId}
use Rattle.ceal_base.specs.declared.word.BlockId.TheVariants.{Input, Core}
use Rattle.ceal_base.specs.declared.word.Place.{Place}
use Rattle.ceal_base.specs.declared.word.Word.{Word}
use Rattle.ceal_code.specs.Program.{Code}
use Rattle.ceal_code.specs.Replay.{In, Distinct, count}
use Rattle.ceal_heap.specs.Heap.{Contents, IsLive, NoneReleased, block_of, next}
use Rattle.ceal_repair.specs.Words.{HasBases}
use Rattle.ceal_repair.specs.Kept.{Records}
use Rattle.ceal_repair.specs.declared.tables.Tables.{Tables}
use Rattle.ceal_theory.specs.KnownContent.{allocs}
use Rattle.ceal_trace.specs.Items.{forest_of}
use Rattle.ceal_trace.specs.Nodes.{Entry, node_at}
use Rattle.ceal_trace.specs.declared.node.Node.TheVariants.{Alloc}

-- the block is one of `inputs` inputs, or can be read in the heap
abbrev pub There : ℕ → Contents → BlockId → Type 0
There inputs heap (Input i) = i < inputs
There inputs heap (Core b) = IsSome (block_of heap (Core b))

-- the places that are read are those of blocks that are there
abbrev pub ReadsThere : ℕ → Contents → List Entry → Type 0
ReadsThere inputs heap nodes = (s : ℕ) (p : Place) (v : Word)
    → Records p v (node_at s nodes) → There inputs heap p.block

-- the live blocks are those that the nodes allocate, each once; no node allocates an input
pub record Lives (heap : Contents) (nodes : List Entry) : Type 0 where
  pub live : (b : ℕ) → IsLive heap (Core b) ↔ In b (allocs (forest_of nodes))
  pub once : Distinct (allocs (forest_of nodes))
  pub cores : (s i : ℕ) (key : Key) → node_at s nodes ≡ Some (Alloc (Input i) key) → ⊥

-- the live blocks are those of the nodes, and each modifiable has its base
pub record HasBlocks (code : Code) (inputs : List Block) (heap : Contents) (t : Tables) : Type 0 where
  pub bases : HasBases code.structs inputs heap t.mods
  pub lives : Lives heap t.trace.nodes
  pub reads : ReadsThere (length inputs) heap t.trace.nodes

-- each block can be read as before, and no number was given out for the first time
pub record KeepsReadable (before after : Contents) : Type 0 where
  pub blocks : (b : BlockId) → block_of after b ≡ block_of before b
  pub numbers : next after ≡ next before

-- at most one number was given out for the first time, and only where none waited for another block
abbrev pub GivesOne : Contents → Contents → Type 0
GivesOne before after = (next after ≡ next before) ⊎ ((next after ≡ next before + 1) × NoneReleased before)

-- no more core blocks than that can be read, live and revoked ones together
pub record HasFew (most : ℕ) (heap : Contents) : Type 0 where
  pub blocks : List ℕ
  pub each : (b : ℕ) → IsSome (block_of heap (Core b)) ↔ In b blocks
  pub few : length blocks ≤ most

-- The numbers that new blocks were given: each is another one, none is that of a block that was there at first, and the
-- blocks that can be read are those of the first numbers and of these. No more numbers were given out than at first, or
-- no more than all these.
pub record Given (first : List ℕ) (numbers : ℕ) (chosen : List ℕ) (heap : Contents) : Type 0 where
  pub distinct : Distinct chosen
  pub apart : (b : ℕ) → In b chosen → count b first ≡ 0
  pub there : (b : ℕ) → In b chosen → IsSome (block_of heap (Core b))
  pub still : (b : ℕ) → In b first → IsSome (block_of heap (Core b))
  pub only : (b : ℕ) → IsSome (block_of heap (Core b)) → In b first ⊎ In b chosen
  pub few : (next heap ≤ numbers) ⊎ (next heap ≤ length first + length chosen)
