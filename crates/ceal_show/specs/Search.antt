-- The blocks that a search has met.
use Rattle.std.specs.Prelude.{◌≡◌, ℕ, ◌+◌, Option, Some, None, IsSome, IsTrue, List, [], ◌∷◌, ◌++◌, if◌then◌else◌}
use Rattle.ceal_base.specs.declared.word.BlockId.{BlockId}
use Rattle.ceal_base.specs.declared.word.Word.{Word}
use Rattle.ceal_show.specs.Shown.{Shown, target}
use Rattle.ceal_show.specs.Paths.{is_in, target_at}
use Rattle.ceal_show.specs.Graph.{core_count, cores_before}

-- the blocks with one more at the end, unless it is among them
abbrev pub with_block : List BlockId → BlockId → List BlockId
with_block blocks b = if is_in b blocks then blocks else blocks ++ b ∷ []

-- the blocks that were met, with one more if there is one
abbrev pub with_target : List BlockId → Option BlockId → List BlockId
with_target blocks None = blocks
with_target blocks (Some b) = with_block blocks b

-- and with the blocks to which the words lead
unfoldable pub with_targets : List BlockId → List Word → List BlockId
with_targets blocks [] = blocks
with_targets blocks (word ∷ words) = with_targets (with_target blocks (target word)) words

-- how many of the blocks are core blocks
abbrev pub cores_in : List BlockId → ℕ
cores_in [] = 0
cores_in (b ∷ bs) = core_count b + cores_in bs

-- how many core blocks there are up to the block, if it is among the blocks
abbrev pub number_in : List BlockId → BlockId → Option ℕ
number_in blocks b = if is_in b blocks then Some (cores_before b blocks + core_count b) else None

-- the block, if there is one, is among those that were met
abbrev pub AreAmong : List BlockId → Option BlockId → Type 0
AreAmong blocks None = Unit {0}
AreAmong blocks (Some b) = IsTrue (is_in b blocks)

-- Each block is in the memory, and so are those to which it leads, which are among the blocks.
pub record AreClosed (memory : Shown) (blocks : List BlockId) : Type 0 where
  pub there : (b : BlockId) → IsTrue (is_in b blocks) → IsSome (memory b)
  pub closed : (b : BlockId) (field : ℕ) (c : BlockId) → IsTrue (is_in b blocks)
      → target_at memory b field ≡ Some c → IsTrue (is_in c blocks)
