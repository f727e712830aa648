-- The table of the blocks that a search has met.
use Rattle.std.specs.Prelude.{◌≡◌, ℕ, List}
use Rattle.std.specs.declared.hash.FoldHasher.{FoldHasher}
use Rattle.std.specs.declared.hash.BuildHasherDefault.{BuildHasherDefault}
use Rattle.std.specs.HashMap.{get, HashMap}
use Rattle.ceal_base.specs.contracts.word.BlockIdPartialEq.TheImpl.{ghosts}
use Rattle.ceal_base.specs.declared.word.BlockId.{BlockId}
use Rattle.ceal_show.specs.Search.{cores_in, number_in}

-- The table has the number of each block that is met, and no other, and how many core blocks are met.
pub record IsTable
    (blocks : List BlockId) (numbers : HashMap BlockId ℕ (BuildHasherDefault FoldHasher))
    (cores : ℕ) : Type 0 where
  pub numbered : (b : BlockId) → get ghosts.eq numbers b ≡ number_in blocks b
  pub counted : cores ≡ cores_in blocks
