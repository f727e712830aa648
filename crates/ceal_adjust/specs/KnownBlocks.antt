-- Known core blocks, as the code keeps them.
use Rattle.std.specs.Prelude.{◌≡◌, ℕ, zero, suc, Option, Some, None, List, [], ◌∷◌, ◌++◌}
use Rattle.ceal_base.specs.Block.{Block}
use Rattle.ceal_base.specs.declared.word.BlockId.TheVariants.{Core}
use Rattle.ceal_base.specs.declared.word.Word.{Word}
use Rattle.ceal_code.specs.Program.{Code}
use Rattle.ceal_code.specs.Replay.{Store, learnt}
use Rattle.ceal_code.specs.Tables.{defaulted}
use Rattle.ceal_code.specs.Value.{Plain}

-- a core block with its number
pub record Numbered : Type 0 where
  pub number : ℕ
  pub block : Block

-- a block with one word more
abbrev pub with_word : Numbered → Word → Numbered
with_word k word =
    record k { block = record { shape = k.block.shape; words = k.block.words ++ word ∷ [] } }

-- no block is known
abbrev pub nothing : Plain
nothing b = None

-- with these blocks
unfoldable pub knowing : Plain → List Numbered → Plain
knowing x [] = x
knowing x (k ∷ ks) = knowing (learnt x (Core k.number) k.block) ks

-- with their modifiables at their defaults
unfoldable pub defaulting : Code → Store → List Numbered → Store
defaulting code s [] = s
defaulting code s (k ∷ ks) = defaulting code (defaulted code s (Core k.number) k.block) ks

-- what is known of a number is this block, if there is one
abbrev pub IsKnown : ℕ → Option Block → Option Numbered → Type 0
IsKnown number o None = o ≡ None
IsKnown number o (Some k) = (k.number ≡ number) × (o ≡ Some k.block)

-- the block of this number with it, if it is known
abbrev pub block_list : ℕ → Option Block → List Numbered
block_list number None = []
block_list number (Some block) = record { number = number; block = block } ∷ []

-- the known core blocks with numbers below this one, each once and in their order
unfoldable pub blocks_below : ℕ → Plain → List Numbered
blocks_below zero x = []
blocks_below (suc n) x = blocks_below n x ++ block_list n (x (Core n))
