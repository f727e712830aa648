-- Which blocks a run knows, and what it knows of them.
use Rattle.std.specs.Prelude.{◌≡◌, ℕ, Some, List, ⊤}
use Rattle.ceal_base.specs.Block.{Block}
use Rattle.ceal_base.specs.declared.word.BlockId.{BlockId}
use Rattle.ceal_code.specs.Replay.{In, KnownBlock, KnownWord, KnownWords, KnownKey}
use Rattle.ceal_code.specs.Step.{Stack, Empty, Run, Act, Over, Quiet, Makes, Writes, Reads}
use Rattle.ceal_code.specs.Value.{Plain, Variables}

-- the second list has the blocks of the first
abbrev pub Subset : List ℕ → List ℕ → Type 0
Subset bs cs = (b : ℕ) → In b bs → In b cs

-- the block's plain words are there, and mention only known blocks
pub record Held (inputs : ℕ) (bs : List ℕ) (x : Plain) (b : BlockId) : Type 0 where
  pub block : Block
  pub there : x b ≡ Some block
  pub known : KnownWords inputs bs block.words

-- each block that is known has its plain words
abbrev pub Holds : ℕ → List ℕ → Plain → Type 0
Holds inputs bs x = (b : BlockId) → KnownBlock inputs bs b → Held inputs bs x b

-- both have the same plain words of each known block
abbrev pub Agree : ℕ → List ℕ → Plain → Plain → Type 0
Agree inputs bs x y = (b : BlockId) → KnownBlock inputs bs b → x b ≡ y b

-- the blocks that variables name are known
abbrev pub KnownVariables : ℕ → List ℕ → Variables → Type 0
KnownVariables inputs bs env = (v : ℕ) → KnownWord inputs bs (env v)

-- the blocks that the variables of a stack name are known
abbrev pub KnownStack : ℕ → List ℕ → Stack → Type 0
KnownStack inputs bs Empty = ⊤
KnownStack inputs bs (Run u i env below) = KnownVariables inputs bs env × KnownStack inputs bs below

-- the blocks that a step names are known
abbrev pub KnownAct : ℕ → List ℕ → Act → Type 0
KnownAct inputs bs Over = ⊤
KnownAct inputs bs (Quiet after) = KnownStack inputs bs after
KnownAct inputs bs (Makes key v u i env below) =
    KnownKey inputs bs key × KnownVariables inputs bs env × KnownStack inputs bs below
KnownAct inputs bs (Writes p value after) =
    KnownBlock inputs bs p.block × KnownWord inputs bs value × KnownStack inputs bs after
KnownAct inputs bs (Reads p u v args below) =
    KnownBlock inputs bs p.block × KnownWords inputs bs args × KnownStack inputs bs below
