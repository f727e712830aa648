-- Paths of a graph.
use Rattle.std.specs.Prelude.{ℕ, Bool, true, IsTrue, Option, Some, None, List, [], ◌∷◌, slice_get, Contains}
use Rattle.ceal_flow.specs.declared.block.GraphBlock.{GraphBlock}
use Rattle.ceal_flow.specs.declared.block.GraphBlock.TheVariants.{Done, Test, Act, Unreached}

-- the jumps of a block
abbrev pub jumps : GraphBlock → List ℕ
jumps Done = []
jumps (Test test first second) = first ∷ second ∷ []
jumps (Act s next) = next ∷ []
jumps Unreached = []

-- the targets of the jumps of a block, if it is there
abbrev pub jumps_at : Option GraphBlock → List ℕ
jumps_at None = []
jumps_at (Some block) = jumps block

-- the test holds of the block of this number
abbrev pub test_at : (GraphBlock → Bool) → Option GraphBlock → Type 0
test_at test None = ⊥
test_at test (Some block) = IsTrue (test block)

-- a path from one block to another, jump by jump, such that the test holds of each block but the last
pub data Path (blocks : List GraphBlock) (test : GraphBlock → Bool) : ℕ → ℕ → Type 0 where
  stays : {b : ℕ} → Path blocks test b b
  jumps_to : {b c d : ℕ} → test_at test (slice_get blocks b) → Contains (jumps_at (slice_get blocks b)) c
      → Path blocks test c d → Path blocks test b d

-- every block
abbrev pub any : GraphBlock → Bool
any block = true

-- a path leads from one block to another
abbrev pub Leads : List GraphBlock → ℕ → ℕ → Type 0
Leads blocks b c = Path blocks any b c
