-- Paths through memory, and the order of the blocks to which they lead.
use Rattle.std.specs.Prelude.{◌≡◌, ℕ, ◌<◌, ◌==◌, ◌||◌, ◌⊎◌, Bool, false, IsTrue, Option, Some, None, List, [], ◌∷◌}
use Rattle.std.specs.Prelude.{length}
use Rattle.std.specs.List.{AllZip}
use Rattle.ceal_base.specs.declared.word.BlockId.{BlockId}
use Rattle.ceal_base.specs.declared.word.BlockId.TheVariants.{Input, Core}
use Rattle.ceal_base.specs.declared.word.Word.{Word}
use Rattle.ceal_show.specs.Shown.{Shown, word_at, target}

-- whether two blocks are one
abbrev pub same_block : BlockId → BlockId → Bool
same_block (Input m) (Input n) = m == n
same_block (Core m) (Core n) = m == n
same_block _ _ = false

-- whether the block is in the list
abbrev pub is_in : BlockId → List BlockId → Bool
is_in b [] = false
is_in b (c ∷ cs) = same_block b c || is_in b cs

-- the block that a word leads to, if there is such a word
abbrev pub target_of : Option Word → Option BlockId
target_of None = None
target_of (Some word) = target word

-- the block to which the field of a block leads, through a pointer to it or to a modifiable in it
abbrev pub target_at : Shown → BlockId → ℕ → Option BlockId
target_at memory b field = target_of (word_at memory b field)

-- A path is a list of field numbers; it leads from the one block to the other.
unfoldable pub IsPath : Shown → BlockId → List ℕ → BlockId → Type 0
IsPath memory a [] b = a ≡ b
IsPath memory a (field ∷ path) b = (c : BlockId) × (target_at memory a field ≡ Some c) × IsPath memory c path b

-- at the first difference the first path has the smaller number
abbrev pub IsEarlier : List ℕ → List ℕ → Type 0
IsEarlier (m ∷ p) (n ∷ q) = (m < n) ⊎ (m ≡ n) × IsEarlier p q
IsEarlier _ _ = ⊥

-- The first path is less: it is shorter, or as long and earlier at the first difference.
abbrev pub IsLess : List ℕ → List ℕ → Type 0
IsLess p q = (length p < length q) ⊎ (length p ≡ length q) × IsEarlier p q

-- The path leads from the root to the block, and no lesser one does.
pub record IsPathOf (memory : Shown) (root b : BlockId) (path : List ℕ) : Type 0 where
  pub leads : IsPath memory root path b
  pub least : (other : List ℕ) → IsPath memory root other b → IsLess other path → ⊥

-- the path is less than the first of these
abbrev pub IsBelow : List ℕ → List (List ℕ) → Type 0
IsBelow p [] = Unit {0}
IsBelow p (q ∷ qs) = IsLess p q

-- each path is below those that follow it
abbrev pub AreRising : List (List ℕ) → Type 0
AreRising [] = Unit {0}
AreRising (p ∷ ps) = IsBelow p ps × AreRising ps

-- These are the blocks to which paths lead from the root, in the order of their paths.
pub record AreReached (memory : Shown) (root : BlockId) (blocks : List BlockId) : Type 0 where
  pub paths : List (List ℕ)
  pub each : AllZip (IsPathOf memory root) blocks paths
  pub rising : AreRising paths
  pub all : (b : BlockId) (path : List ℕ) → IsPath memory root path b → IsTrue (is_in b blocks)
