-- The words that name a workload.
use Rattle.std.specs.Prelude.{◌≡◌, ℕ, List, [], ◌∷◌, codes}
use Rattle.ceal_gen.specs.declared.kind.Workload.{Workload}
use Rattle.ceal_gen.specs.declared.kind.Workload.TheVariants.{List as OfList, Tree as OfTree}
use Rattle.ceal_cli.specs.Numerals.{Spells}

abbrev pub LARGEST_SEED : ℕ
LARGEST_SEED = 2147483647

abbrev pub LARGEST_SIZE : ℕ
LARGEST_SIZE = 40000

abbrev pub SpellsSeed : List ℕ → ℕ → Type 0
SpellsSeed text seed = Spells 0 LARGEST_SEED text seed

abbrev pub SpellsSize : List ℕ → ℕ → Type 0
SpellsSize text size = Spells 1 LARGEST_SIZE text size

abbrev pub kind_word : Workload → List ℕ
kind_word OfList = codes "list"
kind_word OfTree = codes "tree"

abbrev pub IsNoKind : List ℕ → Type 0
IsNoKind word = (kind : Workload) → ¬ (word ≡ kind_word kind)

-- The words are `gen`, a kind, a seed and a size.
pub record NamesWorkload (words : List (List ℕ)) (kind : Workload) (seed size : ℕ) : Type 0 where
  pub seed_text : List ℕ
  pub size_text : List ℕ
  pub same : words ≡ codes "gen" ∷ kind_word kind ∷ seed_text ∷ size_text ∷ []
  pub seed_is : SpellsSeed seed_text seed
  pub size_is : SpellsSize size_text size
