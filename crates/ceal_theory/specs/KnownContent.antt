-- The content of a known place is that of the last write, and else its base, wherever its block was allocated.
use Rattle.std.specs.Prelude.{◌≡◌, ℕ, List, [], ◌∷◌, if◌then◌else◌}
use Rattle.ceal_base.specs.Operators.{same_place}
use Rattle.ceal_base.specs.declared.forest.Item.{Item}
use Rattle.ceal_base.specs.declared.forest.Item.TheVariants.{Step, Alloc, Write, Read, End}
use Rattle.ceal_base.specs.declared.forest.Key.{Key}
use Rattle.ceal_base.specs.declared.word.BlockId.TheVariants.{Input, Core}
use Rattle.ceal_base.specs.declared.word.Place.{Place}
use Rattle.ceal_base.specs.declared.word.Word.{Word}
use Rattle.ceal_code.specs.Program.{Code}
use Rattle.ceal_code.specs.Replay.{In, Distinct, cell_default, shape_of}
use Rattle.ceal_code.specs.Value.{field_kind}
use Rattle.ceal_theory.specs.Known.{KnownItems}
use Rattle.ceal_theory.specs.Walk.{content_after}

-- the core blocks that the items allocate
abbrev pub allocs : List Item → List ℕ
allocs [] = []
allocs (Alloc (Core b) key ∷ is) = b ∷ allocs is
allocs (Alloc (Input i) key ∷ is) = allocs is
allocs (Step ∷ is) = allocs is
allocs (Write p value ∷ is) = allocs is
allocs (Read p value u v args ∷ is) = allocs is
allocs (End ∷ is) = allocs is

-- the items allocate core block b with the key
pub data Allocates (b : ℕ) (key : Key) : List Item → Type 0 where
  here : {is : List Item} → Allocates b key (Alloc (Core b) key ∷ is)
  there : {i : Item} {is : List Item} → Allocates b key is → Allocates b key (i ∷ is)

-- the last write of the place
abbrev pub written_item : Place → Word → Item → Word
written_item p now (Write q value) = if same_place p q then value else now
written_item p now (Alloc b key) = now
written_item p now Step = now
written_item p now (Read q value u v args) = now
written_item p now End = now

-- what a place holds after writes, where it held `now`
abbrev pub written_after : Place → Word → List Item → Word
written_after p now [] = now
written_after p now (i ∷ is) = written_after p (written_item p now i) is

-- of items that mention only known blocks and allocate each at most once
pub record KnownContents (code : Code) (is : List Item) (bs : List ℕ) : Type 0 where
  pub allocated : (b : ℕ) → In b bs → (key : Key) × Allocates b key is
  pub input : (p : Place) (i : ℕ) → p.block ≡ Input i → (w : Word) → content_after code p w is ≡ written_after p w is
  pub core : (p : Place) (b : ℕ) (key : Key) → p.block ≡ Core b → Allocates b key is → (w : Word)
      → content_after code p w is
      ≡ written_after p (cell_default (field_kind code.structs (shape_of code key) p.field)) is

abbrev pub KnownContentLaw : Type 0
KnownContentLaw =
    (code : Code) (n : ℕ) (is : List Item) (bs : List ℕ) → KnownItems n [] is bs → Distinct (allocs is)
    → KnownContents code is bs
