-- The front of a repair in progress, as lists of writes by place see it.
use Rattle.std.specs.Prelude.{◌≡◌, ℕ, List, [], ◌++◌, length}
use Rattle.ceal_base.specs.Block.{Block}
use Rattle.ceal_base.specs.Trace.{flat}
use Rattle.ceal_base.specs.declared.forest.Item.{Item}
use Rattle.ceal_base.specs.declared.word.Place.{Place}
use Rattle.ceal_base.specs.declared.word.Word.{Word}
use Rattle.ceal_code.specs.Fitting.{Fits}
use Rattle.ceal_code.specs.Program.{Code}
use Rattle.ceal_code.specs.Replay.{KnownBlock, Distinct}
use Rattle.ceal_theory.specs.Cover.{known_after}
use Rattle.ceal_theory.specs.Known.{KnownItems}
use Rattle.ceal_theory.specs.KnownContent.{allocs, written_after}
use Rattle.ceal_theory.specs.Slices.{Repair, starting, RepairHolds}
use Rattle.ceal_theory.specs.Walk.{store_after, AgreesAll}

-- It mentions only known blocks and allocates each once, and at each place of
-- a block that is known after it the store is the last write of the place in it, or else what it was at the beginning.
pub record Listed (code : Code) (inputs : List Block) (r : Repair) (front : List Item) : Type 0 where
  pub items : KnownItems (length inputs) [] front (known_after [] front)
  pub once : Distinct (allocs front)
  pub last : (p : Place) → KnownBlock (length inputs) (known_after [] front) p.block
      → store_after code (starting code inputs r.known) front p ≡ written_after p (starting code inputs r.known p) front

-- so it is with honest items at the beginning of a repair that holds
abbrev pub ListedLaw : Type 0
ListedLaw =
    (code : Code) (names : ℕ → ℕ) (inputs : List Block) (f : ℕ) (args : List Word) → Fits code inputs f args
    → (r : Repair) → RepairHolds code names inputs f args r
    → (front back : List Item) → flat r.items ≡ front ++ back
    → AgreesAll code (starting code inputs r.known) front → Listed code inputs r front
