-- The program of `examples/map.ceal`, which keeps the image of a list, and a list with a cell that is put in.
use Rattle.std.specs.Prelude.{◌≡◌, ℕ, ◌+◌, ◌*◌, ◌≤◌, pos, Some, List, [], ◌∷◌, ◌++◌, length, slice_get}
use Rattle.ceal_base.specs.Block.{Block}
use Rattle.ceal_base.specs.Trace.{Trace}
use Rattle.ceal_base.specs.declared.kind.FieldKind.TheVariants.{Plain as PlainField, CellPtr}
use Rattle.ceal_base.specs.declared.kind.Kind.TheVariants.{Int, Ptr, ModPtr as ModPtrKind}
use Rattle.ceal_base.specs.declared.kind.Shape.TheVariants.{Struct}
use Rattle.ceal_base.specs.declared.operators.Binary.TheVariants.{Mul, Differ}
use Rattle.ceal_base.specs.declared.word.BlockId.TheVariants.{Input}
use Rattle.ceal_base.specs.declared.word.Place.{Place}
use Rattle.ceal_base.specs.declared.word.Word.{Word}
use Rattle.ceal_base.specs.declared.word.Word.TheVariants.{Null, Block as BlockWord, At}
use Rattle.ceal_code.specs.Program.{Unit, Code}
use Rattle.ceal_code.specs.Replay.{In, IsHonest, bases}
use Rattle.ceal_code.specs.declared.command.Cmd.TheVariants.{Alloc, Write, If, Done, Tail, Read, Call}
use Rattle.ceal_code.specs.declared.expr.CodeExpr.{CodeExpr}
use Rattle.ceal_code.specs.declared.expr.CodeExpr.TheVariants.{Var, Num as NumExpr, Null as NullExpr}
use Rattle.ceal_code.specs.declared.expr.CodeExpr.TheViews.{Binary, Field, Address}
use Rattle.ceal_code.specs.declared.expr.VarId.{VarId}
use Rattle.ceal_code.specs.declared.function.FunctionCode.TheVariants.{Core as CoreFunction, Init as InitFunction}
use Rattle.ceal_code.specs.declared.function.InitStmt.TheVariants.{Set}
use Rattle.ceal_cost.specs.Bounds.{first_cost}
use Rattle.ceal_theory.specs.Adjust.{Adjusts}
use Rattle.ceal_theory.specs.Computed.{Repaired, adjusted, first_of}
use Rattle.ceal_theory.specs.Laws.{Edited}

-- what the program calls its struct, the two fields and its two functions, and how long the row is that its modifiable
-- is; no run depends on them
pub record MapNames : Type 0 where
  pub cell : List ℕ
  pub head : List ℕ
  pub tail : List ℕ
  pub make : List ℕ
  pub map : List ℕ
  pub row : ℕ

abbrev var : ℕ → VarId
var n = record { 0 = n }

abbrev value_of : ℕ → CodeExpr
value_of n = Var (var n)

-- Its code: function 0 makes a cell of the image, and function 1 is `map`, which begins in unit 0. Unit 1 is what
-- follows the read.
abbrev pub map_units : List Unit
map_units =
    record {
      function = 1;
      params = var 0 ∷ var 1 ∷ [];
      body = Read (var 2) (value_of 0) (record { 0 = 1 }) (value_of 1 ∷ []) ∷ [];
    }
    ∷ record {
      function = 1;
      params = var 1 ∷ var 2 ∷ [];
      body =
          If (Binary Differ (value_of 2) NullExpr) 1 4
          ∷ Alloc (var 3) 0 (value_of 2 ∷ [])
          ∷ Write (value_of 1) (value_of 3)
          ∷ Call 1 (Address (value_of 2) 0 1 ∷ Address (value_of 3) 0 1 ∷ []) (record { 0 = 2 }) []
          ∷ Write (value_of 1) NullExpr
          ∷ Tail (record { 0 = 2 }) []
          ∷ [];
    }
    ∷ record { function = 1; params = []; body = Done ∷ [] }
    ∷ []

-- the whole program
abbrev pub mapping : MapNames → Code
mapping names = record {
  structs = record {
    name = names.cell;
    fields =
        record { name = names.head; kind = PlainField Int; row = 0 }
        ∷ record { name = names.tail; kind = CellPtr 0; row = names.row }
        ∷ [];
  } ∷ [];
  functions =
      InitFunction names.make 0 (Ptr 0 ∷ [])
      (Set 0 (Binary Mul (Field (value_of 0) 0 0) (NumExpr (pos 10))) ∷ [])
      ∷ CoreFunction names.map (record { 0 = 0 }) (ModPtrKind 0 ∷ ModPtrKind 0 ∷ [])
      ∷ [];
  units = map_units;
  kinds = [] ∷ (ModPtrKind 0 ∷ ModPtrKind 0 ∷ Ptr 0 ∷ Ptr 0 ∷ []) ∷ [];
}

-- the modifiable in a cell of the inputs
abbrev pub tail_of : ℕ → Place
tail_of c = record { block = Input c; field = 1 }

-- what a modifiable holds that these cells come after
abbrev pub to_first : List ℕ → Word
to_first [] = Null
to_first (c ∷ cells) = BlockWord (Input c)

-- the input is a cell, whose tail holds this word
pub record IsCell (names : MapNames) (inputs : List Block) (c : ℕ) (next : Word) : Type 0 where
  pub words : List Word
  pub there : slice_get inputs c ≡ Some (record { shape = Struct 0; words = words })
  pub tail : bases (mapping names) inputs (tail_of c) ≡ next

-- each of these is a cell whose tail holds the next one, and that of the last holds null
pub data AreCells (names : MapNames) (inputs : List Block) : List ℕ → Type 0 where
  none : AreCells names inputs []
  more : {c : ℕ} {cells : List ℕ} → IsCell names inputs c (to_first cells) → AreCells names inputs cells
      → AreCells names inputs (c ∷ cells)

-- the list at a place is these cells in turn
pub record IsList (names : MapNames) (inputs : List Block) (p : Place) (cells : List ℕ) : Type 0 where
  pub first : bases (mapping names) inputs p ≡ to_first cells
  pub all : AreCells names inputs cells

-- The list at `from` has a new cell in front of one of its cells, the next one, and after the cells before that. The
-- place of the image is the tail of none of them.
pub record HasNewCell
    (names : MapNames) (old new : List Block) (from to : Place) (before : List ℕ) (cell next : ℕ)
    (later : List ℕ) : Type 0 where
  pub was : IsList names old from (before ++ next ∷ later)
  pub is : IsList names new from (before ++ cell ∷ next ∷ later)
  pub other : ¬ (In cell (next ∷ later))
  pub apart : (c : ℕ) → In c (before ++ cell ∷ next ∷ later) → ¬ (to ≡ tail_of c)

-- the arguments of `map`: the list, and the place of its image
abbrev pub lists : Place → Place → List Word
lists from to = At from ∷ At to ∷ []

-- The run from scratch on the old list has 5 steps for each of its cells, and 3. The bound of the update is 5 for each
-- of those from the next cell on, and 7.
pub record GrowsWithTheList
    (names : MapNames) (old new : List Block) (from to : Place) (cells onward : ℕ) : Type 0 where
  pub steps : (n : ℕ) → 5 * cells + 3 ≤ n
      → (a : Repaired) × (first_of (mapping names) old n 1 (lists from to) ≡ Some a) × (a.work ≡ 5 * cells + 3)
  pub bound : (n : ℕ) → 5 * cells + 8 ≤ n
      → first_cost (mapping names) n old new 1 (lists from to) ≡ 5 * onward + 7

-- The repair of any trace of the call on the old list that is honest, whatever updates came before, is there and has a
-- work of 10, however long the list is.
pub record StaysTen
    (names : MapNames) (old new : List Block) (from to : Place) (l : Trace) (number : ℕ) : Type 0 where
  pub there : (n : ℕ) → 10 ≤ n
      → (a : Repaired) × (adjusted (mapping names) new number n l ≡ Some a) × (a.work ≡ 10)
  pub each : (m : Trace) (work : ℕ) → Adjusts (mapping names) new number l m work → work ≡ 10

-- A new cell: run and bound grow with the list, and the work does not.
pub record NewCell
    (names : MapNames) (old new : List Block) (from to : Place) (cells onward : ℕ) : Type 0 where
  pub grows : GrowsWithTheList names old new from to cells onward
  pub stays : (l : Trace) (number : ℕ) → Edited (mapping names) old new 1 (lists from to) l number
      → IsHonest (mapping names) old l → StaysTen names old new from to l number

-- This holds of each list that is not empty, of each of its cells, and of each new cell that is not in the list from
-- there on.
abbrev pub NewCellLaw : Type 0
NewCellLaw =
    (names : MapNames) (old new : List Block) (from to : Place) (before : List ℕ) (cell next : ℕ) (later : List ℕ)
    → HasNewCell names old new from to before cell next later
    → NewCell names old new from to (length (before ++ next ∷ later)) (length (next ∷ later))
