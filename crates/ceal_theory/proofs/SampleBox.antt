-- What samples are written with: short names of terms and inputs, and the program BOX with its first trace.
use Rattle.std.proofs.Common.{ℕ, pos, Option, List, [], ◌∷◌}
use Rattle.ceal_base.specs.Block.{Block}
use Rattle.ceal_base.specs.declared.forest.UnitId.{UnitId}
use Rattle.ceal_base.specs.declared.kind.FieldKind.TheVariants.{Plain as PlainField}
use Rattle.ceal_base.specs.declared.kind.Kind.TheVariants.{Int, Ptr, ModInt as ModIntKind, ModPtr as ModPtrKind}
use Rattle.ceal_base.specs.declared.kind.Shape.TheVariants.{ModInt, ModPtr}
use Rattle.ceal_base.specs.declared.operators.Binary.TheVariants.{Same}
use Rattle.ceal_base.specs.declared.word.BlockId.TheVariants.{Input}
use Rattle.ceal_base.specs.declared.word.Place.{Place}
use Rattle.ceal_base.specs.declared.word.Word.{Word}
use Rattle.ceal_base.specs.declared.word.Word.TheVariants.{Num, Null, At}
use Rattle.ceal_code.specs.Program.{Code}
use Rattle.ceal_code.specs.declared.command.Cmd.TheVariants.{Alloc, Write, If, Done, Tail, Read, Call}
use Rattle.ceal_code.specs.declared.expr.CodeExpr.TheVariants.{Var, Num as NumExpr}
use Rattle.ceal_code.specs.declared.expr.CodeExpr.TheViews.{Binary, Field}
use Rattle.ceal_code.specs.declared.expr.CodeExpr.{CodeExpr}
use Rattle.ceal_code.specs.declared.expr.VarId.{VarId}
use Rattle.ceal_code.specs.declared.function.FunctionCode.TheVariants.{Core as CoreFunction, Init as InitFunction}
use Rattle.ceal_code.specs.declared.function.InitStmt.TheVariants.{Set}
use Rattle.ceal_theory.specs.Computed.{Repaired, first_of}

abbrev pub var : ℕ → VarId
var n = record { 0 = n }

abbrev pub v : ℕ → CodeExpr
v n = Var (record { 0 = n })

abbrev pub u : ℕ → UnitId
u n = record { 0 = n }

abbrev pub place : ℕ → Place
place n = record { block = Input n; field = 0 }

abbrev pub number : ℕ → Block
number n = record { shape = ModInt; words = Num (pos n) ∷ [] }

abbrev pub pointer : Word → Block
pointer word = record { shape = ModPtr 0; words = word ∷ [] }

-- BOX: `make` puts a box into the modifiable where the number is its own one, `look` reads the box, and `top` makes for
-- 1 and for 2 and then looks.
abbrev pub box : Code
box = record {
  structs = record { name = []; fields = record { name = []; kind = PlainField Int; row = 0 } ∷ [] } ∷ [];
  functions =
      InitFunction [] 0 (Int ∷ []) (Set 0 (v 0) ∷ [])
      ∷ CoreFunction [] (u 0) (ModIntKind ∷ Int ∷ ModPtrKind 0 ∷ [])
      ∷ CoreFunction [] (u 3) (ModPtrKind 0 ∷ ModIntKind ∷ [])
      ∷ CoreFunction [] (u 5) (ModIntKind ∷ ModPtrKind 0 ∷ ModIntKind ∷ [])
      ∷ [];
  units =
      record { function = 1; params = var 0 ∷ var 1 ∷ var 2 ∷ []; body = Read (var 3) (v 0) (u 1) (v 1 ∷ v 2 ∷ []) ∷ [] }
      ∷ record {
        function = 1;
        params = var 1 ∷ var 2 ∷ var 3 ∷ [];
        body = If (Binary Same (v 3) (v 1)) 1 4 ∷ Alloc (var 4) 0 (v 3 ∷ []) ∷ Write (v 2) (v 4) ∷ Tail (u 2) [] ∷ Tail (u 2) [] ∷ [];
      }
      ∷ record { function = 1; params = []; body = Done ∷ [] }
      ∷ record { function = 2; params = var 0 ∷ var 1 ∷ []; body = Read (var 2) (v 0) (u 4) (v 1 ∷ []) ∷ [] }
      ∷ record { function = 2; params = var 1 ∷ var 2 ∷ []; body = Write (v 1) (Field (v 2) 0 0) ∷ Done ∷ [] }
      ∷ record { function = 3; params = var 0 ∷ var 1 ∷ var 2 ∷ []; body = Call 1 (v 0 ∷ NumExpr (pos 1) ∷ v 1 ∷ []) (u 6) (v 0 ∷ v 1 ∷ v 2 ∷ []) ∷ [] }
      ∷ record { function = 3; params = var 0 ∷ var 1 ∷ var 2 ∷ []; body = Call 1 (v 0 ∷ NumExpr (pos 2) ∷ v 1 ∷ []) (u 7) (v 1 ∷ v 2 ∷ []) ∷ [] }
      ∷ record { function = 3; params = var 1 ∷ var 2 ∷ []; body = Call 2 (v 1 ∷ v 2 ∷ []) (u 8) [] ∷ [] }
      ∷ record { function = 3; params = []; body = Done ∷ [] }
      ∷ [];
  kinds = [] ∷ (ModIntKind ∷ Int ∷ ModPtrKind 0 ∷ Int ∷ Ptr 0 ∷ []) ∷ (ModPtrKind 0 ∷ ModIntKind ∷ Ptr 0 ∷ []) ∷ (ModIntKind ∷ ModPtrKind 0 ∷ ModIntKind ∷ []) ∷ [];
}

abbrev pub box_inputs : ℕ → List Block
box_inputs n = number n ∷ pointer Null ∷ number 0 ∷ []

abbrev pub box_first : Option Repaired
box_first = first_of box (box_inputs 1) 11 3 (At (place 0) ∷ At (place 1) ∷ At (place 2) ∷ [])
