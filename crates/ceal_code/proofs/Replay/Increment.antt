-- INC: unit 0 reads its first parameter, and unit 1 writes one more than the value to the second.
use Rattle.std.proofs.Common.{ℕ, pos, List, [], ◌∷◌}
use Rattle.ceal_base.specs.Block.{Block}
use Rattle.ceal_base.specs.Trace.{Trace, Nothing, Stepped, Wrote, WasRead}
use Rattle.ceal_base.specs.declared.kind.Kind.TheVariants.{Int, ModInt as ModIntKind}
use Rattle.ceal_base.specs.declared.kind.Shape.TheVariants.{ModInt}
use Rattle.ceal_base.specs.declared.operators.Binary.TheVariants.{Add}
use Rattle.ceal_base.specs.declared.word.BlockId.TheVariants.{Input}
use Rattle.ceal_base.specs.declared.word.Place.{Place}
use Rattle.ceal_base.specs.declared.word.Word.{Word}
use Rattle.ceal_base.specs.declared.word.Word.TheVariants.{Num, At}
use Rattle.ceal_code.specs.Program.{Code}
use Rattle.ceal_code.specs.declared.command.Cmd.TheVariants.{Write, Done, Read}
use Rattle.ceal_code.specs.declared.expr.CodeExpr.TheVariants.{Var, Num as NumExpr}
use Rattle.ceal_code.specs.declared.expr.CodeExpr.TheViews.{Binary}
use Rattle.ceal_code.specs.declared.expr.VarId.{VarId}
use Rattle.ceal_code.specs.declared.function.FunctionCode.TheVariants.{Core as CoreFunction}

-- a variable by its number
abbrev pub var : ℕ → VarId
var n = record { 0 = n }

-- b is a + 1
abbrev pub inc : Code
inc = record {
  structs = [];
  functions = CoreFunction (105 ∷ 110 ∷ 99 ∷ []) (record { 0 = 0 }) (ModIntKind ∷ ModIntKind ∷ []) ∷ [];
  units =
      record { function = 0; params = var 0 ∷ var 1 ∷ []; body = Read (var 2) (Var (var 0)) (record { 0 = 1 }) (Var (var 1) ∷ []) ∷ [] }
      ∷ record { function = 0; params = var 1 ∷ var 2 ∷ []; body = Write (Var (var 1)) (Binary Add (Var (var 2)) (NumExpr (pos 1))) ∷ Done ∷ [] }
      ∷ [];
  kinds = (ModIntKind ∷ ModIntKind ∷ Int ∷ []) ∷ [];
}

-- the modifiable of an input
abbrev pub place : ℕ → Place
place n = record { block = Input n; field = 0 }

-- the inputs a and b
abbrev pub inputs : ℕ → ℕ → List Block
inputs a b = record { shape = ModInt; words = Num (pos a) ∷ [] } ∷ record { shape = ModInt; words = Num (pos b) ∷ [] } ∷ []

-- the call on a and b
abbrev pub args : List Word
args = At (place 0) ∷ At (place 1) ∷ []

-- a read of a, and a write of b
abbrev pub items : ℕ → ℕ → Trace
items a b = Stepped (WasRead (place 0) (Num (pos a)) (record { 0 = 1 }) 2 (At (place 1) ∷ []) (Stepped (Wrote (place 1) (Num (pos b)) Nothing)) Nothing)
