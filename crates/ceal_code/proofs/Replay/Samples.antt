-- INC: unit 0 reads its first parameter, and unit 1 writes one more than the value to the second.
use Rattle.std.proofs.Common.{◌≡◌, ℕ, pos, true, false, Some, None, List, [], ◌∷◌, refl}
use Rattle.std.specs.Prelude.{codes}
use Rattle.ceal_base.specs.Block.{Block}
use Rattle.ceal_base.specs.Trace.{Trace, Nothing, Stepped, Wrote, WasRead}
use Rattle.ceal_base.specs.declared.kind.FieldKind.TheVariants.{Plain as PlainField, CellInt, CellPtr}
use Rattle.ceal_base.specs.declared.kind.Kind.TheVariants.{Int, Ptr, ModInt as ModIntKind}
use Rattle.ceal_base.specs.declared.kind.Shape.TheVariants.{ModInt}
use Rattle.ceal_base.specs.declared.operators.Binary.TheVariants.{Pick}
use Rattle.ceal_base.specs.declared.typed.StructInfo.{StructInfo}
use Rattle.ceal_base.specs.declared.word.Word.{Word}
use Rattle.ceal_base.specs.declared.word.Word.TheVariants.{Num, At}
use Rattle.ceal_code.proofs.Replay.Increment.{var, inc, place, args}
use Rattle.ceal_code.specs.Fresh.{fresh, run}
use Rattle.ceal_code.specs.Program.{Code}
use Rattle.ceal_code.specs.Replay.{Yields, Honest, plain_of, bases, stored}
use Rattle.ceal_code.specs.Step.{started, stack_after_quiet, next, chosen, bound, woven}
use Rattle.ceal_code.specs.Valid.{valid, structs_ok, functions_ok, units_ok, unit_ok, is_prefix, kinds_ok, below, all_forward, is_tree, reached, all_followers, all_true, paths_ok, with_params}
use Rattle.ceal_code.specs.Valid.{type_of, params_fit, others, row_goes_on, rows_ok}
use Rattle.ceal_code.specs.Value.{expr_value, values, set, unset}
use Rattle.ceal_code.specs.declared.command.Cmd.TheVariants.{If, Done, Call}
use Rattle.ceal_code.specs.declared.expr.CodeExpr.TheBlock.{hidden-the_row-CodeExpr-0, shape-the_row-CodeExpr-0}
use Rattle.ceal_code.specs.declared.expr.CodeExpr.TheVariants.{Null, Var, Num as NumExpr}
use Rattle.ceal_code.specs.declared.expr.CodeExpr.TheViews.{Binary, Address}
use Rattle.ceal_code.specs.declared.expr.CodeExpr.{CodeExpr}
use Rattle.ceal_code.specs.declared.typing.ExprType.TheVariants.{Of, AnyPlace}
use Rattle.ceal_code.specs.declared.function.FunctionCode.TheVariants.{Core as CoreFunction}

abbrev cell : Word → Block
cell word = record { shape = ModInt; words = word ∷ [] }

abbrev inputs : ℕ → List Block
inputs n = cell (Num (pos n)) ∷ cell (Num (pos 0)) ∷ []

inc-fresh : fresh inc 0 args (inputs 4) 2
    ≡ Some (record { memory = record { inputs = cell (Num (pos 4)) ∷ cell (Num (pos 5)) ∷ []; made = [] }; steps = 2; blocks = 0 })
unfolding fresh run next stack_after_quiet chosen bound woven set unset expr_value values hidden-the_row-CodeExpr-0 shape-the_row-CodeExpr-0 denote.Hole.Carrier.hidden
inc-fresh = refl

inc-short : fresh inc 0 args (inputs 4) 1 ≡ None
unfolding fresh run next stack_after_quiet chosen bound woven set unset expr_value values hidden-the_row-CodeExpr-0 shape-the_row-CodeExpr-0 denote.Hole.Carrier.hidden
inc-short = refl

-- what a run on 4 leaves
abbrev items : Trace
items = Stepped (WasRead (place 0) (Num (pos 4)) (record { 0 = 1 }) 2 (At (place 1) ∷ []) (Stepped (Wrote (place 1) (Num (pos 5)) Nothing)) Nothing)

inc-yields : Yields inc (plain_of inc (inputs 4) items) (started inc 0 args) items
unfolding next stack_after_quiet chosen bound woven set unset expr_value values hidden-the_row-CodeExpr-0 shape-the_row-CodeExpr-0 denote.Hole.Carrier.hidden
inc-yields = Yields.reads refl (Yields.writes refl (Yields.over refl)) (Yields.over refl)

inc-honest : Honest inc (bases inc (inputs 4)) items (stored (bases inc (inputs 4)) (place 1) (Num (pos 5)))
unfolding bases
inc-honest = Honest.step (Honest.read refl (Honest.step (Honest.write Honest.end)) Honest.end)

inc-valid : valid inc ≡ true
unfolding valid structs_ok functions_ok units_ok unit_ok is_prefix kinds_ok below all_forward is_tree reached all_followers all_true paths_ok with_params type_of params_fit others hidden-the_row-CodeExpr-0 shape-the_row-CodeExpr-0 denote.Hole.Carrier.hidden
inc-valid = refl

-- a part that hangs on an `If` which goes backwards, and is on no path, makes code invalid
abbrev detached : Code
detached = record {
  structs = [];
  functions = CoreFunction (102 ∷ []) (record { 0 = 0 }) [] ∷ [];
  units =
      record { function = 0; params = []; body = Done ∷ Call 9 [] (record { 0 = 9 }) [] ∷ If Null 1 2 ∷ [] } ∷ [];
  kinds = [] ∷ [];
}

detached-not-valid : valid detached ≡ false
unfolding valid structs_ok functions_ok units_ok unit_ok is_prefix kinds_ok below all_forward is_tree reached all_followers all_true paths_ok with_params type_of params_fit others hidden-the_row-CodeExpr-0 shape-the_row-CodeExpr-0 denote.Hole.Carrier.hidden
detached-not-valid = refl

-- struct row { int n; mod int s[2]; };
abbrev rows : List StructInfo
rows = record {
  name = codes "row";
  fields = record { name = codes "n"; kind = PlainField Int; row = 0 } ∷ record { name = codes "s[0]"; kind = CellInt; row = 2 } ∷ record { name = codes "s[1]"; kind = CellInt; row = 0 } ∷ [];
} ∷ []

-- `&v0->s[1]`, where `v0` is a pointer to such a struct
abbrev an_element : CodeExpr
an_element = Binary (Pick 2) (Address (Var (var 0)) 0 1) (NumExpr (pos 1))

element-type : type_of rows (Ptr 0 ∷ []) (true ∷ []) an_element ≡ Some (Of ModIntKind)
unfolding type_of hidden-the_row-CodeExpr-0 shape-the_row-CodeExpr-0 denote.Hole.Carrier.hidden
element-type = refl

-- no row of three begins there, and none at the second element
not-three : type_of rows (Ptr 0 ∷ []) (true ∷ []) (Binary (Pick 3) (Address (Var (var 0)) 0 1) (NumExpr (pos 1))) ≡ None
unfolding type_of hidden-the_row-CodeExpr-0 shape-the_row-CodeExpr-0 denote.Hole.Carrier.hidden
not-three = refl

not-second : type_of rows (Ptr 0 ∷ []) (true ∷ []) (Binary (Pick 2) (Address (Var (var 0)) 0 2) (NumExpr (pos 1))) ≡ None
unfolding type_of hidden-the_row-CodeExpr-0 shape-the_row-CodeExpr-0 denote.Hole.Carrier.hidden
not-second = refl

-- an element of null may stand for a place, and for no pointer to a struct
null-element : type_of rows [] [] (Binary (Pick 2) Null (NumExpr (pos 1))) ≡ Some AnyPlace
unfolding type_of hidden-the_row-CodeExpr-0 shape-the_row-CodeExpr-0 denote.Hole.Carrier.hidden
null-element = refl

rows-whole : rows_ok (record { name = codes "s[0]"; kind = CellInt; row = 2 } ∷ record { name = codes "s[1]"; kind = CellInt; row = 0 } ∷ []) ≡ true
unfolding rows_ok row_goes_on
rows-whole = refl

row-cut : rows_ok (record { name = codes "s[0]"; kind = CellInt; row = 2 } ∷ record { name = codes "s[1]"; kind = CellPtr 0; row = 0 } ∷ []) ≡ false
unfolding rows_ok row_goes_on
row-cut = refl
