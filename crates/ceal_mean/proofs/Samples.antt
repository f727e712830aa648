-- The definitions on small programs.
use Rattle.std.proofs.Common.{◌≡◌, ℕ, pos, Some, None, List, [], ◌∷◌, refl}
use Rattle.ceal_base.specs.Block.{Block, Blocks}
use Rattle.ceal_base.specs.declared.fault.Span.{Span}
use Rattle.ceal_base.specs.declared.kind.FieldKind.TheVariants.{Plain as PlainField, CellPtr}
use Rattle.ceal_base.specs.declared.kind.Kind.{Kind}
use Rattle.ceal_base.specs.declared.kind.Kind.TheVariants.{Int, Ptr, ModInt, ModPtr}
use Rattle.ceal_base.specs.declared.kind.Shape.TheVariants.{Struct, ModInt as OneInt}
use Rattle.ceal_base.specs.declared.operators.Binary.TheVariants.{Add, Sub, Mul, Rem, More, Same, Differ}
use Rattle.ceal_base.specs.declared.typed.StructInfo.{StructInfo}
use Rattle.ceal_base.specs.declared.typed.Typed.{Typed}
use Rattle.ceal_base.specs.declared.typed.TypedExpr.{TypedExpr}
use Rattle.ceal_base.specs.declared.typed.TypedForm.{TypedForm, Num as NumForm, Var, Own}
use Rattle.ceal_base.specs.declared.typed.TypedForm.TheBlock.{hidden-the_row-TypedExpr-0, shape-the_row-TypedExpr-0}
use Rattle.ceal_base.specs.declared.typed.TypedForm.TheViews.{Binary, Field}
use Rattle.ceal_base.specs.declared.typed.TypedFunction.{TypedFunction}
use Rattle.ceal_base.specs.declared.typed.TypedStmt.{TypedStmt, out-TypedStmt}
use Rattle.ceal_base.specs.declared.typed.TypedStmt.TheBlock.{shown-the_row-TypedStmt-0}
use Rattle.ceal_base.specs.declared.typed.TypedStmt.TheVariants.{Declare, Assign, SetField, Write, Break, Continue}
use Rattle.ceal_base.specs.declared.typed.TypedStmt.TheViews.{If, While}
use Rattle.ceal_base.specs.declared.typed.TypedValue.TheVariants.{Plain, Read, Alloc}
use Rattle.ceal_base.specs.declared.word.BlockId.TheVariants.{Input, Core}
use Rattle.ceal_base.specs.declared.word.Word.{Word}
use Rattle.ceal_base.specs.declared.word.Word.TheVariants.{Num, Null, Block as BlockWord, At}
use Rattle.ceal_mean.specs.Fresh.{fresh, run_settled}
use Rattle.ceal_mean.specs.Init.{set_by, set_by_all}
use Rattle.ceal_mean.specs.Jumps.{ready}
use Rattle.ceal_mean.specs.Value.{form_value, values_of}

abbrev at : Span
at = record { from = 0; to = 0 }

abbrev typed : Kind → TypedForm → TypedExpr
typed kind form = record { span = at; kind = Some kind; form = form }

abbrev number : ℕ → TypedExpr
number n = typed Int (NumForm (pos n))

abbrev modifiable : ℕ → Block
modifiable n = record { shape = OneInt; words = Num (pos n) ∷ [] }

abbrev place : ℕ → Word
place n = At (record { block = Input n; field = 0 })

abbrev two : ℕ → ℕ → Blocks
two a b = record { inputs = modifiable a ∷ modifiable b ∷ []; made = [] }

abbrev function : List Kind → List TypedStmt → TypedFunction
function kinds body = record { initialiser = None; name = record { text = []; span = at }; params = 2; kinds = kinds; body = body; close = at }

abbrev program : TypedFunction → Typed
program f = record { structs = []; functions = f ∷ [] }

-- int x = read(a); write(b, x + 1);
abbrev inc : Typed
inc = program (function (ModInt ∷ ModInt ∷ Int ∷ [])
    (Declare at 2 Int (Read at (typed ModInt (Var 0)))
    ∷ Write at (typed ModInt (Var 1)) (typed Int (Binary Add at (typed Int (Var 2)) (number 1)))
    ∷ []))

inc_of_four : fresh inc 0 (place 0 ∷ place 1 ∷ []) (two 4 0).inputs 2 ≡ Some (record { memory = two 4 5; steps = 2; blocks = 0 })
unfolding run_settled ready out-TypedStmt form_value hidden-the_row-TypedExpr-0 shape-the_row-TypedExpr-0
    denote.Hole.Carrier.hidden denote.Hole.Carrier.out shown-the_row-TypedStmt-0 denote.Hole.Carrier.shown
inc_of_four = refl

inc_out_of_fuel : fresh inc 0 (place 0 ∷ place 1 ∷ []) (two 4 0).inputs 1 ≡ None
unfolding run_settled ready out-TypedStmt form_value hidden-the_row-TypedExpr-0 shape-the_row-TypedExpr-0
    denote.Hole.Carrier.hidden denote.Hole.Carrier.out shown-the_row-TypedStmt-0 denote.Hole.Carrier.shown
inc_out_of_fuel = refl

-- int n = read(a); while (n != 0) { n = n - 1; } write(b, 7);
abbrev loop : Typed
loop = program (function (ModInt ∷ ModInt ∷ Int ∷ [])
    (Declare at 2 Int (Read at (typed ModInt (Var 0)))
    ∷ While at (typed Int (Binary Differ at (typed Int (Var 2)) (number 0)))
    (Assign at 2 (Plain (typed Int (Binary Sub at (typed Int (Var 2)) (number 1)))) ∷ [])
    ∷ Write at (typed ModInt (Var 1)) (number 7)
    ∷ []))

loop_of_three : fresh loop 0 (place 0 ∷ place 1 ∷ []) (two 3 0).inputs 100 ≡ Some (record { memory = two 3 7; steps = 9; blocks = 0 })
unfolding run_settled ready out-TypedStmt form_value hidden-the_row-TypedExpr-0 shape-the_row-TypedExpr-0
    denote.Hole.Carrier.hidden denote.Hole.Carrier.out shown-the_row-TypedStmt-0 denote.Hole.Carrier.shown
loop_of_three = refl

abbrev var : ℕ → TypedExpr
var n = typed Int (Var n)

-- int n = read(a); int i = 0; int s = 0;
-- while (1) { i = i + 1; if (i > n) { break; } if (i % 2 == 0) { continue; } s = s + i; }
-- write(b, s);
abbrev scan : Typed
scan = program (function (ModInt ∷ ModInt ∷ Int ∷ Int ∷ Int ∷ [])
    (Declare at 2 Int (Read at (typed ModInt (Var 0)))
    ∷ Declare at 3 Int (Plain (number 0))
    ∷ Declare at 4 Int (Plain (number 0))
    ∷ While at (number 1)
    (Assign at 3 (Plain (typed Int (Binary Add at (var 3) (number 1))))
    ∷ If at (typed Int (Binary More at (var 3) (var 2))) (Break at ∷ []) []
    ∷ If at (typed Int (Binary Same at (typed Int (Binary Rem at (var 3) (number 2))) (number 0))) (Continue at ∷ []) []
    ∷ Assign at 4 (Plain (typed Int (Binary Add at (var 4) (var 3))))
    ∷ [])
    ∷ Write at (typed ModInt (Var 1)) (var 4)
    ∷ []))

scan_of_two : fresh scan 0 (place 0 ∷ place 1 ∷ []) (two 2 0).inputs 16 ≡ Some (record { memory = two 2 1; steps = 16; blocks = 0 })
unfolding run_settled ready out-TypedStmt form_value hidden-the_row-TypedExpr-0 shape-the_row-TypedExpr-0
    denote.Hole.Carrier.hidden denote.Hole.Carrier.out shown-the_row-TypedStmt-0 denote.Hole.Carrier.shown
scan_of_two = refl

-- while (1) { while (1) { break; write(b, 1); } break; } write(b, 7); continue; write(b, 2);
abbrev leave : Typed
leave = program (function (ModInt ∷ ModInt ∷ [])
    (While at (number 1) (While at (number 1) (Break at ∷ Write at (typed ModInt (Var 1)) (number 1) ∷ []) ∷ Break at ∷ [])
    ∷ Write at (typed ModInt (Var 1)) (number 7)
    ∷ Continue at
    ∷ Write at (typed ModInt (Var 1)) (number 2)
    ∷ []))

leave_both : fresh leave 0 (place 0 ∷ place 1 ∷ []) (two 0 0).inputs 100 ≡ Some (record { memory = two 0 7; steps = 3; blocks = 0 })
unfolding run_settled ready out-TypedStmt form_value hidden-the_row-TypedExpr-0 shape-the_row-TypedExpr-0
    denote.Hole.Carrier.hidden denote.Hole.Carrier.out shown-the_row-TypedStmt-0 denote.Hole.Carrier.shown
leave_both = refl

abbrev cell : StructInfo
cell = record { name = []; fields = record { name = []; kind = PlainField Int; row = 0 } ∷ record { name = []; kind = CellPtr 0; row = 0 } ∷ [] }

-- init mk(struct cell *self, struct cell *from) { self->head = from->head * 10; }
abbrev mk : TypedFunction
mk = record {
  initialiser = Some 0;
  name = record { text = []; span = at };
  params = 1;
  kinds = Ptr 0 ∷ [];
  body = SetField at (typed (Ptr 0) Own) 0 0 (typed Int (Binary Mul at (typed Int (Field (typed (Ptr 0) (Var 0)) 0 0)) (number 10))) ∷ [];
  close = at;
}

-- struct cell *d = alloc cell mk(c); write(to, d);
abbrev copy : Typed
copy = record {
  structs = cell ∷ [];
  functions = mk ∷ function (Ptr 0 ∷ ModPtr 0 ∷ Ptr 0 ∷ [])
      (Declare at 2 (Ptr 0) (Alloc at 0 0 at (typed (Ptr 0) (Var 0) ∷ []))
      ∷ Write at (typed (ModPtr 0) (Var 1)) (typed (Ptr 0) (Var 2))
      ∷ []) ∷ [];
}

abbrev of_cell : Word → Word → Block
of_cell head tail = record { shape = Struct 0; words = head ∷ tail ∷ [] }

copy_of_three : fresh copy 1 (BlockWord (Input 0) ∷ At (record { block = Input 0; field = 1 }) ∷ []) (of_cell (Num (pos 3)) Null ∷ []) 2
    ≡ Some (record {
      memory = record {
        inputs = of_cell (Num (pos 3)) (BlockWord (Core 0)) ∷ [];
        made = of_cell (Num (pos 30)) Null ∷ [];
      };
      steps = 2;
      blocks = 1;
    })
unfolding run_settled ready out-TypedStmt form_value hidden-the_row-TypedExpr-0 shape-the_row-TypedExpr-0
    denote.Hole.Carrier.hidden denote.Hole.Carrier.out shown-the_row-TypedStmt-0 denote.Hole.Carrier.shown set_by_all
    set_by values_of
copy_of_three = refl
