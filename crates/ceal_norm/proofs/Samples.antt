-- The code of a small graph.
use Rattle.std.proofs.Common.{◌≡◌, ℕ, pos, Some, [], ◌∷◌, refl}
use Rattle.std.specs.Prelude.{codes}
use Rattle.ceal_base.specs.declared.fault.Span.{Span}
use Rattle.ceal_base.specs.declared.kind.Kind.TheVariants.{Int, ModInt}
use Rattle.ceal_base.specs.declared.operators.Binary.TheVariants.{Add}
use Rattle.ceal_base.specs.declared.typed.TypedExpr.{TypedExpr}
use Rattle.ceal_base.specs.declared.typed.TypedForm.{TypedForm, Num, Var}
use Rattle.ceal_base.specs.declared.typed.TypedForm.TheBlock.{hidden-the_row-TypedExpr-0, shape-the_row-TypedExpr-0}
use Rattle.ceal_base.specs.declared.typed.TypedForm.TheViews.{Binary}
use Rattle.ceal_base.specs.declared.typed.TypedStmt.TheVariants.{Declare, Write}
use Rattle.ceal_base.specs.declared.typed.TypedValue.TheVariants.{Read}
use Rattle.ceal_code.specs.declared.command.Cmd.TheVariants.{Read as ReadCmd, Write as WriteCmd, Done as DoneCmd}
use Rattle.ceal_code.specs.declared.expr.CodeExpr.TheVariants.{Var as VarCode, Num as NumCode}
use Rattle.ceal_code.specs.declared.expr.CodeExpr.TheViews.{Binary as BinaryCode}
use Rattle.ceal_code.specs.declared.expr.VarId.{VarId}
use Rattle.ceal_flow.specs.declared.block.GraphBlock.TheVariants.{Done, Act}
use Rattle.ceal_flow.specs.declared.function.GraphFunction.TheVariants.{Core}
use Rattle.ceal_norm.specs.Entries.{all_continuations, all_jumps, count, entries_before}
use Rattle.ceal_norm.specs.Expressions.{form_code}
use Rattle.ceal_norm.specs.Units.{Source, without, tree, ends_before, core_numbers, units_before, code_of}

abbrev at : Span
at = record { from = 0; to = 0 }

abbrev number : TypedForm → TypedExpr
number form = record { span = at; kind = Some Int; form = form }

abbrev place : ℕ → TypedExpr
place v = record { span = at; kind = Some ModInt; form = Var v }

abbrev var : ℕ → VarId
var v = record { 0 = v }

-- ceal inc(mod int *a, mod int *b) { int x = read(a); write(b, x + 1); }
abbrev inc : Source
inc = record {
  graph = record {
    structs = [];
    functions = Core (codes "inc") 0 2 (ModInt ∷ ModInt ∷ Int ∷ []) ∷ [];
    blocks =
        Act (Declare at 2 Int (Read at (place 0))) 1
        ∷ Act (Write at (place 1) (number (Binary Add at (number (Var 2)) (number (Num (pos 1)))))) 2 ∷ Done ∷ [];
  };
  live = (0 ∷ 1 ∷ []) ∷ (1 ∷ 2 ∷ []) ∷ [] ∷ [];
}

-- a unit begins with the function, and one after the read, of what is live there
inc_units : (code_of inc).units
    ≡ record { function = 0; params = var 0 ∷ var 1 ∷ []; body = ReadCmd (var 2) (VarCode (var 0)) (record { 0 = 1 }) (VarCode (var 1) ∷ []) ∷ [] }
    ∷ record { function = 0; params = var 1 ∷ var 2 ∷ []; body = WriteCmd (VarCode (var 1)) (BinaryCode Add (VarCode (var 2)) (NumCode (pos 1))) ∷ DoneCmd ∷ [] }
    ∷ []
unfolding all_continuations all_jumps count entries_before form_code without tree ends_before core_numbers units_before hidden-the_row-TypedExpr-0 shape-the_row-TypedExpr-0 denote.Hole.Carrier.hidden
inc_units = refl
