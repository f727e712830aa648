-- The folding of small bodies.
use Rattle.std.proofs.Common.{◌≡◌, ℕ, pos, List, [], ◌∷◌, refl}
use Rattle.ceal_base.specs.declared.operators.Binary.TheVariants.{Add}
use Rattle.ceal_code.specs.declared.command.Cmd.{Cmd}
use Rattle.ceal_code.specs.declared.command.Cmd.TheVariants.{Move, Tick, Write, Done}
use Rattle.ceal_code.specs.declared.expr.CodeExpr.TheBlock.{hidden-the_row-CodeExpr-0, shape-the_row-CodeExpr-0}
use Rattle.ceal_code.specs.declared.expr.CodeExpr.TheVariants.{Var, Num as NumExpr}
use Rattle.ceal_code.specs.declared.expr.CodeExpr.TheViews.{Binary}
use Rattle.ceal_code.specs.declared.expr.VarId.{VarId}
use Rattle.ceal_fold.specs.Folding.{folded_expr, folded_exprs, folded_unit, no_copies, copies_with, is_among, copies_past, folded_commands, mentions, all_mention, used_in, used, without_unused}

abbrev var : ℕ → VarId
var n = record { 0 = n }

abbrev folded_body : List Cmd → List Cmd
folded_body body = (folded_unit [] (record { function = 0; params = var 0 ∷ []; body = body })).body

-- `v1 := 2; v2 := v1 + 3; *v0 := v2`: the sum is a number, which is in the write, and neither move is used then
constants : folded_body (Move (var 1) (NumExpr (pos 2)) ∷ Move (var 2) (Binary Add (Var (var 1)) (NumExpr (pos 3))) ∷ Write (Var (var 0)) (Var (var 2)) ∷ Done ∷ [])
    ≡ Tick ∷ Tick ∷ Write (Var (var 0)) (NumExpr (pos 5)) ∷ Done ∷ []
unfolding folded_expr folded_exprs no_copies copies_with is_among copies_past folded_commands mentions all_mention
    used_in used without_unused hidden-the_row-CodeExpr-0 shape-the_row-CodeExpr-0 denote.Hole.Carrier.hidden
constants = refl

-- `v1 := v2; v2 := 1; *v0 := v1`: what v1 is a copy of is assigned before it is used
assigned_since : folded_body (Move (var 1) (Var (var 2)) ∷ Move (var 2) (NumExpr (pos 1)) ∷ Write (Var (var 0)) (Var (var 1)) ∷ Done ∷ [])
    ≡ Move (var 1) (Var (var 2)) ∷ Tick ∷ Write (Var (var 0)) (Var (var 1)) ∷ Done ∷ []
unfolding folded_expr folded_exprs no_copies copies_with is_among copies_past folded_commands mentions all_mention
    used_in used without_unused hidden-the_row-CodeExpr-0 shape-the_row-CodeExpr-0 denote.Hole.Carrier.hidden
assigned_since = refl
