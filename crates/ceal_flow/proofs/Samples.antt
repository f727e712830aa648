-- The definitions on small programs.
use Rattle.std.proofs.Common.{◌≡◌, ℕ, pos, Some, None, List, [], ◌∷◌, refl, lit<}
use Rattle.std.proofs.lemmas.List.Elements.{Contains-push}
use Rattle.ceal_base.specs.declared.fault.Span.{Span}
use Rattle.ceal_base.specs.declared.kind.Kind.{Kind}
use Rattle.ceal_base.specs.declared.kind.Kind.TheVariants.{Int, ModInt}
use Rattle.ceal_base.specs.declared.typed.Typed.{Typed}
use Rattle.ceal_base.specs.declared.typed.TypedExpr.{TypedExpr}
use Rattle.ceal_base.specs.declared.typed.TypedForm.{TypedForm, Num, Var}
use Rattle.ceal_base.specs.declared.typed.TypedStmt.{TypedStmt}
use Rattle.ceal_base.specs.declared.typed.TypedStmt.TheBlock.{hidden-the_row-TypedStmt-0, shape-the_row-TypedStmt-0}
use Rattle.ceal_base.specs.declared.typed.TypedStmt.TheVariants.{Assign, Declare, Write, Return, Break, Continue}
use Rattle.ceal_base.specs.declared.typed.TypedStmt.TheViews.{If, While}
use Rattle.ceal_base.specs.declared.typed.TypedValue.TheVariants.{Plain}
use Rattle.ceal_flow.specs.Blocks.{size, sizes, may_continue, all_may_continue, blocks_of, all_blocks}
use Rattle.ceal_flow.specs.Live.{form_mentions, Live}
use Rattle.ceal_flow.specs.Lowering.{blocks_from, graph_of}
use Rattle.ceal_flow.specs.Paths.{stays, jumps_to}
use Rattle.ceal_flow.specs.declared.block.GraphBlock.TheVariants.{Done, Test, Act, Unreached}

abbrev at : Span
at = record { from = 0; to = 0 }

abbrev typed : Kind → TypedForm → TypedExpr
typed kind form = record { span = at; kind = Some kind; form = form }

abbrev place : TypedExpr
place = typed ModInt (Var 0)

abbrev number : ℕ → TypedExpr
number v = typed Int (Var v)

abbrev one : TypedExpr
one = typed Int (Num (pos 1))

-- ceal f(mod int *o, int n)
abbrev program : List TypedStmt → Typed
program body = record {
  structs = [];
  functions = record {
    initialiser = None;
    name = record { text = []; span = at };
    params = 2;
    kinds = ModInt ∷ Int ∷ Int ∷ [];
    body = body;
    close = at;
  } ∷ [];
}

-- int x = 1; while (n) { write(o, x); n = 1; }
abbrev looping : Typed
looping = program (Declare at 2 Int (Plain one) ∷ While at (number 1) (Write at place (number 2) ∷ Assign at 1 (Plain one) ∷ []) ∷ [])

looping_blocks : (graph_of looping).blocks
    ≡ Act (Declare at 2 Int (Plain one)) 1 ∷ Test (number 1) 2 4 ∷ Act (Write at place (number 2)) 3 ∷ Act (Assign at 1 (Plain one)) 1 ∷ Done ∷ []
unfolding blocks_from all_blocks blocks_of sizes size may_continue all_may_continue hidden-the_row-TypedStmt-0 shape-the_row-TypedStmt-0 denote.Hole.Carrier.hidden
looping_blocks = refl

-- if (n) { return; } else { return; } write(o, n);
abbrev leaving : Typed
leaving = program (If at (number 1) (Return at ∷ []) (Return at ∷ []) ∷ Write at place (number 1) ∷ [])

leaving_blocks : (graph_of leaving).blocks ≡ Test (number 1) 2 2 ∷ Unreached ∷ Done ∷ []
unfolding blocks_from all_blocks blocks_of sizes size may_continue all_may_continue hidden-the_row-TypedStmt-0 shape-the_row-TypedStmt-0 denote.Hole.Carrier.hidden
leaving_blocks = refl

-- while (n) { if (n) { break; } continue; write(o, n); } write(o, n);
abbrev jumping : Typed
jumping = program
    (While at (number 1) (If at (number 1) (Break at ∷ []) [] ∷ Continue at ∷ Write at place (number 1) ∷ [])
    ∷ Write at place (number 1) ∷ [])

jumping_blocks : (graph_of jumping).blocks
    ≡ Test (number 1) 1 3 ∷ Test (number 1) 3 0 ∷ Unreached ∷ Act (Write at place (number 1)) 4 ∷ Done ∷ []
unfolding blocks_from all_blocks blocks_of sizes size may_continue all_may_continue hidden-the_row-TypedStmt-0 shape-the_row-TypedStmt-0 denote.Hole.Carrier.hidden
jumping_blocks = refl

-- x is live after its use, by the path back to the test and into the body
looping_live : Live (graph_of looping).blocks 2 3
unfolding blocks_from all_blocks blocks_of sizes size may_continue all_may_continue form_mentions hidden-the_row-TypedStmt-0 shape-the_row-TypedStmt-0 denote.Hole.Carrier.hidden
looping_live = (2, jumps_to {c = 1} refl (Contains-push [] 1) (jumps_to {c = 2} refl (0, lit< tt, refl) stays), refl)
