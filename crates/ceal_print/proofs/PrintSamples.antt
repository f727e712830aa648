-- Samples: the text of an expression and of an `if`, and a tree without its spans.
use Rattle.std.proofs.Common.{◌≡◌, pos, List, [], ◌∷◌, ◌++◌, refl, codes}
use Rattle.std.specs.Fmt.{signed_decimal}
use Rattle.ceal_base.specs.declared.fault.Span.{Span}
use Rattle.ceal_base.specs.declared.operators.Binary.TheVariants.{Sub}
use Rattle.ceal_base.specs.declared.syntax.Expr.{Expr}
use Rattle.ceal_base.specs.declared.syntax.ExprForm.{Var}
use Rattle.ceal_base.specs.declared.syntax.ExprForm.TheBlock.{hidden-the_row-Expr-0, shape-the_row-Expr-0}
use Rattle.ceal_base.specs.declared.syntax.ExprForm.TheViews.{Binary, Pick}
use Rattle.ceal_base.specs.declared.syntax.FieldDecl.{FieldDecl}
use Rattle.ceal_base.specs.declared.syntax.Stmt.{Stmt, Return}
use Rattle.ceal_base.specs.declared.syntax.Stmt.TheBlock.{hidden-the_row-Stmt-0, shape-the_row-Stmt-0}
use Rattle.ceal_base.specs.declared.syntax.Stmt.TheViews.{If}
use Rattle.ceal_base.specs.declared.syntax.TypeForm.TheVariants.{CellInt, CellRow}
use Rattle.ceal_print.specs.Print.{nowhere, bare_form, bare_expr}
use Rattle.ceal_print.specs.PrintWords.{texts, form_kinds, expr_kinds, stmt_kinds, field_kinds, member_kinds}

abbrev s : Span
s = record { from = 0; to = 1 }

abbrev t : Span
t = record { from = 5; to = 6 }

abbrev x : Span → Expr
x at = record { span = at; form = Var (record { text = codes "x"; span = at }) }

-- x - (x - x)
abbrev difference : Expr
difference = record { span = s; form = Binary Sub t (x s) (record { span = t; form = Binary Sub s (x t) (x s) }) }

-- x - x - x
abbrev difference_of_left : Expr
difference_of_left = record { span = s; form = Binary Sub t (record { span = s; form = Binary Sub s (x t) (x s) }) (x s) }

right_operand : texts (expr_kinds difference) ≡ codes "x - ( x - x ) "
unfolding texts form_kinds hidden-the_row-Expr-0 shape-the_row-Expr-0 denote.Hole.Carrier.hidden
right_operand = refl

left_operand : texts (expr_kinds difference_of_left) ≡ codes "x - x - x "
unfolding texts form_kinds hidden-the_row-Expr-0 shape-the_row-Expr-0 denote.Hole.Carrier.hidden
left_operand = refl

-- &x[x - x]
abbrev element : Expr
element = record { span = s; form = Pick (x s) (record { span = t; form = Binary Sub t (x s) (x s) }) }

index : texts (expr_kinds element) ≡ codes "& x [ x - x ] "
unfolding texts form_kinds hidden-the_row-Expr-0 shape-the_row-Expr-0 denote.Hole.Carrier.hidden
index = refl

-- mod int x[4]; and mod int x;
abbrev members : List FieldDecl
members = record { form = CellRow 4; name = record { text = codes "x"; span = s } } ∷ record { form = CellInt; name = record { text = codes "x"; span = s } } ∷ []

lengths : texts (member_kinds members) ≡ codes "mod int x [ " ++ (signed_decimal (pos 4) ++ codes " ] ;\nmod int x ;\n")
unfolding texts member_kinds field_kinds
lengths = refl

-- an else part of a single `if`, and one that is empty
abbrev inner : Stmt
inner = If t (x s) (Return s ∷ []) []

else_if : texts (stmt_kinds (If s (x t) [] (inner ∷ []))) ≡ codes "if ( x ) {\n}\nelse if ( x ) {\nreturn ;\n}\n"
unfolding texts form_kinds stmt_kinds hidden-the_row-Expr-0 shape-the_row-Expr-0 hidden-the_row-Stmt-0 shape-the_row-Stmt-0 denote.Hole.Carrier.hidden
else_if = refl

-- with a second statement
else_two : texts (stmt_kinds (If s (x t) [] (inner ∷ Return t ∷ []))) ≡ codes "if ( x ) {\n}\nelse {\nif ( x ) {\nreturn ;\n}\nreturn ;\n}\n"
unfolding texts form_kinds stmt_kinds hidden-the_row-Expr-0 shape-the_row-Expr-0 hidden-the_row-Stmt-0 shape-the_row-Stmt-0 denote.Hole.Carrier.hidden
else_two = refl

without_spans : bare_expr (record { span = s; form = Binary Sub t (x s) (x t) }) ≡ record { span = nowhere; form = Binary Sub nowhere (x nowhere) (x nowhere) }
unfolding bare_form hidden-the_row-Expr-0 shape-the_row-Expr-0 denote.Hole.Carrier.hidden
without_spans = refl
