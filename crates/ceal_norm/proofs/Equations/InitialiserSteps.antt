-- Initialisers, statement by statement.
use Rattle.std.proofs.Common.{◌≡◌, ℕ, ◌+◌, ◌<◌, List, [], ◌∷◌, ◌++◌, length, take, get_or, refl, ap, ap₂, sym, ◌∙◌, append_assoc, append-nil}
use Rattle.std.proofs.lemmas.List.{take_more}
use Rattle.ceal_base.specs.declared.fault.Span.{Span}
use Rattle.ceal_base.specs.declared.kind.Kind.{Kind}
use Rattle.ceal_base.specs.declared.typed.TypedExpr.{TypedExpr}
use Rattle.ceal_base.specs.declared.typed.TypedStmt.{TypedStmt}
use Rattle.ceal_base.specs.declared.typed.TypedStmt.TheBlock.{hidden-the_row-TypedStmt-0, shape-the_row-TypedStmt-0}
use Rattle.ceal_base.specs.declared.typed.TypedStmt.TheVariants.{Declare, Assign, SetField, Write, Call, Return, Break, Continue}
use Rattle.ceal_base.specs.declared.typed.TypedStmt.TheViews.{If, While}
use Rattle.ceal_base.specs.declared.typed.TypedValue.{TypedValue}
use Rattle.ceal_code.specs.declared.function.InitStmt.{Set}
use Rattle.ceal_code.specs.declared.function.InitStmt.TheViews as init
use Rattle.ceal_norm.specs.Expressions.{expr_code, init_code, row_init_code, all_init_code}

row-all : (xs : List TypedStmt) → row_init_code (hidden-the_row-TypedStmt-0 xs) ≡ all_init_code xs
unfolding init_code all_init_code hidden-the_row-TypedStmt-0 shape-the_row-TypedStmt-0 denote.Hole.Carrier.hidden
row-all [] = refl
row-all (s ∷ xs) = ap (λ cs. init_code s ++ cs) (row-all xs)

pub init-set : (at : Span) (left : TypedExpr) (s field : ℕ) (e : TypedExpr) → init_code (SetField at left s field e) ≡ Set field (expr_code e) ∷ []
unfolding init_code
init-set at left s field e = refl

pub init-if : (at : Span) (test : TypedExpr) (first second : List TypedStmt)
    → init_code (If at test first second) ≡ init.If (expr_code test) (all_init_code first) (all_init_code second) ∷ []
unfolding init_code
init-if at test first second = ap₂ (λ a b. init.If (expr_code test) a b ∷ []) (row-all first) (row-all second)

pub init-declare : (at : Span) (n : ℕ) (kind : Kind) (v : TypedValue) → init_code (Declare at n kind v) ≡ []
unfolding init_code
init-declare at n kind v = refl

pub init-assign : (at : Span) (n : ℕ) (v : TypedValue) → init_code (Assign at n v) ≡ []
unfolding init_code
init-assign at n v = refl

pub init-write : (at : Span) (p e : TypedExpr) → init_code (Write at p e) ≡ []
unfolding init_code
init-write at p e = refl

pub init-call : (at : Span) (f : ℕ) (args : List TypedExpr) → init_code (Call at f args) ≡ []
unfolding init_code
init-call at f args = refl

pub init-while : (at : Span) (test : TypedExpr) (body : List TypedStmt) → init_code (While at test body) ≡ []
unfolding init_code
init-while at test body = refl

pub init-return : (at : Span) → init_code (Return at) ≡ []
unfolding init_code
init-return at = refl

pub init-break : (at : Span) → init_code (Break at) ≡ []
unfolding init_code
init-break at = refl

pub init-continue : (at : Span) → init_code (Continue at) ≡ []
unfolding init_code
init-continue at = refl

pub all-none : all_init_code [] ≡ []
unfolding all_init_code
all-none = refl

pub all-push : (xs : List TypedStmt) (s : TypedStmt) → all_init_code (xs ++ s ∷ []) ≡ all_init_code xs ++ init_code s
unfolding all_init_code
all-push [] s = append-nil (init_code s)
all-push (x ∷ xs) s = ap (λ cs. init_code x ++ cs) (all-push xs s) ∙ sym (append_assoc (init_code x) (all_init_code xs) (init_code s))

pub all-take : (xs : List TypedStmt) (i : ℕ) (s : TypedStmt) → i < length xs → all_init_code (take (i + 1) xs) ≡ all_init_code (take i xs) ++ init_code (get_or xs i s)
all-take xs i s l = ap all_init_code (take_more xs i s l) ∙ all-push (take i xs) (get_or xs i s)

pub ruleset init_steps = (init-set, init-if, init-declare, init-assign, init-write, init-call, init-while, init-return, init-break, init-continue, all-none, all-push, append-nil)
