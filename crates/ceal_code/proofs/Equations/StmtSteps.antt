-- The statements of an initialiser, one by one.
use Rattle.std.proofs.Common.{◌≡◌, ℕ, zero, suc, ◌+◌, ◌<◌, Bool, true, false, ◌&&◌, List, [], ◌∷◌, ◌++◌, refl, length, arith, take, get_or, ap, ◌∙◌}
use Rattle.std.proofs.lemmas.List.{take_more}
use Rattle.ceal_base.specs.declared.kind.Kind.{Kind}
use Rattle.ceal_base.specs.declared.kind.Kind.TheVariants.{Int}
use Rattle.ceal_base.specs.declared.kind.Shape.TheVariants.{Struct}
use Rattle.ceal_base.specs.declared.typed.StructInfo.{StructInfo}
use Rattle.ceal_code.specs.Valid.{set_ok, stmt_ok, row_ok, stmts_ok, fits, type_of}
use Rattle.ceal_code.specs.Value.{field_kind}
use Rattle.ceal_code.specs.declared.expr.CodeExpr.{CodeExpr}
use Rattle.ceal_code.specs.declared.function.InitStmt.{InitStmt}
use Rattle.ceal_code.specs.declared.function.InitStmt.TheBlock.{hidden-the_row-InitStmt-0, shape-the_row-InitStmt-0}
use Rattle.ceal_code.specs.declared.function.InitStmt.TheVariants.{Set}
use Rattle.ceal_code.specs.declared.function.InitStmt.TheViews.{If}

module _ (structs : List StructInfo) (kinds : List Kind) (known : List Bool) (s : ℕ) where
  row-all : (xs : List InitStmt) → row_ok structs kinds known s (hidden-the_row-InitStmt-0 xs) ≡ stmts_ok structs kinds known s xs
  unfolding stmt_ok stmts_ok hidden-the_row-InitStmt-0 shape-the_row-InitStmt-0 denote.Hole.Carrier.hidden
  row-all [] = refl
  row-all (x ∷ xs) = ap (λ b. stmt_ok structs kinds known s x && b) (row-all xs)

  pub stmt-set : (field : ℕ) (e : CodeExpr) → stmt_ok structs kinds known s (Set field e) ≡ set_ok (field_kind structs (Struct s) field) (type_of structs kinds known e)
  unfolding stmt_ok
  stmt-set field e = refl

  pub stmt-if : (test : CodeExpr) (first second : List InitStmt)
      → stmt_ok structs kinds known s (If test first second)
      ≡ (fits Int (type_of structs kinds known test) && (stmts_ok structs kinds known s first && stmts_ok structs kinds known s second))
  unfolding stmt_ok
  stmt-if test first second = rw (← row-all first, ← row-all second)

  pub stmts-none : stmts_ok structs kinds known s [] ≡ true
  unfolding stmts_ok
  stmts-none = refl

  stmts-push : (xs : List InitStmt) (x : InitStmt) → stmts_ok structs kinds known s xs ≡ true → stmts_ok structs kinds known s (xs ++ x ∷ []) ≡ stmt_ok structs kinds known s x
  unfolding stmts_ok
  stmts-push [] x h = and-true (stmt_ok structs kinds known s x)
    where
      and-true : (b : Bool) → (b && true) ≡ b
      and-true true = refl
      and-true false = refl
  stmts-push (y ∷ ys) x h = go (stmt_ok structs kinds known s y) (stmts-push ys x) h
    where
      go : (b : Bool) → (stmts_ok structs kinds known s ys ≡ true → stmts_ok structs kinds known s (ys ++ x ∷ []) ≡ stmt_ok structs kinds known s x)
          → (b && stmts_ok structs kinds known s ys) ≡ true → (b && stmts_ok structs kinds known s (ys ++ x ∷ [])) ≡ stmt_ok structs kinds known s x
      go true i k = i k
      go false i k = absurd (grind (arith, k))

  pub stmts-take : (xs : List InitStmt) (i : ℕ) (d : InitStmt) → i < length xs → stmts_ok structs kinds known s (take i xs) ≡ true
      → stmts_ok structs kinds known s (take (i + 1) xs) ≡ stmt_ok structs kinds known s (get_or xs i d)
  stmts-take xs i d l h = ap (stmts_ok structs kinds known s) (take_more xs i d l) ∙ stmts-push (take i xs) (get_or xs i d) h

  pub stmts-fail : (xs : List InitStmt) (i : ℕ) (d : InitStmt) → i < length xs → stmt_ok structs kinds known s (get_or xs i d) ≡ false → stmts_ok structs kinds known s xs ≡ false
  unfolding stmts_ok
  stmts-fail [] i d l h = absurd (omega (arith, l))
  stmts-fail (x ∷ xs) zero d l h = ap (λ b. b && stmts_ok structs kinds known s xs) h
  stmts-fail (x ∷ xs) (suc i) d l h = ap (λ b. stmt_ok structs kinds known s x && b) (stmts-fail xs i d (omega (arith, l)) h) ∙ and-false (stmt_ok structs kinds known s x)
    where
      and-false : (b : Bool) → (b && false) ≡ false
      and-false true = refl
      and-false false = refl

pub ruleset stmt_steps = (stmt-set, stmt-if)

pub ruleset stmts_steps = (stmts-none, stmts-take, stmts-fail)
