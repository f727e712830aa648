-- The listing of functions, units and statements, one by one.
use Rattle.std.proofs.Common.{◌≡◌, ℕ, ◌+◌, ◌<◌, List, [], ◌∷◌, ◌++◌, refl, length, arith, slice_get, take, get_or, ap, ap₂, append_assoc, append-nil, ◌∙◌, sym, codes}
use Rattle.std.proofs.lemmas.List.{take_more}
use Rattle.ceal_base.specs.declared.typed.StructInfo.{StructInfo}
use Rattle.ceal_code.specs.Listing.{added, grouped, unit_text_at, units_text, stmt_text, row_text, else_row, stmts_text, else_text, function_text, functions_text, line, field_name, expr_text}
use Rattle.ceal_code.specs.Program.{Unit, Code}
use Rattle.ceal_code.specs.declared.expr.CodeExpr.{CodeExpr}
use Rattle.ceal_code.specs.declared.function.FunctionCode.{FunctionCode}
use Rattle.ceal_code.specs.declared.function.InitStmt.{InitStmt}
use Rattle.ceal_code.specs.declared.function.InitStmt.TheBlock.{hidden-the_row-InitStmt-0, shape-the_row-InitStmt-0}
use Rattle.ceal_code.specs.declared.function.InitStmt.TheVariants.{Set}
use Rattle.ceal_code.specs.declared.function.InitStmt.TheViews.{If}

module _ (code : Code) where
  pub units-cons : (n : ℕ) (ns : List ℕ) → units_text code (n ∷ ns) ≡ unit_text_at code n (slice_get code.units n) ++ units_text code ns
  unfolding units_text
  units-cons n ns = refl

  pub units-end : (ns : List ℕ) → length ns ≡ 0 → units_text code ns ≡ []
  unfolding units_text
  units-end [] h = refl
  units-end (n ∷ ns) h = absurd (omega (arith, h))

  pub functions-cons : (f : FunctionCode) (fs : List FunctionCode) (g : List ℕ) (gs : List (List ℕ))
      → functions_text code (f ∷ fs) (g ∷ gs) ≡ function_text code f g ++ functions_text code fs gs
  unfolding functions_text
  functions-cons f fs g gs = refl

  pub functions-short : (fs : List FunctionCode) (gs : List (List ℕ)) → length gs ≡ 0 → functions_text code fs gs ≡ []
  unfolding functions_text
  functions-short [] [] h = refl
  functions-short (f ∷ fs) [] h = refl
  functions-short fs (g ∷ gs) h = absurd (omega (arith, h))

  pub functions-end : (fs : List FunctionCode) (gs : List (List ℕ)) → length fs ≡ 0 → functions_text code fs gs ≡ []
  unfolding functions_text
  functions-end [] gs h = refl
  functions-end (f ∷ fs) gs h = absurd (omega (arith, h))

module _ (structs : List StructInfo) (s : ℕ) where
  row-all : (depth : ℕ) (xs : List InitStmt) → row_text structs s depth (hidden-the_row-InitStmt-0 xs) ≡ stmts_text structs s depth xs
  unfolding stmt_text stmts_text hidden-the_row-InitStmt-0 shape-the_row-InitStmt-0 denote.Hole.Carrier.hidden
  row-all depth [] = refl
  row-all depth (x ∷ xs) = ap (λ t. stmt_text structs s depth x ++ t) (row-all depth xs)

  else-all : (depth : ℕ) (xs : List InitStmt) → else_row structs s depth (hidden-the_row-InitStmt-0 xs) ≡ else_text structs s depth xs
  unfolding stmt_text stmts_text hidden-the_row-InitStmt-0 shape-the_row-InitStmt-0 denote.Hole.Carrier.hidden
  else-all depth [] = refl
  else-all depth (x ∷ xs) = ap (λ t. line depth (codes "else") ++ (stmt_text structs s (depth + 1) x ++ t)) (row-all (depth + 1) xs)

  pub stmt-set : (depth field : ℕ) (e : CodeExpr)
      → stmt_text structs s depth (Set field e) ≡ line depth (codes "self->" ++ field_name structs s field ++ codes " = " ++ expr_text structs e)
  unfolding stmt_text
  stmt-set depth field e = refl

  pub stmt-if : (depth : ℕ) (test : CodeExpr) (first second : List InitStmt)
      → stmt_text structs s depth (If test first second)
      ≡ line depth (codes "if " ++ expr_text structs test) ++ stmts_text structs s (depth + 1) first ++ else_text structs s depth second
  unfolding stmt_text
  stmt-if depth test first second =
      ap₂ (λ t u. line depth (codes "if " ++ expr_text structs test) ++ t ++ u) (row-all (depth + 1) first) (else-all depth second)

  module _ (depth : ℕ) where
    pub stmts-none : stmts_text structs s depth [] ≡ []
    unfolding stmts_text
    stmts-none = refl

    stmts-push : (xs : List InitStmt) (x : InitStmt) → stmts_text structs s depth (xs ++ x ∷ []) ≡ stmts_text structs s depth xs ++ stmt_text structs s depth x
    unfolding stmts_text
    stmts-push [] x = append-nil (stmt_text structs s depth x)
    stmts-push (y ∷ ys) x =
        ap (λ t. stmt_text structs s depth y ++ t) (stmts-push ys x)
        ∙ sym (append_assoc (stmt_text structs s depth y) (stmts_text structs s depth ys) (stmt_text structs s depth x))

    pub stmts-take : (xs : List InitStmt) (i : ℕ) (d : InitStmt) → i < length xs
        → stmts_text structs s depth (take (i + 1) xs) ≡ stmts_text structs s depth (take i xs) ++ stmt_text structs s depth (get_or xs i d)
    stmts-take xs i d h = ap (stmts_text structs s depth) (take_more xs i d h) ∙ stmts-push (take i xs) (get_or xs i d)

pub group-cons : (groups : List (List ℕ)) (n : ℕ) (u : Unit) (us : List Unit) → grouped groups n (u ∷ us) ≡ grouped (added groups u.function n) (n + 1) us
unfolding grouped
group-cons groups n u us = refl

pub group-end : (groups : List (List ℕ)) (n : ℕ) (us : List Unit) → length us ≡ 0 → grouped groups n us ≡ groups
unfolding grouped
group-end groups n [] h = refl
group-end groups n (u ∷ us) h = absurd (omega (arith, h))

pub ruleset units_steps = (units-cons, units-end, append_assoc, append-nil)

pub ruleset functions_steps = (functions-cons, functions-short, functions-end, append_assoc, append-nil)

pub ruleset stmt_steps = (stmt-set, stmt-if, append_assoc)

pub ruleset stmts_steps = (stmts-none, stmts-take, append_assoc, append-nil)

pub ruleset group_steps = (group-cons, group-end)
