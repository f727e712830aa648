-- What an initialiser sets, statement by statement.
use Rattle.std.proofs.Common.{◌≡◌, ℕ, List, [], ◌∷◌, ◌++◌, ◌+◌, ◌<◌, length, take, get_or, refl, slice_set, if◌then◌else◌}
use Rattle.std.proofs.lemmas.List.{take_more}
use Rattle.ceal_base.specs.Access.{holds}
use Rattle.ceal_base.specs.Block.{Blocks}
use Rattle.ceal_base.specs.declared.fault.Span.{Span}
use Rattle.ceal_base.specs.declared.kind.Kind.{Kind}
use Rattle.ceal_base.specs.declared.typed.TypedExpr.{TypedExpr}
use Rattle.ceal_base.specs.declared.typed.TypedStmt.{TypedStmt}
use Rattle.ceal_base.specs.declared.typed.TypedStmt.TheBlock.{hidden-the_row-TypedStmt-0, shape-the_row-TypedStmt-0}
use Rattle.ceal_base.specs.declared.typed.TypedStmt.TheVariants.{Declare, Assign, SetField, Write, Call, Return, Break, Continue}
use Rattle.ceal_base.specs.declared.typed.TypedStmt.TheViews.{If, While}
use Rattle.ceal_base.specs.declared.typed.TypedValue.{TypedValue}
use Rattle.ceal_base.specs.declared.word.Word.{Word}
use Rattle.ceal_mean.specs.Init.{set_by, set_by_row, set_by_all}
use Rattle.ceal_mean.specs.Value.{value_of}

module _ (env : List Word) (m : Blocks) where
  -- a row sets what its list sets
  pub row-all : (xs : List TypedStmt) (words : List Word) → set_by_row env m words (hidden-the_row-TypedStmt-0 xs) ≡ set_by_all env m words xs
  unfolding set_by set_by_all hidden-the_row-TypedStmt-0 shape-the_row-TypedStmt-0 denote.Hole.Carrier.hidden
  row-all [] words = refl
  row-all (s ∷ xs) words = row-all xs (set_by env m words s)

  pub set-if : (words : List Word) (at : Span) (test : TypedExpr) (first second : List TypedStmt)
      → set_by env m words (If at test first second) ≡ (if holds (value_of env m test) then set_by_all env m words first else set_by_all env m words second)
  unfolding set_by
  set-if words at test first second = rw (← row-all first words, ← row-all second words)

  pub set-field : (words : List Word) (at : Span) (left : TypedExpr) (shape field : ℕ) (e : TypedExpr)
      → set_by env m words (SetField at left shape field e) ≡ slice_set words field (value_of env m e)
  unfolding set_by
  set-field words at left shape field e = refl

  pub set-none : (words : List Word) → set_by_all env m words [] ≡ words
  unfolding set_by_all
  set-none words = refl

  -- one statement more at the end
  pub set-push : (xs : List TypedStmt) (words : List Word) (s : TypedStmt) → set_by_all env m words (xs ++ s ∷ []) ≡ set_by env m (set_by_all env m words xs) s
  unfolding set_by_all
  set-push [] words s = refl
  set-push (x ∷ xs) words s = set-push xs (set_by env m words x) s

  pub set-take : (xs : List TypedStmt) (i : ℕ) (d : TypedStmt) (words : List Word) → i < length xs
      → set_by_all env m words (take (i + 1) xs) ≡ set_by env m (set_by_all env m words (take i xs)) (get_or xs i d)
  set-take xs i d words h = rw (take_more xs i d h) (set-push (take i xs) words (get_or xs i d))

  pub set-declare : (words : List Word) (at : Span) (n : ℕ) (kind : Kind) (v : TypedValue) → set_by env m words (Declare at n kind v) ≡ words
  unfolding set_by
  set-declare words at n kind v = refl

  pub set-assign : (words : List Word) (at : Span) (n : ℕ) (v : TypedValue) → set_by env m words (Assign at n v) ≡ words
  unfolding set_by
  set-assign words at n v = refl

  pub set-write : (words : List Word) (at : Span) (p v : TypedExpr) → set_by env m words (Write at p v) ≡ words
  unfolding set_by
  set-write words at p v = refl

  pub set-call : (words : List Word) (at : Span) (n : ℕ) (args : List TypedExpr) → set_by env m words (Call at n args) ≡ words
  unfolding set_by
  set-call words at n args = refl

  pub set-while : (words : List Word) (at : Span) (test : TypedExpr) (body : List TypedStmt) → set_by env m words (While at test body) ≡ words
  unfolding set_by
  set-while words at test body = refl

  pub set-return : (words : List Word) (at : Span) → set_by env m words (Return at) ≡ words
  unfolding set_by
  set-return words at = refl

  pub set-break : (words : List Word) (at : Span) → set_by env m words (Break at) ≡ words
  unfolding set_by
  set-break words at = refl

  pub set-continue : (words : List Word) (at : Span) → set_by env m words (Continue at) ≡ words
  unfolding set_by
  set-continue words at = refl

pub ruleset init_steps = (set-if, set-field, set-none, set-push, set-declare, set-assign, set-write, set-call, set-while, set-return, set-break, set-continue)
