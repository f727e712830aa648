-- What reaches a block, on small graphs.
use Rattle.std.proofs.Common.{◌≡◌, ℕ, pos, true, false, Some, List, [], ◌∷◌, refl}
use Rattle.ceal_base.specs.declared.fault.Span.{Span}
use Rattle.ceal_base.specs.declared.kind.Kind.TheVariants.{Int}
use Rattle.ceal_base.specs.declared.typed.TypedExpr.{TypedExpr}
use Rattle.ceal_base.specs.declared.typed.TypedForm.{Num}
use Rattle.ceal_base.specs.declared.typed.TypedStmt.TheVariants.{Assign}
use Rattle.ceal_base.specs.declared.typed.TypedValue.TheVariants.{Plain}
use Rattle.ceal_flow.specs.declared.block.GraphBlock.TheVariants.{Test, Act}
use Rattle.ceal_live.specs.Rounds.{comes}

abbrev at : Span
at = record { from = 0; to = 0 }

abbrev one : TypedExpr
one = record { span = at; kind = Some Int; form = Num (pos 1) }

-- the sets of blocks 0 and 1
abbrev sets : List (List ℕ)
sets = (0 ∷ 2 ∷ []) ∷ (1 ∷ []) ∷ []

-- a variable of the set after an assignment reaches it, unless it is the one that is assigned
kept : comes sets (Act (Assign at 0 (Plain one)) 0) 2 ≡ true
kept = refl

assigned : comes sets (Act (Assign at 0 (Plain one)) 0) 0 ≡ false
assigned = refl

-- one of either set reaches a test
either : comes sets (Test one 0 1) 1 ≡ true
either = refl

neither : comes sets (Test one 0 1) 3 ≡ false
neither = refl
