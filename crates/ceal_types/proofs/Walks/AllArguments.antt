-- Where all arguments have been looked at.
use Rattle.std.proofs.Common.{◌≡◌, ℕ, ◌≤◌, Result, Ok, List, [], ◌∷◌, length, drop, drop_of_length-le, refl, sym, ◌∙◌}
use Rattle.ceal_base.specs.declared.fault.Fault.{Fault}
use Rattle.ceal_base.specs.declared.kind.Kind.{Kind}
use Rattle.ceal_base.specs.declared.typed.TypedExpr.{TypedExpr}
use Rattle.ceal_types.specs.Statements.{arguments_suit}

arguments-none : (kinds : List Kind) → arguments_suit kinds [] ≡ Ok tt
arguments-none [] = refl
arguments-none (kind ∷ kinds) = refl

pub arguments-over : (kinds : List Kind) (es : List TypedExpr) (i : ℕ) (w : Result (Unit {0}) Fault)
    → length es ≤ i → arguments_suit kinds (drop i es) ≡ w → w ≡ Ok tt
arguments-over kinds es i w h all = sym (rw (drop_of_length-le es h) at all) ∙ arguments-none kinds
