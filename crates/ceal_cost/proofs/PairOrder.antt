-- Pairs are compared as equal where they are one.
use Rattle.std.proofs.Common.{◌≡◌, ℕ, ◌==◌, ◌&&◌, sym, ap₂, ◌∙◌}
use Rattle.std.specs.Cmp.{tied_then}
use Rattle.std.specs.Ordering.{is_eq, nat_cmp}
use Rattle.ceal_code.proofs.Words.SameIsEqual.{nat-compared}
use Rattle.ceal_cost.specs.contracts.pairs.PairOrd.TheImpl.{ghosts}

pub pair-compared : (a b c d : ℕ) → is_eq (ghosts.cmp (record { old = a; new = b }) (record { old = c; new = d })) ≡ ((a == c) && (b == d))
pair-compared a b c d = sym (tied_then (nat_cmp a c) (nat_cmp b d)) ∙ ap₂ (λ x y. x && y) (nat-compared a c) (nat-compared b d)

pub ruleset pair_steps = (pair-compared)
