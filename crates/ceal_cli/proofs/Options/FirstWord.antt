-- The words after the first one.
use Rattle.std.proofs.Common.{arith, ◌≡◌, ◌<◌, ℕ, Option, Some, None, List, [], ◌∷◌, ◌++◌, length, drop, sym, ap}
use Rattle.std.specs.Prelude.{◌↔◌, IsSome}
use Rattle.std.specs.Option.{option_to_list}

-- what `next` leaves is all but the first item, of which there is one unless there is none at all
pub after-first : {X : Type 0} (first : Option X) (all left : List X) (count : ℕ) → count ≡ length all
    → all ≡ option_to_list first ++ left → (IsSome first ↔ (0 < count)) → left ≡ drop 1 all
after-first (Some x) all left count counted e given = sym (ap (drop 1) e)
after-first None [] left count counted e given = sym e
after-first None (x ∷ xs) left count counted e given = absurd (cc (given.1 (omega (arith, counted))))
