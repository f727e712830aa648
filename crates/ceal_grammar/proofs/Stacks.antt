-- A list in reverse.
use Rattle.std.proofs.Common.{◌≡◌, ◌+◌, List, [], ◌∷◌, ◌++◌, length, reverse, ap, arith}
use Rattle.std.proofs.lemmas.List.{reverse-append, length-reverse, nil_from_length}

pub reverse_push : {A : Type 0} (xs : List A) (x : A) → reverse (xs ++ x ∷ []) ≡ x ∷ reverse xs
reverse_push xs x = reverse-append xs (x ∷ [])

pub reverse_empty : {A : Type 0} (xs : List A) → reverse xs ≡ [] → length xs ≡ 0
reverse_empty xs h = omega (arith, ap length h, length-reverse xs)

pub empty_reverse : {A : Type 0} (xs : List A) → length xs ≡ 0 → reverse xs ≡ []
empty_reverse xs h = ap reverse (nil_from_length xs h)

pub ruleset empties = (reverse_empty, empty_reverse)
