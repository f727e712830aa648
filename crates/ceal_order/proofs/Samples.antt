-- The words for stamps on small lists.
use Rattle.std.proofs.Common.{◌≡◌, List, ℕ, [], ◌∷◌, Some, None, false, refl}
use Rattle.ceal_order.specs.Stamps.{is_in, place, successor, with_after, without}

abbrev three : List ℕ
three = 0 ∷ 4 ∷ 7 ∷ []

third : place 7 three ≡ 2
third = refl

not_there : is_in 5 three ≡ false
not_there = refl

after_four : successor 4 three ≡ Some 7
after_four = refl

after_last : successor 7 three ≡ None
after_last = refl

nine_after_four : with_after 4 9 three ≡ 0 ∷ 4 ∷ 9 ∷ 7 ∷ []
nine_after_four = refl

without_four : without 4 three ≡ 0 ∷ 7 ∷ []
without_four = refl
