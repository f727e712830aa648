-- The last of the first stamps.
use Rattle.std.proofs.Common.{◌≡◌, ◌<◌, ◌≤◌, ◌-◌, ℕ, suc, zero, List, [], ◌∷◌, Some, length, get_or, take, refl, ap, arith}
use Rattle.ceal_order.specs.Rising.{last_from, last_stamp}

-- the last of the first n and one before them
last-from-at : (s d n : ℕ) (xs : List ℕ) → n < length xs → last_from s (take (suc n) xs) ≡ get_or xs n d
last-from-at s d n [] within = absurd (omega arith)
last-from-at s d zero (x ∷ xs) within = refl
last-from-at s d (suc n) (x ∷ xs) within = last-from-at x d n xs (omega arith)

-- the last of the first n stamps
pub last-at : (d n : ℕ) (xs : List ℕ) → 0 < n → n ≤ length xs → last_stamp (take n xs) ≡ Some (get_or xs (n - 1) d)
last-at d zero xs some within = absurd (omega arith)
last-at d (suc n) [] some within = absurd (omega arith)
last-at d (suc zero) (x ∷ xs) some within = refl
last-at d (suc (suc n)) (x ∷ xs) some within = (let next : suc (suc n) - 1 ≡ suc n = omega arith in rw next (ap Some (last-from-at x d n xs (omega arith))))

pub take-all : (xs : List ℕ) → take (length xs) xs ≡ xs
take-all [] = refl
take-all (x ∷ xs) = ap (λ (l : List ℕ). x ∷ l) (take-all xs)
