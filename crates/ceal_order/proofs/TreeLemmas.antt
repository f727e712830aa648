-- Lists in parts, and one item more or less in one of them.
use Rattle.std.proofs.Common.{◌≡◌, ℕ, suc, zero, ◌+◌, ◌<◌, ◌≤◌, List, [], ◌∷◌, ◌++◌, length, refl, ap, ◌∙◌, arith, length-append}
use Rattle.std.specs.List.{insert, remove}

-- ---- one item more

pub insert-front : {A : Type 0} (xs ys : List A) (i : ℕ) (x : A) → i ≤ length xs → insert (xs ++ ys) i x ≡ insert xs i x ++ ys
insert-front xs ys zero x le = refl
insert-front [] ys (suc i) x le = absurd (omega arith)
insert-front {A} (y ∷ xs) ys (suc i) x le = ap (λ (l : List A). y ∷ l) (insert-front xs ys i x (omega arith))

pub insert-back : {A : Type 0} (xs ys : List A) (k i : ℕ) (x : A) → k ≡ length xs + i → insert (xs ++ ys) k x ≡ xs ++ insert ys i x
insert-back [] ys k i x is = let same : k ≡ i = omega arith in rw same refl
insert-back (y ∷ xs) ys zero i x is = absurd (omega arith)
insert-back {A} (y ∷ xs) ys (suc k) i x is = ap (λ (l : List A). y ∷ l) (insert-back xs ys k i x (omega arith))

-- ---- one item less

pub remove-front : {A : Type 0} (xs ys : List A) (i : ℕ) → i < length xs → remove (xs ++ ys) i ≡ remove xs i ++ ys
remove-front [] ys i less = absurd (omega arith)
remove-front (y ∷ xs) ys zero less = refl
remove-front {A} (y ∷ xs) ys (suc i) less = ap (λ (l : List A). y ∷ l) (remove-front xs ys i (omega arith))

pub remove-back : {A : Type 0} (xs ys : List A) (k i : ℕ) → k ≡ length xs + i → remove (xs ++ ys) k ≡ xs ++ remove ys i
remove-back [] ys k i is = let same : k ≡ i = omega arith in rw same refl
remove-back (y ∷ xs) ys zero i is = absurd (omega arith)
remove-back {A} (y ∷ xs) ys (suc k) i is = ap (λ (l : List A). y ∷ l) (remove-back xs ys k i (omega arith))

-- ---- the parts of a fork

pub length-parts : {A : Type 0} (xs ys zs : List A) → length (xs ++ ys ++ zs) ≡ length xs + length ys + length zs
length-parts xs ys zs = omega (arith, length-append (xs ++ ys) zs, length-append xs ys)

pub insert-middle : {A : Type 0} (xs ys zs : List A) (k i : ℕ) (x : A) → k ≡ length xs + i → i ≤ length ys → insert (xs ++ ys ++ zs) k x ≡ xs ++ insert ys i x ++ zs
insert-middle {A} xs ys zs k i x is le = insert-front (xs ++ ys) zs k x (omega (arith, length-append xs ys)) ∙ ap (λ (l : List A). l ++ zs) (insert-back xs ys k i x is)

pub insert-last : {A : Type 0} (xs ys zs : List A) (k i : ℕ) (x : A) → k ≡ length xs + length ys + i → insert (xs ++ ys ++ zs) k x ≡ xs ++ ys ++ insert zs i x
insert-last xs ys zs k i x is = insert-back (xs ++ ys) zs k i x (omega (arith, length-append xs ys))

pub remove-middle : {A : Type 0} (xs ys zs : List A) (k i : ℕ) → k ≡ length xs + i → i < length ys → remove (xs ++ ys ++ zs) k ≡ xs ++ remove ys i ++ zs
remove-middle {A} xs ys zs k i is less = remove-front (xs ++ ys) zs k (omega (arith, length-append xs ys)) ∙ ap (λ (l : List A). l ++ zs) (remove-back xs ys k i is)

pub remove-last : {A : Type 0} (xs ys zs : List A) (k i : ℕ) → k ≡ length xs + length ys + i → remove (xs ++ ys ++ zs) k ≡ xs ++ ys ++ remove zs i
remove-last xs ys zs k i is = remove-back (xs ++ ys) zs k i (omega (arith, length-append xs ys))

append_none : {A : Type 0} (xs : List A) → xs ++ [] ≡ xs
append_none [] = refl
append_none {A} (x ∷ xs) = ap (λ (l : List A). x ∷ l) (append_none xs)

remove-only : {A : Type 0} (ys : List A) (i : ℕ) → length ys ≡ 1 → i < 1 → remove ys i ≡ []
remove-only [] i one less = absurd (omega arith)
remove-only (y ∷ []) zero one less = refl
remove-only (y ∷ []) (suc i) one less = absurd (omega arith)
remove-only (y ∷ z ∷ zs) i one less = absurd (omega arith)

-- a fork of one item goes with it
pub remove-fork : {A : Type 0} (xs ys zs : List A) (k i : ℕ) → k ≡ length xs + i → i < length ys → length ys ≡ 1 → remove (xs ++ ys ++ zs) k ≡ xs ++ zs
remove-fork {A} xs ys zs k i is less one =
    remove-middle xs ys zs k i is less ∙ ap (λ (l : List A). l ++ zs) (ap (λ (l : List A). xs ++ l) (remove-only ys i one (omega arith)) ∙ append_none xs)

pub remove-early : {A : Type 0} (xs ys zs : List A) (i : ℕ) → i < length xs → remove (xs ++ ys ++ zs) i ≡ remove xs i ++ ys ++ zs
remove-early {A} xs ys zs i less = remove-front (xs ++ ys) zs i (omega (arith, length-append xs ys)) ∙ ap (λ (l : List A). l ++ zs) (remove-front xs ys i less)
