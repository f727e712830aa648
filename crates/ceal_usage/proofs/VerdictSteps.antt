-- The verdict of lists of faults that follow one another.
use Rattle.std.proofs.Common.{◌≡◌, ℕ, suc, ◌+◌, ◌<◌, Result, Ok, Err, List, [], ◌∷◌, ◌++◌, length, drop, drop-cons, drop_of_length-le, get_or, refl, sym, add-one, ◌∙◌, ◌≤◌}
use Rattle.ceal_base.specs.Faults.{faults_of_each}
use Rattle.ceal_base.specs.declared.fault.Fault.{Fault}
use Rattle.ceal_usage.specs.Verdict.{verdict}

-- the second where the first is no fault
abbrev pub before : Result (Unit {0}) Fault → Result (Unit {0}) Fault → Result (Unit {0}) Fault
before (Ok u) s = s
before (Err f) s = Err f

pub verdict-append : (a b : List Fault) → verdict (a ++ b) ≡ before (verdict a) (verdict b)
verdict-append [] b = refl
verdict-append (f ∷ a) b = refl

module _ {A : Type 0} (faults : A → List Fault) where
  pub each-none : verdict (faults_of_each faults []) ≡ Ok tt
  unfolding faults_of_each
  each-none = refl

  pub each-more : (x : A) (xs : List A) → verdict (faults_of_each faults (x ∷ xs)) ≡ before (verdict (faults x)) (verdict (faults_of_each faults xs))
  unfolding faults_of_each
  each-more x xs = verdict-append (faults x) (faults_of_each faults xs)

  -- from the item at `i` on
  pub each-drop : (xs : List A) (i : ℕ) (d : A) → i < length xs
      → verdict (faults_of_each faults (drop i xs)) ≡ before (verdict (faults (get_or xs i d))) (verdict (faults_of_each faults (drop (i + 1) xs)))
  each-drop xs i d h = rw (drop-cons xs i d h, add-one) (each-more (get_or xs i d) (drop (suc i) xs))

  each-from : (xs : List A) (i : ℕ) (x : A) → x ≡ get_or xs i x → i < length xs
      → verdict (faults_of_each faults (drop i xs)) ≡ before (verdict (faults x)) (verdict (faults_of_each faults (drop (i + 1) xs)))
  each-from xs i x is h = rw is (each-drop xs i x h)

  -- an item without a fault leaves the rest
  pub each-passed : (xs : List A) (i : ℕ) (x : A) (w : Result (Unit {0}) Fault) (u : Unit {0}) → x ≡ get_or xs i x → i < length xs
      → verdict (faults_of_each faults (drop i xs)) ≡ w → Ok u ≡ verdict (faults x) → verdict (faults_of_each faults (drop (i + 1) xs)) ≡ w
  each-passed xs i x w u is h all ok = sym (rw (← ok) at (each-from xs i x is h)) ∙ all

  -- an item's fault is the first of all
  pub each-failed : (xs : List A) (i : ℕ) (x : A) (w : Result (Unit {0}) Fault) (f : Fault) → x ≡ get_or xs i x → i < length xs
      → verdict (faults_of_each faults (drop i xs)) ≡ w → Err f ≡ verdict (faults x) → Err f ≡ w
  each-failed xs i x w f is h all failed = sym (rw (← failed) at (each-from xs i x is h)) ∙ all

  -- none is left
  pub each-over : (xs : List A) (i : ℕ) (w : Result (Unit {0}) Fault) → length xs ≤ i → verdict (faults_of_each faults (drop i xs)) ≡ w → Ok tt ≡ w
  each-over xs i w h all = sym each-none ∙ rw (drop_of_length-le xs h) at all
