-- A walk from one item on.
use Rattle.std.proofs.Common.{◌≡◌, ℕ, suc, ◌+◌, ◌<◌, ◌≤◌, Result, Ok, List, [], ◌∷◌, ◌++◌, length, drop, drop-cons, drop_of_length-le, get_or, refl, reverse, sym, ◌∙◌, add-one}
use Rattle.std.proofs.lemmas.List.{reverse-append}
use Rattle.ceal_base.specs.Answers.{Fails}
use Rattle.ceal_base.specs.declared.fault.Fault.{Fault}
use Rattle.ceal_base.specs.declared.fault.FrontError.{FrontError}
use Rattle.ceal_base.specs.declared.fault.FrontError.TheVariants.{Memory, Fault as FaultError}
use Rattle.ceal_types.specs.Walk.{after, result_map, in_turn}

-- a fault of the first is a fault of what comes after it
pub fails-after : {A B : Type 0} (next : A → Result B Fault) (r : Result A Fault) (e : FrontError) → Fails e r → Fails e (after next r)
fails-after next r Memory h = tt
fails-after next r (FaultError f) h = rw h refl

pub fails-mapped : {A B : Type 0} (make : A → B) (r : Result A Fault) (e : FrontError) → Fails e r → Fails e (result_map make r)
fails-mapped make r Memory h = tt
fails-mapped make r (FaultError f) h = rw h refl

pub fails-same : {A : Type 0} (r w : Result A Fault) (e : FrontError) → r ≡ w → Fails e r → Fails e w
fails-same r w Memory p h = tt
fails-same r w (FaultError f) p h = sym p ∙ h

module _ {A S : Type 0} (step : A → S → Result S Fault) where
  pub turn-none : (s : S) → in_turn step [] s ≡ Ok s
  unfolding in_turn
  turn-none s = refl

  pub turn-first : (x : A) (xs : List A) (s : S) → in_turn step (x ∷ xs) s ≡ after (in_turn step xs) (step x s)
  unfolding in_turn
  turn-first x xs s = refl

  turn-at : (xs : List A) (i : ℕ) (x : A) (s : S) → x ≡ get_or xs i x → i < length xs
      → in_turn step (drop i xs) s ≡ after (in_turn step (drop (i + 1) xs)) (step x s)
  turn-at xs i x s is h = rw (drop-cons xs i x h, add-one, ← is) (turn-first x (drop (suc i) xs) s)

  -- an item without a fault leaves the rest
  pub turn-passed : (xs : List A) (i : ℕ) (x : A) (s t : S) (w : Result S Fault) → x ≡ get_or xs i x → i < length xs
      → in_turn step (drop i xs) s ≡ w → step x s ≡ Ok t → in_turn step (drop (i + 1) xs) t ≡ w
  turn-passed xs i x s t w is h all ok = sym (rw ok at (turn-at xs i x s is h)) ∙ all

  -- an item's fault is that of the walk
  pub turn-failed : (xs : List A) (i : ℕ) (x : A) (s : S) (w : Result S Fault) (e : FrontError) → x ≡ get_or xs i x → i < length xs
      → in_turn step (drop i xs) s ≡ w → Fails e (step x s) → Fails e w
  turn-failed xs i x s w e is h all failed =
      fails-same _ w e (sym (turn-at xs i x s is h) ∙ all) (fails-after (in_turn step (drop (i + 1) xs)) (step x s) e failed)

  -- none is left
  pub turn-over : (xs : List A) (i : ℕ) (s : S) (w : Result S Fault) → length xs ≤ i → in_turn step (drop i xs) s ≡ w → w ≡ Ok s
  turn-over xs i s w h all = sym (rw (drop_of_length-le xs h) at all) ∙ turn-none s

  -- the first item is the last of the list that is the other way round
  taken : (all rest : List A) (x : A) (s : S) → all ≡ rest ++ x ∷ []
      → in_turn step (reverse all) s ≡ after (in_turn step (reverse rest)) (step x s)
  taken all rest x s h = rw (h, reverse-append rest (x ∷ [])) (turn-first x (reverse rest) s)

  pub taken-passed : (all rest : List A) (x : A) (s t : S) (w : Result S Fault) → all ≡ rest ++ x ∷ []
      → in_turn step (reverse all) s ≡ w → step x s ≡ Ok t → in_turn step (reverse rest) t ≡ w
  taken-passed all rest x s t w h whole ok = sym (rw ok at (taken all rest x s h)) ∙ whole

  pub taken-failed : (all rest : List A) (x : A) (s : S) (w : Result S Fault) (e : FrontError) → all ≡ rest ++ x ∷ []
      → in_turn step (reverse all) s ≡ w → Fails e (step x s) → Fails e w
  taken-failed all rest x s w e h whole failed =
      fails-same _ w e (sym (taken all rest x s h) ∙ whole) (fails-after (in_turn step (reverse rest)) (step x s) e failed)

  pub taken-over : (all : List A) (s : S) (w : Result S Fault) → all ≡ [] → in_turn step (reverse all) s ≡ w → w ≡ Ok s
  taken-over all s w h whole = sym (rw h at whole) ∙ turn-none s
