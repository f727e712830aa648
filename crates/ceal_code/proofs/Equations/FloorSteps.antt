-- Units that wait above a floor, and those under it.
use Rattle.std.proofs.Common.{◌≡◌, ℕ, zero, suc, ◌+◌, ◌-◌, ◌≤◌, List, [], ◌∷◌, ◌++◌, length, take, drop, append-nil, min, max, sym, ap, ap₂, ◌∙◌, arith, inl, inr}
use Rattle.std.proofs.Math.Seq.{drop-nil}
use Rattle.std.proofs.lemmas.List.{drop-append-le, length-drop, length-take, drop-take, drop_all, take-append-drop}
use Rattle.ceal_base.specs.declared.word.Word.{Word}
use Rattle.ceal_code.proofs.Equations.StackSteps.{le-either}
use Rattle.ceal_code.proofs.Equations.WaitSteps.{wait-over, wait-pop, wait-empty}
use Rattle.ceal_code.specs.Init.{arguments}
use Rattle.ceal_code.specs.Stacks.{waiting}
use Rattle.ceal_code.specs.Step.{Empty, Run}
use Rattle.ceal_code.specs.declared.waits.Waiting.{Waiting}

drop-more : {A : Type 0} (g k : ℕ) (xs : List A) → drop k (drop g xs) ≡ drop (g + k) xs
drop-more zero k xs = let e : k ≡ 0 + k = omega arith in ap (λ n. drop n xs) e
drop-more (suc g) k [] = drop-nil k ∙ sym (drop-nil (suc g + k))
drop-more (suc g) k (x ∷ xs) = let e : suc (g + k) ≡ suc g + k = omega arith in drop-more g k xs ∙ ap (λ n. drop n (x ∷ xs)) e

-- a unit that waits over those above the floor
pub over-floor : (units : List Waiting) (u i n : ℕ) (words env : List Word) (f g : ℕ) → f ≤ length units → g ≤ length words → n ≡ length env
    → waiting (drop f (units ++ record { unit = u; index = i; count = n } ∷ [])) (drop g (words ++ env)) ≡ Run u i (arguments env) (waiting (drop f units) (drop g words))
over-floor units u i n words env f g h k e =
    ap₂ waiting (drop-append-le f units (record { unit = u; index = i; count = n } ∷ []) h) (drop-append-le g words env k)
    ∙ wait-over (drop f units) u i n (drop g words) env e

-- and the last one, which waits no more
pub off-floor : (old new : List Waiting) (w : Waiting) (words env rest : List Word) (from f g : ℕ) → old ≡ new ++ w ∷ [] → f ≤ length new → g ≤ length words
    → from ≡ max (length words - w.count) g → env ≡ drop from words → rest ≡ take from words
    → waiting (drop f old) (drop g words) ≡ Run w.unit w.index (arguments env) (waiting (drop f new) (drop g rest))
off-floor old new w words env rest from f g e h k is env_is rest_is =
    let more : g + (from - g) ≡ from = omega (arith, is) in
    wait-pop (drop f old) (drop f new) w (drop g words) env (drop g rest) (from - g)
    (ap (drop f) e ∙ drop-append-le f new (w ∷ []) h)
    (omega (arith, is, length-drop g words, k))
    (env_is ∙ (ap (λ n. drop n words) (sym more) ∙ sym (drop-more g (from - g) words)))
    (ap (drop g) rest_is ∙ (ap (λ n. drop g (take n words)) (sym more) ∙ drop-take g (from - g) words))

-- what is cut down to the floor
pub cut-length : {A : Type 0} (f : ℕ) (xs : List A) → f ≤ length xs → length (take f xs) ≡ f
cut-length f xs h = length-take f xs ∙ omega (arith, h)

pub cut-none : {A : Type 0} (f : ℕ) (xs : List A) → f ≤ length xs → drop f (take f xs) ≡ []
cut-none f xs h = drop_all f (take f xs) (omega (arith, cut-length f xs h))

-- a lower floor, or the same one
pub lower-drop : {A : Type 0} (a f : ℕ) (xs : List A) → f ≤ length xs → drop (min a f) (take f xs) ≡ drop a (take f xs)
lower-drop a f xs h = elim (le-either a f) [
  | inl k ↦ let e : min a f ≡ a = omega (arith, k) in ap (λ n. drop n (take f xs)) e
  | inr k ↦ let e : min a f ≡ f = omega (arith, k) in
      ap (λ n. drop n (take f xs)) e ∙ (cut-none f xs h ∙ sym (drop_all a (take f xs) (omega (arith, cut-length f xs h, k))))
]

-- where no unit is above it
whole : {A : Type 0} (f : ℕ) (xs : List A) → drop f xs ≡ [] → xs ≡ take f xs
whole f xs e = sym (take-append-drop f xs) ∙ (ap (λ ys. take f xs ++ ys) e ∙ append-nil (take f xs))

pub down-drop : {A : Type 0} (a f : ℕ) (xs : List A) → f ≤ length xs → drop f xs ≡ [] → drop (min a f) xs ≡ drop a (take f xs)
down-drop a f xs h e = ap (drop (min a f)) (whole f xs e) ∙ lower-drop a f xs h

pub waiting-none : (units : List Waiting) (words : List Word) → units ≡ [] → waiting units words ≡ Empty
waiting-none units words e = wait-empty units words (ap length e)
