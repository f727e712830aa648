-- Turns of a walk, case by case.
use Rattle.std.proofs.Common.{◌≡◌, ℕ, Bool, false, Some, None, List, [], ◌∷◌, ◌++◌, map, length, IsTrue, refl, sym, ap, subst, arith}
use Rattle.std.proofs.lemmas.Bool.{false≢true}
use Rattle.std.proofs.lemmas.List.{reverse-append}
use Rattle.ceal_base.specs.declared.forest.Item.{Item}
use Rattle.ceal_base.specs.declared.forest.Item.TheVariants.{Step, Alloc, Write, Read, End}
use Rattle.ceal_base.specs.declared.forest.Key.{Key}
use Rattle.ceal_base.specs.declared.forest.UnitId.{UnitId}
use Rattle.ceal_base.specs.declared.word.BlockId.TheVariants.{Core}
use Rattle.ceal_base.specs.declared.word.Place.{Place}
use Rattle.ceal_base.specs.declared.word.Word.{Word}
use Rattle.ceal_code.specs.Init.{arguments, pointer}
use Rattle.ceal_code.specs.Program.{Code}
use Rattle.ceal_code.specs.Stacks.{over, stack_in}
use Rattle.ceal_code.specs.Step.{Stack, Empty, Run, Act, Over, Quiet, Makes, Writes, Reads, entered, words_after_read, next}
use Rattle.ceal_code.specs.Value.{Plain, Variables, set}
use Rattle.ceal_code.specs.declared.stack.Activation.{Activation}
use Rattle.ceal_code.specs.declared.stack.Stack.{Stack as CodeStack}
use Rattle.ceal_traceck.specs.Walk.{Accepts, waiting, Turned}

pub waiting-none : waiting [] ≡ []
unfolding waiting
waiting-none = refl

pub waiting-push : (stacks : List CodeStack) (s : CodeStack) → waiting (stacks ++ s ∷ []) ≡ stack_in s ∷ waiting stacks
unfolding waiting
waiting-push stacks s = ap (map stack_in) (reverse-append stacks (s ∷ []))

pub waiting-empty : (stacks : List CodeStack) → length stacks ≡ 0 → waiting stacks ≡ []
unfolding waiting
waiting-empty [] e = refl
waiting-empty (s ∷ stacks) e = absurd (omega (arith, e))

-- a unit over others, part by part
pub over-is : (a : Activation) (u i : ℕ) (env : Variables) (st : Stack) → a.unit ≡ u → a.index ≡ i → arguments a.env.items ≡ env → over a st ≡ Run u i env st
over-is a u i env st e f g = rw (e, f, g) refl

-- it is told that nothing is right
pub told-false : (before after : Type 0) → (before → ⊥) → Turned (Some false) before after
told-false before after absent = (λ t. absurd (false≢true t), λ h. absurd (absent h))

module _ (code : Code) (x : Plain) where
  -- what items are that are accepted
  abbrev pub Begins : Act → List Stack → List Item → Type 0
  Begins Over [] is = is ≡ []
  Begins Over (st ∷ below) is = (js : List Item) × (is ≡ End ∷ js) × Accepts code x (next code x st) below js
  Begins (Quiet st) below is = (js : List Item) × (is ≡ Step ∷ js) × Accepts code x (next code x st) below js
  Begins (Makes key v u i env st) below is =
      (b : ℕ) × (js : List Item) × (is ≡ Step ∷ Alloc (Core b) key ∷ js) × Accepts code x (next code x (Run u i (set env v (pointer key (Core b))) st)) below js
  Begins (Writes p w st) below is = (js : List Item) × (is ≡ Step ∷ Write p w ∷ js) × Accepts code x (next code x st) below js
  Begins (Reads p u v args st) below is =
      (w : Word) × (js : List Item) × (is ≡ Step ∷ Read p w u v args ∷ js) × Accepts code x (next code x (entered code u.0 (words_after_read code u.0 v args w) Empty)) (st ∷ below) js

  pub begins : {a : Act} {below : List Stack} {is : List Item} → Accepts code x a below is → Begins a below is
  begins Accepts.ends = refl
  begins (Accepts.closes {is = is} h) = (is, refl, h)
  begins (Accepts.quiet {is = is} h) = (is, refl, h)
  begins (Accepts.makes {b = b} {is = is} h) = (b, is, refl, h)
  begins (Accepts.writes {is = is} h) = (is, refl, h)
  begins (Accepts.reads {value = w} {is = is} h) = (w, is, refl, h)

  pub over-right : (below : List Stack) (is : List Item) (told : Bool) (after : Type 0) → below ≡ [] →
      (IsTrue told → is ≡ []) → (is ≡ [] → IsTrue told) → Turned (Some told) (Accepts code x Over below is) after
  over-right below is told after e f g = rw e (λ t. rw (f t) Accepts.ends, λ h. g (begins h))

  pub over-wrong : (st : Stack) (below all : List Stack) (is : List Item) (after : Type 0) → all ≡ st ∷ below →
      ((js : List Item) → is ≡ End ∷ js → ⊥) → Turned (Some false) (Accepts code x Over all is) after
  over-wrong st below all is after e absent = rw e (told-false (Accepts code x Over (st ∷ below) is) after (λ h. let q = begins h in absent q.0 q.1))

  pub over-more : (st : Stack) (below all : List Stack) (is js : List Item) → all ≡ st ∷ below → is ≡ End ∷ js → Turned None (Accepts code x Over all is) (Accepts code x (next code x st) below js)
  over-more st below all is js e k =
      rw (e, k) (
        λ h. let q = begins h in let same : js ≡ q.0 = cc (q.1) in rw same q.2,
        λ h. Accepts.closes h,
      )

  pub quiet-more : (st : Stack) (below : List Stack) (is js : List Item) → is ≡ Step ∷ js → Turned None (Accepts code x (Quiet st) below is) (Accepts code x (next code x st) below js)
  quiet-more st below is js k =
      rw k (
        λ h. let q = begins h in let same : js ≡ q.0 = cc (q.1) in rw same q.2,
        λ h. Accepts.quiet h,
      )

  pub makes-more : (key : Key) (v u i : ℕ) (env : Variables) (st st' : Stack) (below : List Stack)
      (is js ks : List Item) (b : ℕ) → is ≡ Step ∷ js → js ≡ Alloc (Core b) key ∷ ks → st' ≡ Run u i
      (set env v (pointer key (Core b))) st
      → Turned None (Accepts code x (Makes key v u i env st) below is) (Accepts code x (next code x st') below ks)
  makes-more key v u i env st st' below is js ks b e f g =
      rw (e, f, g) (
        λ h. let q = begins h in let same : ks ≡ q.1 = cc (q.2) in let number : b ≡ q.0 = cc (q.2) in
            subst (λ b. Accepts code x (next code x (Run u i (set env v (pointer key (Core b))) st)) below ks) (sym number)
            (subst (λ js. Accepts code x (next code x (Run u i (set env v (pointer key (Core q.0))) st)) below js) (sym same) q.3),
        λ h. Accepts.makes h,
      )

  pub writes-more : (p : Place) (w : Word) (st : Stack) (below : List Stack) (is js ks : List Item) → is ≡ Step ∷ js
      → js ≡ Write p w ∷ ks → Turned None (Accepts code x (Writes p w st) below is)
      (Accepts code x (next code x st) below ks)
  writes-more p w st below is js ks e f =
      rw (e, f) (
        λ h. let q = begins h in let same : ks ≡ q.0 = cc (q.1) in rw same q.2,
        λ h. Accepts.writes h,
      )

  pub reads-more : (p : Place) (u : UnitId) (v : ℕ) (args : List Word) (w : Word) (st st' bottom : Stack) (below all : List Stack) (is js ks : List Item) → is ≡ Step ∷ js → js ≡ Read p w u v args ∷ ks
      → st' ≡ entered code u.0 (words_after_read code u.0 v args w) bottom → bottom ≡ Empty → all ≡ st ∷ below
      → Turned None (Accepts code x (Reads p u v args st) below is) (Accepts code x (next code x st') all ks)
  reads-more p u v args w st st' bottom below all is js ks e f g k l =
      rw (e, f, g, k, l) (
        λ h. let q = begins h in let same : ks ≡ q.1 = cc (q.2) in let word : w ≡ q.0 = cc (q.2) in
            subst (λ w. Accepts code x (next code x (entered code u.0 (words_after_read code u.0 v args w) Empty)) (st ∷ below) ks) (sym word)
            (subst (λ js. Accepts code x (next code x (entered code u.0 (words_after_read code u.0 v args q.0) Empty)) (st ∷ below) js) (sym same) q.3),
        λ h. Accepts.reads h,
      )
