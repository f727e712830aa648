-- Where a run from scratch ends: at a state that it has reached, and with the inputs in number that it began with.
use Rattle.std.proofs.Common.{◌≡◌, ℕ, zero, suc, ◌+◌, ◌≤◌, arith, sym, Option, Some, None, List, [], ◌∷◌, length, refl, ap, ◌∙◌, subst, slice_get, slice_set}
use Rattle.ceal_base.specs.Block.{Block, Blocks, block_at, with_field, written_at}
use Rattle.ceal_base.specs.Finished.{Finished}
use Rattle.ceal_base.specs.declared.word.BlockId.{BlockId}
use Rattle.ceal_base.specs.declared.word.BlockId.TheVariants.{Input, Core}
use Rattle.ceal_base.specs.declared.word.Word.{Word}
use Rattle.ceal_code.proofs.Words.SameIsEqual.{some-same, none-some}
use Rattle.ceal_code.specs.Fresh.{ran, only_over, run, fresh}
use Rattle.ceal_code.specs.Laws.{Ended, GoesFurther, EndedLaw, StateLaw, InputsLaw}
use Rattle.ceal_code.specs.Program.{Code}
use Rattle.ceal_code.specs.Running.{Steps, Reaches, Takes}
use Rattle.ceal_code.specs.Step.{Stack, Act, Over, Quiet, Makes, Writes, Reads, started, next}

takes-reaches : (code : Code) (m : Blocks) (st : Stack) (k : ℕ) (m' : Blocks) (st' : Stack) → Takes code m st k m' st' → Reaches code m st m' st'
takes-reaches code m st k m' st' Takes.none = Reaches.begin
takes-reaches code m st k m' st' (Takes.more {k = j} {m' = n} {st' = s} h step) = Reaches.step (takes-reaches code m st j n s h) step

module _ (code : Code) (m0 : Blocks) (st0 : Stack) where
  -- at the end of a run
  abbrev AtEnd : Finished → Type 0
  AtEnd r = (stack : Stack) × Takes code m0 st0 r.steps r.memory stack × (next code (block_at r.memory) stack ≡ Over)

  -- after k steps, and not at the end
  abbrev Before : ℕ → Type 0
  Before k = (m : Blocks) × (stack : Stack) × Takes code m0 st0 k m stack × (next code (block_at m) stack ≡ Over → ⊥)

  over-ends : (steps : ℕ) (m : Blocks) (st : Stack) (a : Act) (r : Finished) → next code (block_at m) st ≡ a → Takes code m0 st0 steps m st
      → only_over steps m a ≡ Some r → AtEnd r × (r.steps ≡ steps)
  over-ends steps m st Over r i h e =
      let same : record { memory = m; steps = steps; blocks = length m.made } ≡ r = some-same (record { memory = m; steps = steps; blocks = length m.made }) r e in
      (subst AtEnd same (st, h, i), sym (ap (λ (r : Finished). r.steps) same))
  over-ends steps m st (Quiet after) r i h e = none-some r e
  over-ends steps m st (Makes key v u j env under) r i h e = none-some r e
  over-ends steps m st (Writes p value after) r i h e = none-some r e
  over-ends steps m st (Reads p u v args under) r i h e = none-some r e

  over-before : (steps : ℕ) (m : Blocks) (st : Stack) (a : Act) → next code (block_at m) st ≡ a → Takes code m0 st0 steps m st
      → only_over steps m a ≡ None → Before steps
  over-before steps m st Over i h e = none-some _ (sym e)
  over-before steps m st (Quiet after) i h e = (m, st, h, (λ k. let no : Quiet after ≡ Over = sym i ∙ k in absurd (cc)))
  over-before steps m st (Makes key v u j env under) i h e = (m, st, h, (λ k. let no : Makes key v u j env under ≡ Over = sym i ∙ k in absurd (cc)))
  over-before steps m st (Writes p value after) i h e = (m, st, h, (λ k. let no : Writes p value after ≡ Over = sym i ∙ k in absurd (cc)))
  over-before steps m st (Reads p u v args under) i h e = (m, st, h, (λ k. let no : Reads p u v args under ≡ Over = sym i ∙ k in absurd (cc)))

  -- where the run with this fuel comes to
  abbrev Comes : ℕ → ℕ → Option Finished → Type 0
  Comes fuel steps None = Before (steps + fuel)
  Comes fuel steps (Some r) = AtEnd r × (r.steps ≤ steps + fuel)

  comes-on : (fuel steps : ℕ) (o : Option Finished) → Comes fuel (steps + 1) o → Comes (suc fuel) steps o
  comes-on fuel steps None h = let same : (steps + 1) + fuel ≡ steps + suc fuel = omega arith in subst Before same h
  comes-on fuel steps (Some r) h = (h.0, omega (arith, h.1))

  comes-over : (fuel steps : ℕ) (m : Blocks) (st : Stack) → next code (block_at m) st ≡ Over → Takes code m0 st0 steps m st
      → Comes fuel steps (Some (record { memory = m; steps = steps; blocks = length m.made }))
  comes-over fuel steps m st i h = ((st, h, i), omega arith)

  comes-to : (fuel steps : ℕ) (m : Blocks) (st : Stack) → Takes code m0 st0 steps m st → Comes fuel steps (run code fuel steps m st)
  unfolding run
  comes-to zero steps m st h = go (only_over steps m (next code (block_at m) st)) refl
    where
      go : (o : Option Finished) → only_over steps m (next code (block_at m) st) ≡ o → Comes zero steps o
      go None e = let same : steps ≡ steps + 0 = omega arith in subst Before same (over-before steps m st (next code (block_at m) st) refl h e)
      go (Some r) e = let ends = over-ends steps m st (next code (block_at m) st) r refl h e in (ends.0, omega (arith, ends.1))
  comes-to (suc fuel) steps m st h = go (comes-to fuel) (next code (block_at m) st) refl
    where
      go : ((steps : ℕ) (m : Blocks) (st : Stack) → Takes code m0 st0 steps m st → Comes fuel steps (run code fuel steps m st))
          → (a : Act) → next code (block_at m) st ≡ a → Comes (suc fuel) steps (ran code (run code fuel (steps + 1)) steps m a)
      go ih Over i = comes-over (suc fuel) steps m st i h
      go ih (Quiet after) i = comes-on fuel steps _ (ih (steps + 1) m after (Takes.more h (Steps.quiet i)))
      go ih (Makes key v u j env under) i = comes-on fuel steps _ (ih (steps + 1) _ _ (Takes.more h (Steps.makes i)))
      go ih (Writes p value after) i = comes-on fuel steps _ (ih (steps + 1) (written_at m p.block p.field value) after (Takes.more h (Steps.writes i)))
      go ih (Reads p u v args under) i = comes-on fuel steps _ (ih (steps + 1) m _ (Takes.more h (Steps.reads i)))

-- a write leaves as many blocks as there were
length-set : {A : Type 0} (xs : List A) (n : ℕ) (x : A) → length (slice_set xs n x) ≡ length xs
length-set [] n x = refl
length-set (y ∷ xs) zero x = refl
length-set (y ∷ xs) (suc n) x = ap suc (length-set xs n x)

length-changed : (xs : List Block) (o : Option Block) (n f : ℕ) (w : Word) → length (with_field xs o n f w) ≡ length xs
length-changed xs None n f w = refl
length-changed xs (Some block) n f w = length-set xs n (record block { words = slice_set block.words f w })

inputs-written : (m : Blocks) (b : BlockId) (f : ℕ) (w : Word) → length (written_at m b f w).inputs ≡ length m.inputs
inputs-written m (Input n) f w = length-changed m.inputs (slice_get m.inputs n) n f w
inputs-written m (Core c) f w = refl

module _ (code : Code) where
  inputs-step : {m m' : Blocks} {st st' : Stack} → Steps code m st m' st' → length m'.inputs ≡ length m.inputs
  inputs-step (Steps.quiet e) = refl
  inputs-step (Steps.makes e) = refl
  inputs-step (Steps.writes {m = m} {p = p} {value = value} e) = inputs-written m p.block p.field value
  inputs-step (Steps.reads e) = refl

  inputs-reached : {m : Blocks} {st : Stack} {m' : Blocks} {st' : Stack} → Reaches code m st m' st' → length m'.inputs ≡ length m.inputs
  inputs-reached Reaches.begin = refl
  inputs-reached (Reaches.step r s) = inputs-step s ∙ inputs-reached r

module _ (code : Code) (inputs : List Block) (f : ℕ) (args : List Word) (fuel : ℕ) where
  abbrev begun : Blocks
  begun = record { inputs = inputs; made = [] }

  comes : Comes code begun (started code f args) fuel 0 (fresh code f args inputs fuel)
  unfolding fresh
  comes = comes-to code begun (started code f args) fuel 0 begun (started code f args) Takes.none

  unfinished : fresh code f args inputs fuel ≡ None → GoesFurther code inputs f args fuel
  unfinished h =
      let b = subst (Comes code begun (started code f args) fuel 0) h comes in
      let same : 0 + fuel ≡ fuel = omega arith in
      let takes : Takes code begun (started code f args) fuel b.0 b.1 = subst (λ k. Takes code begun (started code f args) k b.0 b.1) same b.2 in
      record { memory = b.0; stack = b.1; takes = takes; reaches = takes-reaches code begun (started code f args) fuel b.0 b.1 takes; goes_on = b.3 }

  module _ (r : Finished) (h : fresh code f args inputs fuel ≡ Some r) where
    ends : AtEnd code begun (started code f args) r × (r.steps ≤ 0 + fuel)
    ends = subst (Comes code begun (started code f args) fuel 0) h comes

    pub fresh-ends : Ended code inputs f args r
    fresh-ends =
        let e = ends.0 in
        record { stack = e.0; takes = e.1; reaches = takes-reaches code begun (started code f args) r.steps r.memory e.0 e.1; over = e.2 }

    fresh-within : r.steps ≤ fuel
    fresh-within = omega (arith, ends.1)

    pub fresh-count : length r.memory.inputs ≡ length inputs
    fresh-count = inputs-reached code fresh-ends.reaches

pub ended-law : EndedLaw
ended-law code inputs f args fuel r h = (fresh-ends code inputs f args fuel r h, fresh-within code inputs f args fuel r h)

pub state-law : StateLaw
state-law = unfinished

pub inputs-law : InputsLaw
inputs-law = fresh-count
