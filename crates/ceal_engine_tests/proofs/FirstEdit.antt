-- A first trace is one that may be edited.
use Rattle.std.proofs.Common.{◌≡◌, ℕ, zero, suc, ◌+◌, ◌≤◌, ◌==◌, Bool, true, false, if◌then◌else◌, Option, Some, List, [], ◌∷◌, ◌++◌, length, refl, ap, ◌∙◌, subst, arith}
use Rattle.ceal_base.specs.Block.{Block}
use Rattle.ceal_base.specs.Finished.{Finished}
use Rattle.ceal_base.specs.Fitting.{inputs_fit}
use Rattle.ceal_base.specs.Trace.{Trace, flat, steps_of, blocks_of}
use Rattle.ceal_base.specs.declared.forest.Item.{Item}
use Rattle.ceal_base.specs.declared.word.Word.{Word}
use Rattle.ceal_code.proofs.Replay.ReplayedCall.{all-core}
use Rattle.ceal_code.proofs.Words.SameIsEqual.{some-same, none-some}
use Rattle.ceal_code.specs.Fitting.{Fits}
use Rattle.ceal_code.specs.Fresh.{fresh}
use Rattle.ceal_code.specs.Program.{Code}
use Rattle.ceal_code.specs.Replay.{Yields, count}
use Rattle.ceal_code.specs.Step.{Stack}
use Rattle.ceal_code.specs.Value.{Plain}
use Rattle.ceal_theory.specs.Adjust.{Extended}
use Rattle.ceal_adjust.specs.Answers.{IsRepair}
use Rattle.ceal_theory.specs.Computed.{Repaired, first_of}
use Rattle.ceal_theory.specs.Laws.{Edited, FirstLaw, FirstTrace, FirstOutcome, numbers}

-- each block has a step of its own
blocks-steps : {code : Code} {x : Plain} {st : Stack} {l : Trace} → Yields code x st l → length (blocks_of l) ≤ steps_of l
blocks-steps (Yields.over e) = omega arith
blocks-steps (Yields.quiet e y) = omega (arith, blocks-steps y)
blocks-steps (Yields.makes e h y) = omega (arith, blocks-steps y)
blocks-steps (Yields.writes e y) = omega (arith, blocks-steps y)
blocks-steps (Yields.reads {inside = i} {rest = l} e y z) = omega (arith, blocks-steps y, blocks-steps z, append (blocks_of i) (blocks_of l))
  where
    append : {A : Type 0} (xs ys : List A) → length (xs ++ ys) ≡ length xs + length ys
    append [] ys = omega arith
    append (x ∷ xs) ys = omega (arith, append xs ys)

length-numbers : (from n : ℕ) → length (numbers from n) ≡ n
length-numbers from zero = refl
length-numbers from (suc n) = ap suc (length-numbers (from + 1) n)

at-if : (b c n : ℕ) (test : Bool) → (c == b) ≡ test → n ≡ 0 → suc c ≤ b → (if test then 1 else 0) + n ≡ 0
at-if b c n false e z k = omega (arith, z)
at-if b c n true e z k = absurd (grind (arith, e, k))

numbers-below : (b from n : ℕ) → from + n ≤ b → count b (numbers from n) ≡ 0
numbers-below b from zero k = refl
numbers-below b from (suc n) k =
    at-if b from (count b (numbers (from + 1) n)) (from == b) refl (numbers-below b (from + 1) n (omega (arith, k))) (omega (arith, k))

module _ (code : Code) (inputs : List Block) (f : ℕ) (args : List Word) where
  first-told : {o : Option Repaired} {q : Option Finished} (a : Repaired) (r : Finished) → FirstOutcome code inputs f args o q → o ≡ Some a → q ≡ Some r
      → FirstTrace code inputs f args a r
  first-told a r FirstOutcome.none e g = none-some a e
  first-told a r (FirstOutcome.some {a = b} {r = s} t) e g =
      subst (λ a. FirstTrace code inputs f args a r) (some-same b a e) (subst (λ r. FirstTrace code inputs f args b r) (some-same s r g) t)

  -- a first trace is one that may be edited, and no block has a number from its work on
  pub first-edited : FirstLaw → (new : List Block) (n : ℕ) (forest : List Item) (work : ℕ) → Fits code inputs f args → inputs_fit code.structs new ≡ true → Extended code inputs new
      → IsRepair forest work (first_of code inputs n f args) (fresh code f args inputs n) → (l : Trace) × (forest ≡ flat l) × Edited code inputs new f args l work
  first-edited law new n forest work fits fit more h =
      let t = first-told (record { items = h.items; work = work }) h.finished (law code inputs f args fits n) h.same h.ends in
      let few : h.finished.blocks ≤ work = omega (arith, blocks-steps t.replays.yields, all-core t.replays.yields, ap length t.blocks, length-numbers 0 h.finished.blocks, t.work, t.steps) in (
        h.items,
        h.flat_form,
        record {
          call = fits;
          fit = fit;
          extended = more;
          trace = t.replays;
          above = λ b k. ap (count b) t.blocks ∙ numbers-below b 0 h.finished.blocks (omega (arith, few, k));
        },
      )
