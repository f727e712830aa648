-- A repair is found exactly when the run from scratch ends, and the first trace is that of the run.
use Rattle.std.proofs.Common.{◌≡◌, ℕ, zero, suc, ◌+◌, ◌≤◌, true, Option, Some, None, List, [], ◌∷◌, ◌++◌, length, refl, sym, ap, ◌∙◌, subst, arith}
use Rattle.ceal_base.specs.Block.{Block}
use Rattle.ceal_base.specs.Finished.{Finished}
use Rattle.ceal_base.specs.Fitting.{inputs_fit}
use Rattle.ceal_base.specs.Trace.{Trace, Nothing, blocks_of, steps_of}
use Rattle.ceal_base.specs.declared.word.BlockId.{BlockId}
use Rattle.ceal_base.specs.declared.word.Word.{Word}
use Rattle.ceal_code.proofs.Replay.DeterminedRun.{cores-append}
use Rattle.ceal_code.proofs.TypedCode.FittingWords.{args-known}
use Rattle.ceal_code.proofs.Words.StepLocality.{next-known, stack-more}
use Rattle.ceal_code.proofs.Replay.ReplayedCall.{all-core, bases-self, started-alike, trace-law}
use Rattle.ceal_code.proofs.Words.SameIsEqual.{some-same, none-some}
use Rattle.ceal_code.specs.Determined.{Determined}
use Rattle.ceal_code.specs.Fitting.{Fits}
use Rattle.ceal_code.specs.Fresh.{fresh}
use Rattle.ceal_code.specs.Program.{Code}
use Rattle.ceal_code.specs.Replay.{Yields, count, Distinct, core_numbers, input_plain, plain_after, plain_of, bases, Replays, IsHonest}
use Rattle.ceal_code.specs.Step.{Stack, started}
use Rattle.ceal_theory.proofs.Repair.DistinctBlocks.{past, named-most, anew-uses}
use Rattle.ceal_theory.proofs.Repair.FromScratch.{take-none, read-none, scratch-first}
use Rattle.ceal_theory.proofs.Repair.FunctionOfRules.{adjusted-sound, adjusted-found, first-sound, first-found}
use Rattle.ceal_theory.proofs.Repair.RepairInvariant.{Extends, FreeFrom, Good}
use Rattle.ceal_theory.proofs.Store.WordsGrow.{own-single, anew-grows}
use Rattle.ceal_theory.proofs.Repair.Honesty.{fix-work, anew-honest}
use Rattle.ceal_theory.proofs.Store.FittingInputs.{inputs-hold, bases-known, no-core, started-known, fits-more}
use Rattle.ceal_theory.proofs.Repair.RepairReplays.{known-new, yields-new, mentions-new, held-new, free, adjust-replays, adjust-honest}
use Rattle.ceal_theory.proofs.Repair.RepairYields.{Left, anew-plays}
use Rattle.ceal_theory.proofs.Reuse.OldBlocksOnly.{yields-sure}
use Rattle.ceal_theory.proofs.Repair.YieldsByStep.{yields-told}
use Rattle.ceal_theory.proofs.Repair.Existence.{Like, FixTotal, fix-total, acts}
use Rattle.ceal_theory.proofs.Repair.Uniqueness.{inputs-alike, same-steps}
use Rattle.ceal_theory.proofs.Store.WordsOfWalk.{Walked, walked}
use Rattle.ceal_theory.specs.Adjust.{FirstsAs, Extended, Above, Adjusts, Firsts}
use Rattle.ceal_theory.specs.Computed.{Repaired, adjusted, first_of}
use Rattle.ceal_theory.specs.Laws.{numbers, FirstTrace, FirstOutcome}
use Rattle.ceal_theory.specs.Repair.{own, Single, State, begins, works, Reruns}

-- where nothing is left over, each step is made again
first-work : {code : Code} {s s' : State} {st : Stack} {old new left : Trace} → Reruns code own s st old s' new left → old ≡ Nothing → (left ≡ Nothing) × (s'.work ≡ s.work + steps_of new)
first-work (Reruns.over e) o = (o, omega arith)
first-work (Reruns.quiet e a) o = let q = first-work a o in (q.0, omega (arith, q.1))
first-work (Reruns.takes_alloc {key = key} {t = t} e w a) o = none-some t (sym (take-none key) ∙ rw o at w)
first-work (Reruns.makes e w a) o = let q = first-work a o in (q.0, omega (arith, q.1))
first-work (Reruns.writes e a) o = let q = first-work a o in (q.0, omega (arith, q.1))
first-work (Reruns.takes_read {p = p} {u = u} {v = v} {args = args} {r = r} e w m a) o = none-some r (sym (read-none p u v args) ∙ rw o at w)
first-work (Reruns.reads e w m a) o = let q1 = first-work m o in let q2 = first-work a q1.0 in (q2.0, omega (arith, q1.1, q2.1))

numbers-append : (from n m to : ℕ) → to ≡ from + n → numbers from (n + m) ≡ numbers from n ++ numbers to m
numbers-append from zero m to e = let i : 0 + m ≡ m = omega arith in let j : from ≡ to = omega (arith, e) in rw (i, j)
numbers-append from (suc n) m to e =
    let i : suc n + m ≡ suc (n + m) = omega arith in
    rw i (ap (λ ns. from ∷ ns) (numbers-append (from + 1) n m to (omega (arith, e))))

-- and each block is new
record NewBlocks (s s' : State) (bs : List BlockId) (left : Trace) : Type 0 where
  pub left' : left ≡ Nothing
  pub many : ℕ
  pub after : s'.number ≡ s.number + many
  pub blocks : core_numbers bs ≡ numbers s.number many

new-both : (s t s' : State) (bs cs : List BlockId) (between left : Trace) → NewBlocks s t bs between → NewBlocks t s' cs left → NewBlocks s s' (bs ++ cs) left
new-both s t s' bs cs between left q1 q2 = record {
  left' = q2.left';
  many = q1.many + q2.many;
  after = omega (arith, q1.after, q2.after);
  blocks = cores-append bs cs ∙ (ap (λ ns. ns ++ core_numbers cs) q1.blocks ∙ (ap (λ ns. numbers s.number q1.many ++ ns) q2.blocks ∙ sym (numbers-append s.number q1.many q2.many t.number q1.after)));
}

first-blocks : {code : Code} {s s' : State} {st : Stack} {old new left : Trace} → Reruns code own s st old s' new left → old ≡ Nothing → NewBlocks s s' (blocks_of new) left
first-blocks (Reruns.over e) o = record { left' = o; many = 0; after = omega arith; blocks = refl }
first-blocks (Reruns.quiet e a) o = let q = first-blocks a o in record { left' = q.left'; many = q.many; after = q.after; blocks = q.blocks }
first-blocks (Reruns.takes_alloc {key = key} {t = t} e w a) o = none-some t (sym (take-none key) ∙ rw o at w)
first-blocks {s = s} (Reruns.makes e w a) o =
    let q = first-blocks a o in record { left' = q.left'; many = suc q.many; after = omega (arith, q.after); blocks = ap (λ ns. s.number ∷ ns) q.blocks }
first-blocks (Reruns.writes e a) o = let q = first-blocks a o in record { left' = q.left'; many = q.many; after = q.after; blocks = q.blocks }
first-blocks (Reruns.takes_read {p = p} {u = u} {v = v} {args = args} {r = r} e w m a) o = none-some r (sym (read-none p u v args) ∙ rw o at w)
first-blocks {s = s} {s' = s'} {left = left} (Reruns.reads {t = t} {between = between} {inside' = i} {new = l} e w m a) o = go (first-blocks m o) (λ e. first-blocks a e)
  where
    go : NewBlocks (works s) t (blocks_of i) between → (between ≡ Nothing → NewBlocks t s' (blocks_of l) left) → NewBlocks s s' (blocks_of i ++ blocks_of l) left
    go q f = new-both s t s' (blocks_of i) (blocks_of l) between left (record { left' = q.left'; many = q.many; after = q.after; blocks = q.blocks }) (f q.left')

length-numbers : (from n : ℕ) → length (numbers from n) ≡ n
length-numbers from zero = refl
length-numbers from (suc n) = ap suc (length-numbers (from + 1) n)

-- a first trace whose blocks have any names
module _ (code : Code) (inputs : List Block) (f : ℕ) (args : List Word) (fits : Fits code inputs f args)
    (names : ℕ → ℕ) (single : Single names) (new : Trace) (work : ℕ)
    (a : FirstsAs code inputs names f args new work) where
  none-known : FreeFrom names (input_plain code inputs) 0
  none-known k h = no-core code inputs (names k)

  begun : Good names (length inputs) [] (begins code inputs (input_plain code inputs) 0)
  begun = record { plain = inputs-hold code inputs fits.blocks; store = bases-known code inputs fits.blocks; free = none-known }

  grown : Extends (input_plain code inputs) a.after.plain
  grown = (anew-grows single a.anew none-known).plain

  played : Left names single code (length inputs) a.after.plain [] (started code f args) new a.left a.after
  played = anew-plays names single code (length inputs) a.after.plain a.anew (λ b block e. e) [] begun (started-known (length inputs) [] code f args (args-known code inputs f args fits)) tt

  walk : Walked code (length inputs) (input_plain code inputs) a.after.plain (started code f args) new played.known
  walk = walked code (length inputs) a.after.plain played.yields [] played.known (input_plain code inputs) (inputs-hold code inputs fits.blocks) grown
      (started-known (length inputs) [] code f args (args-known code inputs f args fits)) played.mentions

  yields : Yields code (plain_of code inputs new) (started code f args) new
  unfolding plain_of
  yields = walk.yields (plain_after code (input_plain code inputs) new) (λ b block e. e)

  pub first-words : Extends (plain_of code inputs new) a.after.plain
  unfolding plain_of
  first-words = walk.within

module _ (code : Code) (inputs : List Block) (f : ℕ) (args : List Word) (fits : Fits code inputs f args) (new : Trace) (work : ℕ) (a : Firsts code inputs f args new work) where
  apart : Distinct (core_numbers (blocks_of new))
  apart b = omega (arith, anew-uses code b a.anew, named-most own own-single a.after.number b)

  pub first-replays : Replays code inputs f args new
  first-replays =
      let p = played code inputs f args fits own own-single new work a in
      record { yields = yields code inputs f args fits own own-single new work a; distinct = apart; known = p.known; mentions = p.mentions }

  pub first-honest : IsHonest code inputs new
  first-honest = record { after = a.after.store; walk = anew-honest a.anew }

  pub first-steps : steps_of new ≡ work
  first-steps = omega (arith, (first-work a.anew refl).1, a.counted)

  -- the run from scratch that it is the trace of
  pub first-run : Determined code inputs f args new first-honest.after
  first-run = trace-law code inputs f args fits new first-replays first-honest

  pub first-trace : (n : ℕ) → work ≤ n → (r : Finished) → fresh code f args inputs n ≡ Some r → FirstTrace code inputs f args (record { items = new; work = work }) r
  first-trace n k r e =
      let is = some-same (record { memory = first-run.memory; steps = steps_of new; blocks = length (blocks_of new) }) r (sym (first-run.ends n (omega (arith, k, first-steps))) ∙ e) in
      subst (λ r. FirstTrace code inputs f args (record { items = new; work = work }) r) is (record {
        replays = first-replays;
        honest = first-honest;
        work = sym first-steps;
        steps = refl;
        blocks = blocks;
        memory = first-run.same;
      })
    where
      blocks : core_numbers (blocks_of new) ≡ numbers 0 (length (blocks_of new))
      blocks =
          let q = first-blocks a.anew refl in
          let many : q.many ≡ length (blocks_of new) = sym (length-numbers 0 q.many) ∙ (ap length (sym q.blocks) ∙ all-core first-replays.yields) in
          q.blocks ∙ ap (numbers 0) many

module _ (code : Code) (inputs : List Block) (f : ℕ) (args : List Word) (fits : Fits code inputs f args) (n : ℕ) where
  first-by : (o : Option Repaired) (q : Option Finished) → first_of code inputs n f args ≡ o → fresh code f args inputs n ≡ q → FirstOutcome code inputs f args o q
  first-by None None e g = FirstOutcome.none
  first-by (Some a) None e g =
      let s = first-sound code inputs n f args a e in
      let d = first-run code inputs f args fits a.items a.work s.0 in
      none-some _ (sym g ∙ d.ends n (omega (arith, s.1, first-steps code inputs f args fits a.items a.work s.0)))
  first-by None (Some r) e g =
      let q = scratch-first code inputs f args fits n r g in none-some _ (sym e ∙ first-found code inputs n f args q.0 r.steps q.1 q.2)
  first-by (Some a) (Some r) e g =
      let s = first-sound code inputs n f args a e in FirstOutcome.some (first-trace code inputs f args fits a.items a.work s.0 n s.1 r g)

  -- the first trace is there exactly when the run from scratch ends
  pub first-law : FirstOutcome code inputs f args (first_of code inputs n f args) (fresh code f args inputs n)
  first-law = first-by (first_of code inputs n f args) (fresh code f args inputs n) refl refl

module _ (code : Code) (old new : List Block) (f : ℕ) (args : List Word) (fits : Fits code old f args) (fit : inputs_fit code.structs new ≡ true) (more : Extended code old new)
    (l : Trace) (r : Replays code old f args l) (number : ℕ) (low : Above number l) where
  fits-new : Fits code new f args
  fits-new = fits-more code old new more f args fits fit

  module _ (m : Trace) (r' : Replays code new f args m) (h : IsHonest code new m) where
    below-next : (b : ℕ) → count b (core_numbers (blocks_of l)) ≤ past number b
    below-next b = go (past number b) refl
      where
        go : (k : ℕ) → past number b ≡ k → count b (core_numbers (blocks_of l)) ≤ past number b
        go zero e = omega (arith, low b (omega arith))
        go (suc k) e = omega (arith, r.distinct b)

    start-like : Like code (length new) r.known (plain_of code new m) [] (begins code new (plain_of code new l) number) (bases code new) (blocks_of l) (blocks_of m) (λ b. 0) (λ b. 0)
    start-like = record {
      plain = inputs-alike code new fit (yields-new code old new f args fits fit more l r) r'.yields [] (λ b c t. elim t [ ]);
      store = bases-self code new [] fit;
      holds = held-new code old new f args fits fit more l r;
      free = free code old new f args fits fit more l r own number low;
      lefts' = λ b. omega (arith, below-next b);
      rights' = λ c. omega (arith, r'.distinct c);
    }

    total : FixTotal code (length new) r.known (plain_of code new m) [] (begins code new (plain_of code new l) number) l h.after (λ b. 0) (λ b. 0)
    total =
        fix-total code (length new) r.known (plain_of code new m) (yields-told code (plain_of code new m) r'.yields) []
        (acts code (length new) r.known (plain_of code new m) [] (begins code new (plain_of code new l) number) (bases code new) (blocks_of l) (blocks_of m) (λ b. 0) (λ b. 0) start-like
        (started-alike code (length new) [] f args (known-new code old new f args fits fit more l r)))
        (begins code new (plain_of code new l) number)
        (yields-told code (plain_of code new l) (yields-new code old new f args fits fit more l r))
        (yields-sure code (length new) r.known (plain_of code new l) (yields-new code old new f args fits fit more l r) [] r.known (mentions-new code old new f args fits fit more l r) (λ b i. i))
        (next-known (length new) r.known (plain_of code new l) start-like.holds (plain_of code new l) (λ b i. refl) code (started code f args)
        (stack-more (length new) [] r.known (λ b i. elim i [ ]) (started code f args) (started-known (length new) [] code f args (known-new code old new f args fits fit more l r))))
        h.walk (λ b. 0) (λ b. 0) start-like

    -- there is a repair
    there : Adjusts code new number l total.items total.state.work
    there = record { after = total.state; fix = total.fix; counted = refl }

    -- each repair has as many steps as the honest trace, so it has no more work than those
    adjust-steps : (l' : Trace) (work : ℕ) → Adjusts code new number l l' work → (steps_of l' ≡ steps_of m) × work ≤ steps_of m
    adjust-steps l' work a =
        let e = same-steps code new f args fits-new l' m
        (adjust-replays code old new f args fits fit more l r number low l' work a) r' (adjust-honest code old new f args fits fit more l r number low l' work a) h in
        (e, omega (arith, fix-work a.fix, a.counted, e))

    -- so the function finds it, where its bound is no less than the steps of the honest trace
    pub found : (n : ℕ) → steps_of m ≤ n → (a : Repaired) × (adjusted code new number n l ≡ Some a) × (steps_of a.items ≡ steps_of m) × a.work ≤ steps_of m
    found n k =
        let s = adjust-steps total.items total.state.work there in
        (record { items = total.items; work = total.state.work }, adjusted-found code new number n l total.items total.state.work there (omega (arith, k, s.1)), s.0, s.1)

  -- where the run from scratch ends, the repair is found
  pub repaired : (n : ℕ) (q : Finished) → fresh code f args new n ≡ Some q → (a : Repaired) × (adjusted code new number n l ≡ Some a) × (steps_of a.items ≡ q.steps) × a.work ≤ q.steps
  repaired n q e =
      let s = scratch-first code new f args fits-new n q e in
      let steps = first-steps code new f args fits-new s.0 q.steps s.1 in
      let t = found s.0 (first-replays code new f args fits-new s.0 q.steps s.1) (first-honest code new f args fits-new s.0 q.steps s.1) n (omega (arith, s.2, steps)) in
      (t.0, t.1, t.2 ∙ steps, omega (arith, t.3, steps))

  -- and where it is found, with n steps at most, the run ends
  pub ended : (n : ℕ) (a : Repaired) → adjusted code new number n l ≡ Some a → steps_of a.items ≤ n → (q : Finished) × (fresh code f args new n ≡ Some q) × (q.steps ≡ steps_of a.items)
  ended n a e k =
      let s = (adjusted-sound code new number n l a e).0 in
      let d = trace-law code new f args fits-new a.items
      (adjust-replays code old new f args fits fit more l r number low a.items a.work s)
      (adjust-honest code old new f args fits fit more l r number low a.items a.work s) in
      (record { memory = d.memory; steps = steps_of a.items; blocks = length (blocks_of a.items) }, d.ends n k, refl)
