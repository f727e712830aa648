-- How many numbers are given out to core blocks: no more than there were blocks that could be read at a time.
use Rattle.std.proofs.Common.{◌≡◌, ◌≢◌, ◌<◌, ◌≤◌, ◌+◌, ◌⊎◌, ℕ, zero, suc, inl, inr, true, false, Some, None, List, [], ◌∷◌, ◌++◌, length, refl, sym, ap, subst, ◌∙◌, arith}
use Rattle.std.proofs.lemmas.Bool.{cases_lt}
use Rattle.std.proofs.lemmas.Bool.Decides.{eqb_tells}
use Rattle.std.proofs.lemmas.Option.{slice_get_past, slice_get_cases}
use Rattle.std.specs.Prelude.{Option, IsSome}
use Rattle.ceal_base.specs.Block.{Block}
use Rattle.ceal_base.specs.Trace.{Trace, blocks_of, steps_of}
use Rattle.ceal_base.specs.declared.kind.Shape.{Shape}
use Rattle.ceal_base.specs.declared.word.BlockId.{BlockId}
use Rattle.ceal_base.specs.declared.word.BlockId.TheVariants.{Input, Core}
use Rattle.ceal_base.specs.declared.word.Word.{Word}
use Rattle.ceal_code.specs.Program.{Code}
use Rattle.ceal_code.specs.Replay.{In, here, there, core_numbers}
use Rattle.ceal_heap.specs.Heap.{Contents, Standing, Unused, Live, Revoked, Released, IsFree, IsLive, IsMade, IsNew, KeepsBlocks, NoneReleased, ReleasesRevoked, block_of, known, next}
use Rattle.ceal_heap.specs.Heap.{number_standing, released, revoked, standing, state_standing}
use Rattle.ceal_heap.specs.declared.number.State.{State}
use Rattle.ceal_heap.specs.declared.number.State.TheVariants.{Live as LiveState, Revoked as RevokedState, Released as ReleasedState}
use Rattle.ceal_words.specs.SizeClass.{SizeClass}
use Rattle.ceal_repair.proofs.Nodes.NodeItems.{blocks-allocs}
use Rattle.ceal_repair.specs.Answers.{IsKeptRun}
use Rattle.ceal_repair.specs.Blocks.{KeepsReadable, GivesOne, HasFew, Given}
use Rattle.ceal_repair.specs.declared.running.Running.{Running}
use Rattle.ceal_theory.proofs.Work.ItemCounts.{count-law}
use Rattle.ceal_theory.specs.KnownContent.{allocs}

-- ---- the state of blocks tells how many numbers were given out

pub unused-past : (heap : Contents) (n : ℕ) → next heap ≤ n → standing heap (Core n) ≡ Unused
unused-past heap n l = ap (number_standing heap.region) (slice_get_past heap.numbers n l)

state-used : (region : List SizeClass) (shape : Shape) (s : State) → state_standing region shape s ≢ Unused
state-used region shape (LiveState held) e = absurd cc
state-used region shape (RevokedState held) e = absurd cc
state-used region shape ReleasedState e = absurd cc

pub used-below : (heap : Contents) (n : ℕ) → n < next heap → standing heap (Core n) ≢ Unused
used-below heap n l e = elim (slice_get_cases heap.numbers n).1 [
  | inl s ↦ state-used heap.region s.0.shape s.0.state (sym (ap (number_standing heap.region) s.2) ∙ e)
  | inr p ↦ absurd (omega (arith, l, p.0))
]

-- what is unused stays so
next-most : (before after : Contents) → ((n : ℕ) → standing before (Core n) ≡ Unused → standing after (Core n) ≡ Unused) → next after ≤ next before
next-most before after h = elim (cases_lt (next before) (next after)) [
  | inl l ↦ absurd (used-below after (next before) l (h (next before) (unused-past before (next before) (omega arith))))
  | inr l ↦ l
]

pub next-same : (before after : Contents) → ((n : ℕ) → standing before (Core n) ≡ Unused → standing after (Core n) ≡ Unused)
    → ((n : ℕ) → standing after (Core n) ≡ Unused → standing before (Core n) ≡ Unused) → next after ≡ next before
next-same before after h k = let a = next-most before after h in let b = next-most after before k in omega (arith, a, b)

released-unused : (s : Standing) → released s ≡ Unused → s ≡ Unused
released-unused Unused e = refl
released-unused (Live block) e = absurd cc
released-unused (Revoked block) e = absurd cc
released-unused (Released shape) e = absurd cc

-- blocks that are released wait for others
pub next-released : (before after : Contents) → ReleasesRevoked before after → next after ≡ next before
next-released before after h = next-same before after (λ n e. h (Core n) ∙ ap released e) (λ n e. released-unused (standing before (Core n)) (sym (h (Core n)) ∙ e))

revoked-unused : (s : Standing) → revoked s ≡ Unused → s ≡ Unused
revoked-unused Unused e = refl
revoked-unused (Live block) e = absurd cc
revoked-unused (Revoked block) e = absurd cc
revoked-unused (Released shape) e = absurd cc

-- so it is with a block that is revoked
pub next-revoked : (before after : Contents) (b : BlockId) → standing after b ≡ revoked (standing before b) → KeepsBlocks b before after → next after ≡ next before
next-revoked before after (Input i) gone others =
    next-same before after (λ n e. others (Core n) (λ q. absurd cc) ∙ e) (λ n e. sym (others (Core n) (λ q. absurd cc)) ∙ e)
next-revoked before after (Core b) gone others = next-same before after on back
  where
    on : (n : ℕ) → standing before (Core n) ≡ Unused → standing after (Core n) ≡ Unused
    on n e = elim (eqb_tells b n) [
      | inl p ↦ subst (λ c. standing after (Core c) ≡ Unused) p.1 (gone ∙ ap revoked (subst (λ c. standing before (Core c) ≡ Unused) (sym p.1) e))
      | inr p ↦ others (Core n) (λ q. p.1 (let same : b ≡ n = cc in same)) ∙ e
    ]

    back : (n : ℕ) → standing after (Core n) ≡ Unused → standing before (Core n) ≡ Unused
    back n e = elim (eqb_tells b n) [
      | inl p ↦ subst (λ c. standing before (Core c) ≡ Unused) p.1 (revoked-unused (standing before (Core b)) (sym gone ∙ subst (λ c. standing after (Core c) ≡ Unused) (sym p.1) e))
      | inr p ↦ sym (others (Core n) (λ q. p.1 (let same : b ≡ n = cc in same))) ∙ e
    ]

pub known-revoked : (s : Standing) → known (revoked s) ≡ known s
known-revoked Unused = refl
known-revoked (Live block) = refl
known-revoked (Revoked block) = refl
known-revoked (Released shape) = refl

-- a revoked block can still be read
pub alloc-readable : (b : BlockId) (before after : Contents) → standing after b ≡ revoked (standing before b) → KeepsBlocks b before after → (c : BlockId) → block_of after c ≡ block_of before c
alloc-readable b before after gone others (Input i) = refl
alloc-readable (Input i) before after gone others (Core n) = ap known (others (Core n) (λ q. absurd cc))
alloc-readable (Core b) before after gone others (Core n) = elim (eqb_tells b n) [
  | inl p ↦ subst (λ c. block_of after (Core c) ≡ block_of before (Core c)) p.1 (ap known gone ∙ known-revoked (standing before (Core b)))
  | inr p ↦ ap known (others (Core n) (λ q. p.1 (let same : b ≡ n = cc in same)))
]

-- a heap that is new gave out none
pub next-new : (heap : Contents) → IsNew heap → next heap ≤ 0
next-new heap new = elim (cases_lt 0 (next heap)) [
  | inl l ↦ absurd (used-below heap 0 l (new.blocks (Core 0)))
  | inr l ↦ l
]

pub made-live : (heap : Contents) (b : BlockId) (shape : Shape) (words : List Word) → IsMade heap b shape words → IsLive heap b
made-live heap b shape words made = (record { shape = shape; words = words; slot = made.0 }, made.1)

-- a block that was made
pub gives-one : (before after : Contents) (b : BlockId) (old : Option Shape) → IsFree before b old → IsLive after b → KeepsBlocks b before after → GivesOne before after
gives-one before after b (Some shape) free live others = inl (next-same before after (λ n e. others (Core n) (λ q. not-free n e q) ∙ e) (λ n e. sym (others (Core n) (λ q. not-live n e q)) ∙ e))
  where
    not-free : (n : ℕ) → standing before (Core n) ≡ Unused → Core n ≡ b → ⊥
    not-free n e q = let no : Released shape ≡ Unused = sym free ∙ (ap (standing before) (sym q) ∙ e) in cc

    not-live : (n : ℕ) → standing after (Core n) ≡ Unused → Core n ≡ b → ⊥
    not-live n e q = let no : Live live.0 ≡ Unused = sym live.1 ∙ (ap (standing after) (sym q) ∙ e) in cc
gives-one before after b None (at, none) live others = inr (let l = most in let g = least in omega (arith, l, g), none)
  where
    here-live : standing after (Core (next before)) ≡ Live live.0
    here-live = ap (standing after) (sym at) ∙ live.1

    most : next after ≤ next before + 1
    most = elim (cases_lt (next before + 1) (next after)) [
      | inl l ↦ absurd (used-below after (next before + 1) l
          (others (Core (next before + 1)) (λ q. let e : Core (next before + 1) ≡ Core (next before) = q ∙ at in let same : next before + 1 ≡ next before = cc in absurd (omega (arith, same)))
          ∙ unused-past before (next before + 1) (omega arith)))
      | inr l ↦ l
    ]

    least : next before + 1 ≤ next after
    least = elim (cases_lt (next before) (next after)) [
      | inl l ↦ omega (arith, l)
      | inr l ↦ absurd (let no : Live live.0 ≡ Unused = sym here-live ∙ unused-past after (next before) l in cc)
    ]

-- ---- numbers in a list

-- a list without one of its numbers
record Without (b : ℕ) (bs : List ℕ) : Type 0 where
  pub rest : List ℕ
  pub shorter : length bs ≡ suc (length rest)
  pub others : (c : ℕ) → c ≢ b → In c bs → In c rest

-- one more number in front
without-more : (b d : ℕ) (bs : List ℕ) → Without b bs → Without b (d ∷ bs)
without-more b d bs w = record { rest = d ∷ w.rest; shorter = ap suc w.shorter; others = λ c n i. left c n i }
  where
    left : (c : ℕ) → c ≢ b → In c (d ∷ bs) → In c (d ∷ w.rest)
    left c n here = here
    left c n (there i) = there (w.others c n i)

without-first : (b : ℕ) (bs : List ℕ) → Without b (b ∷ bs)
without-first b bs = record { rest = bs; shorter = refl; others = λ c n i. left c n i }
  where
    left : (c : ℕ) → c ≢ b → In c (b ∷ bs) → In c bs
    left c n here = absurd (n refl)
    left c n (there i) = i

without : (b : ℕ) (bs : List ℕ) → In b bs → Without b bs
without b [] i = elim i [ ]
without b (d ∷ bs) here = without-first b bs
without b (d ∷ bs) (there i) = without-more b d bs (without b bs i)

-- a list that has all numbers below this one is at least as long
pub as-long : (k : ℕ) (bs : List ℕ) → ((n : ℕ) → n < k → In n bs) → k ≤ length bs
as-long zero bs h = omega arith
as-long (suc k) bs h =
    let w = without k bs (h k (omega arith)) in
    let m = as-long k w.rest (λ n l. w.others n (λ e. absurd (omega (arith, l, e))) (h n (omega (arith, l)))) in
    omega (arith, m, w.shorter)

in-front : (b : ℕ) (bs cs : List ℕ) → In b bs → In b (bs ++ cs)
in-front b [] cs i = elim i [ ]
in-front b (d ∷ bs) cs here = here
in-front b (d ∷ bs) cs (there i) = there (in-front b bs cs i)

in-back : (b : ℕ) (bs cs : List ℕ) → In b cs → In b (bs ++ cs)
in-back b [] cs i = i
in-back b (d ∷ bs) cs i = there (in-back b bs cs i)

in-both : (b : ℕ) (bs cs : List ℕ) → In b bs ⊎ In b cs → In b (bs ++ cs)
in-both b bs cs (inl i) = in-front b bs cs i
in-both b bs cs (inr i) = in-back b bs cs i

in-either : (b : ℕ) (bs cs : List ℕ) → In b (bs ++ cs) → In b bs ⊎ In b cs
in-either b [] cs i = inr i
in-either b (d ∷ bs) cs here = inl here
in-either b (d ∷ bs) cs (there i) = elim (in-either b bs cs i) [ inl j ↦ inl (there j) | inr j ↦ inr j ]

pub length-both : (bs cs : List ℕ) → length (bs ++ cs) ≡ length bs + length cs
length-both [] cs = omega arith
length-both (b ∷ bs) cs = omega (arith, length-both bs cs)

-- ---- the numbers that new blocks were given

standing-read : (s : Standing) → s ≢ Unused → ((shape : Shape) → s ≢ Released shape) → IsSome (known s)
standing-read Unused u r = absurd (u refl)
standing-read (Live block) u r = refl
standing-read (Revoked block) u r = refl
standing-read (Released shape) u r = absurd (r shape refl)

-- where none waits for a block, all that were given out are numbers of blocks that can be read
none-waits : (first : List ℕ) (numbers : ℕ) (chosen : List ℕ) (heap : Contents) → Given first numbers chosen heap → NoneReleased heap → next heap ≤ length first + length chosen
none-waits first numbers chosen heap g none =
    let m = as-long (next heap) (first ++ chosen) (λ n l. in-both n first chosen (g.only n (standing-read (standing heap (Core n)) (used-below heap n l) (none (Core n))))) in
    let k = length-both first chosen in omega (arith, m, k)

pub few-made : (first : List ℕ) (numbers : ℕ) (chosen : List ℕ) (b : ℕ) (before after : Contents) → Given first numbers chosen before → GivesOne before after
    → (next after ≤ numbers) ⊎ (next after ≤ length first + length (chosen ++ b ∷ []))
few-made first numbers chosen b before after g (inl same) =
    let k = length-both chosen (b ∷ []) in elim g.few [ inl l ↦ inl (omega (arith, l, same)) | inr l ↦ inr (omega (arith, l, same, k)) ]
few-made first numbers chosen b before after g (inr more) =
    let k = length-both chosen (b ∷ []) in
    let l = none-waits first numbers chosen before g more.1 in inr (omega (arith, l, more.0, k))

pub given-same : (first : List ℕ) (numbers : ℕ) (chosen : List ℕ) (heap heap' : Contents) → KeepsReadable heap heap' → Given first numbers chosen heap → Given first numbers chosen heap'
given-same first numbers chosen heap heap' h g = record {
  distinct = g.distinct;
  apart = g.apart;
  there = λ b i. subst (λ o. IsSome o) (sym (h.blocks (Core b))) (g.there b i);
  still = λ b i. subst (λ o. IsSome o) (sym (h.blocks (Core b))) (g.still b i);
  only = λ b i. g.only b (subst (λ o. IsSome o) (h.blocks (Core b)) i);
  few = elim g.few [ inl l ↦ inl (omega (arith, l, h.numbers)) | inr l ↦ inr (omega (arith, l, h.numbers)) ];
}

-- the blocks that can be read are those of the first numbers and of the chosen ones
pub few-given : (first : List ℕ) (numbers : ℕ) (chosen : List ℕ) (heap : Contents) → Given first numbers chosen heap → (most : ℕ) → length first + length chosen ≤ most → HasFew most heap
few-given first numbers chosen heap g most few = record {
  blocks = first ++ chosen;
  each = λ b. (λ some. in-both b first chosen (g.only b some), λ i. elim (in-either b first chosen i) [ inl j ↦ g.still b j | inr j ↦ g.there b j ]);
  few = let k = length-both first chosen in omega (arith, few, k);
}

-- ---- the blocks of a trace

core-fewer : (xs : List BlockId) → length (core_numbers xs) ≤ length xs
core-fewer [] = omega arith
core-fewer (Core b ∷ xs) = omega (arith, core-fewer xs)
core-fewer (Input i ∷ xs) = omega (arith, core-fewer xs)

module _ (code : Code) (inputs : List Block) (f : ℕ) (args : List Word) (fuel : ℕ) (l : Trace) (run : Running) (kept : IsKeptRun code inputs f args fuel l run) where
  pub few-blocks : length (core_numbers (blocks_of l)) ≤ steps_of l
  few-blocks =
      let c = (count-law code _ _ l kept.replays.yields).0 in
      let m = core-fewer (blocks_of l) in omega (arith, c, m)

  pub trace-there : (b : ℕ) → In b (core_numbers (blocks_of l)) → IsSome (block_of run.heap (Core b))
  trace-there b i =
      let alive = (kept.stands.blocks.lives.live b).1 (subst (λ is. In b (allocs is)) (sym kept.stands.items) (subst (λ bs. In b bs) (blocks-allocs l) i)) in
      rw alive.1 refl

  -- none is revoked, so those that can be read are live
  pub trace-only : (b : ℕ) → IsSome (block_of run.heap (Core b)) → In b (core_numbers (blocks_of l))
  trace-only b some = go (standing run.heap (Core b)) refl
    where
      go : (s : Standing) → standing run.heap (Core b) ≡ s → In b (core_numbers (blocks_of l))
      go Unused e = absurd (let no : false ≡ true = rw e at some in cc)
      go (Live block) e = subst (λ bs. In b bs) (sym (blocks-allocs l)) (subst (λ is. In b (allocs is)) kept.stands.items ((kept.stands.blocks.lives.live b).0 (block, e)))
      go (Revoked block) e = absurd (kept.stands.released (Core b) block e)
      go (Released shape) e = absurd (let no : false ≡ true = rw e at some in cc)

  pub kept-few : HasFew fuel run.heap
  kept-few = record {
    blocks = core_numbers (blocks_of l);
    each = λ b. (trace-only b, trace-there b);
    few = let m = few-blocks in omega (arith, m, kept.few);
  }
