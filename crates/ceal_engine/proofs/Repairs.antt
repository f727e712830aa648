-- What a first run and a repair come to, in the words of the engine.
use Rattle.std.proofs.Common.{◌≡◌, ◌⊎◌, inl, inr, ℕ, ◌+◌, ◌<◌, ◌≤◌, nat_le, Bool, true, false, Option, Some, None, List, [], ◌∷◌, ◌++◌, length, refl, sym, ap, ◌∙◌, subst, arith}
use Rattle.std.specs.Option.{IsSomeAnd}
use Rattle.ceal_base.specs.Block.{Block}
use Rattle.ceal_base.specs.Finished.{Finished}
use Rattle.ceal_base.specs.Trace.{Trace, steps_of, blocks_of}
use Rattle.ceal_base.specs.declared.call.Call.{Call}
use Rattle.ceal_base.specs.declared.word.Word.{Word}
use Rattle.ceal_code.proofs.Alike.BlockPairs.{one_if, one-at}
use Rattle.ceal_code.proofs.Replay.ReplayedCall.{trace-law}
use Rattle.ceal_code.proofs.Words.SameIsEqual.{none-some}
use Rattle.ceal_code.specs.Alike.{Tied, TraceAlike}
use Rattle.ceal_code.specs.Fitting.{Fits}
use Rattle.ceal_code.specs.Fresh.{fresh}
use Rattle.ceal_code.specs.Program.{Code}
use Rattle.ceal_code.specs.Replay.{In, here, there, Mentions, Replays, IsHonest}
use Rattle.ceal_engine.proofs.Inputs.{extended-refl}
use Rattle.ceal_engine.proofs.Present.{trace-kept}
use Rattle.ceal_engine.proofs.RunMemory.{low-numbers}
use Rattle.ceal_engine.specs.Keeping.{state_of, IsUpToDate}
use Rattle.ceal_engine.specs.Repaired.{IsRenamed, IsFirst, IsRepairFrom, IsRepaired, IsUnchanged}
use Rattle.ceal_engine.specs.Runs.{finished, trace_in, IsFirstOf}
use Rattle.ceal_engine.specs.declared.run.Run.{Run}
use Rattle.ceal_heap.specs.Heap.{next}
use Rattle.ceal_repair.specs.Answers as kept
use Rattle.ceal_repair.specs.Answers.{IsKeptRun, IsRunOf, IsFirstRun, IsRepairedRun}
use Rattle.ceal_repair.specs.declared.running.Running.{Running}
use Rattle.ceal_theory.proofs.Repair.DistinctBlocks.{uses, times, times-append}
use Rattle.ceal_theory.proofs.Repair.EndAsFromScratch.{first-law}
use Rattle.ceal_theory.proofs.Repair.RepairLaws.{unchanged-law}
use Rattle.ceal_theory.proofs.Renaming.GivenNumbers.{trace-by, selves, self-tied, tied-same, selves-one, trace-self, named-law}
use Rattle.ceal_theory.specs.Adjust.{Above}
use Rattle.ceal_theory.specs.Computed.{Repaired, first_of}
use Rattle.ceal_theory.specs.Laws.{Edited, FirstOutcome}
use Rattle.ceal_theory.specs.Named.{naming, trace_by}

-- what is tied to itself is known
self-in : (b c : ℕ) (bs : List ℕ) → Tied b c (selves bs) → In b bs
self-in b c [] t = elim t [ ]
self-in b c (d ∷ bs) Tied.here = here
self-in b c (d ∷ bs) (Tied.there t) = there (self-in b c bs t)

first-or : (b c : ℕ) (bs : List ℕ) → In b (c ∷ bs) → (c ≡ b) ⊎ In b bs
first-or b c bs here = inl refl
first-or b c bs (there i) = inr i

-- what is known at the end was known before, or is a block of the trace
known-uses : {n : ℕ} {bs cs : List ℕ} {l : Trace} → Mentions n bs l cs → (b : ℕ) → In b cs → In b bs ⊎ 1 ≤ uses b l
known-uses Mentions.end b i = inl i
known-uses (Mentions.step m) b i = known-uses m b i
known-uses {bs = bs} (Mentions.alloc {b = c} {rest = rest} k m) b i = go (known-uses m b i)
  where
    back : (c ≡ b) ⊎ In b bs → In b bs ⊎ 1 ≤ one_if b c + uses b rest
    back (inl e) = inr (omega (arith, one-at b c e))
    back (inr i) = inl i

    go : In b (c ∷ bs) ⊎ 1 ≤ uses b rest → In b bs ⊎ 1 ≤ one_if b c + uses b rest
    go (inl i) = back (first-or b c bs i)
    go (inr h) = inr (omega (arith, h))
known-uses (Mentions.write k l m) b i = known-uses m b i
known-uses {bs = bs} (Mentions.read {ds = ds} {inside = inside} {rest = rest} k l j m1 m2) b i = go (known-uses m2 b i) (known-uses m1 b)
  where
    both : 1 ≤ uses b inside + uses b rest → 1 ≤ times b (blocks_of inside ++ blocks_of rest)
    both h = omega (arith, h, times-append b (blocks_of inside) (blocks_of rest))

    back : In b bs ⊎ 1 ≤ uses b inside → In b bs ⊎ 1 ≤ times b (blocks_of inside ++ blocks_of rest)
    back (inl i) = inl i
    back (inr h) = inr (both (omega (arith, h)))

    go : In b ds ⊎ 1 ≤ uses b rest → (In b ds → In b bs ⊎ 1 ≤ uses b inside) → In b bs ⊎ 1 ≤ times b (blocks_of inside ++ blocks_of rest)
    go (inl i) f = back (f i)
    go (inr h) f = inr (both (omega (arith, h)))

module _ (code : Code) (inputs : List Block) (f : ℕ) (args : List Word) (l : Trace) (r : Replays code inputs f args l) (next' : ℕ) (above : Above next' l) where
  below : (b : ℕ) → 1 ≤ uses b l → b < next'
  below b h = go (nat_le next' b) refl
    where
      go : (t : Bool) → nat_le next' b ≡ t → b < next'
      go true e = absurd (omega (arith, h, above b (grind (arith, e))))
      go false e = grind (arith, e)

  -- names of numbers above its blocks rename nothing of a trace
  pub named-own : (names : ℕ → ℕ) → trace_by (naming next' names) l ≡ l
  named-own names = sym (trace-by (selves r.known) (naming next' names) own-name (trace-self (length inputs) (selves r.known) r.mentions (λ b i. self-tied b r.known i)))
    where
      of : (b : ℕ) → In b [] ⊎ 1 ≤ uses b l → 1 ≤ uses b l
      of b (inl i) = elim i [ ]
      of b (inr h) = h

      own-name : (b c : ℕ) → Tied b c (selves r.known) → c ≡ naming next' names b
      own-name b c t =
          let low : b < next' = below b (of b (known-uses r.mentions b (self-in b c r.known t))) in
          let e : nat_le next' b ≡ false = grind (arith, low) in
          sym (tied-same b c r.known t) ∙ rw e refl

-- a trace is itself renamed
pub self-renamed : (code : Code) (inputs : List Block) (f : ℕ) (args : List Word) (l : Trace) → Replays code inputs f args l → IsRenamed l l
self-renamed code inputs f args l r = record {
  pairs = selves r.known;
  one = selves-one r.known;
  alike = trace-self (length inputs) (selves r.known) r.mentions (λ b i. self-tied b r.known i);
}

module _ (code : Code) (inputs : List Block) (f : ℕ) (args : List Word) (fits : Fits code inputs f args) (fuel : ℕ) where
  -- the first trace's steps are its work
  first-steps : (a : Repaired) → first_of code inputs fuel f args ≡ Some a → a.work ≡ steps_of a.items
  first-steps a e = go (fresh code f args inputs fuel) (subst (λ o. FirstOutcome code inputs f args o (fresh code f args inputs fuel)) e (first-law code inputs f args fits fuel))
    where
      go : (o : Option Finished) → FirstOutcome code inputs f args (Some a) o → a.work ≡ steps_of a.items
      go None t = elim t [ ]
      go (Some r) (FirstOutcome.some t) = t.work ∙ sym t.steps

  pub kept-run : (l : Trace) (run : Running) → IsRunOf code inputs f args fuel l run → IsKeptRun code inputs f args fuel l run
  kept-run l run k = record { stands = k.stands; fits = fits; replays = k.replays; few = k.few; numbers = k.numbers }

  -- an honest trace within the fuel is a run that ends
  pub no-end : (l : Trace) → Replays code inputs f args l → steps_of l ≤ fuel → IsHonest code inputs l → fresh code f args inputs fuel ≡ None → ⊥
  no-end l r few h e = none-some _ (sym e ∙ (trace-law code inputs f args fits l r h).ends fuel few)

module _ (code : Code) (fuel : ℕ) (inputs : List Block) (call : Call) (fits : Fits code inputs call.function call.args) where
  pub kept-as : (l : Trace) (run : Running) → IsRunOf code inputs call.function call.args fuel l run → IsUpToDate code fuel inputs call run
  kept-as l run k = record { trace = l; of = kept-run code inputs call.function call.args fits fuel l run k; honest = k.honest; idle = k.idle }

  pub trace-is : (l : Trace) (run : Running) → IsRunOf code inputs call.function call.args fuel l run → trace_in run ≡ Some l
  trace-is l run k = trace-kept code fuel inputs call run l (kept-run code inputs call.function call.args fits fuel l run k)

  -- a first run can be kept, and its trace is the first one
  pub first-of : (run : Running) → IsFirstRun code inputs call.function call.args fuel run → IsFirstOf code fuel inputs (Some call) run
  first-of run k = record {
    cost = record { paid = k.pays.looks; touched = k.pays.touches; differed = k.pays.differed; room = k.pays.room };
    unmarked = k.unmarked;
    kept = kept-as k.trace run k.is_run;
    first = subst (λ o. IsSomeAnd o (IsFirst (finished code fuel inputs (Some call) run))) (sym (trace-is k.trace run k.is_run)) (record {
      first = k.first;
      is = k.is;
      renamed = record { pairs = k.named.pairs; one = k.named.one; alike = k.named.alike };
      work = k.work ∙ first-steps code inputs call.function call.args fits fuel k.first k.is;
    });
  }

  module _ (l : Trace) (old : Running) (was : IsKeptRun code inputs call.function call.args fuel l old) where
    above : Above (next old.heap) l
    above = low-numbers code inputs l old was.stands

    edited : (k : ℕ) → Above k l → Edited code inputs inputs call.function call.args l k
    edited k h = record { call = fits; fit = fits.blocks; extended = extended-refl code inputs; trace = was.replays; above = h }

    module _ (run : Running) (k : IsRepairedRun code inputs call.function call.args fuel l old run) where
      from : (next' : ℕ) → Above next' l → IsRepairFrom (finished code fuel inputs (Some call) run) k.names l k.trace next'
      from next' h = go (k.from next' h)
        where
          go : kept.IsRepairFrom code inputs fuel k.names l k.trace run.spent next' → IsRepairFrom (finished code fuel inputs (Some call) run) k.names l k.trace next'
          go q =
              let n = ((named-law code inputs inputs call.function call.args l next' (edited next' h) k.names k.single k.apart fuel).there q.repair q.is).2 in
              record {
                repair = q.repair;
                is = q.is;
                named = q.same;
                renamed = record { pairs = n.pairs; one = n.one; alike = subst (λ m. TraceAlike n.pairs q.repair.items m) (n.same ∙ sym q.same) n.alike };
                work = q.counted;
              }

      -- the trace of a repaired run is the repair
      pub repaired-of : IsSomeAnd (trace_in run) (IsRepaired (finished code fuel inputs (Some call) run) l)
      repaired-of =
          subst (λ o. IsSomeAnd o (IsRepaired (finished code fuel inputs (Some call) run) l)) (sym (trace-is k.trace run k.is_run))
          (record { names = k.names; single = k.single; apart = k.apart; from = from })

      -- an honest one stays as it was
      pub unchanged-of : IsHonest code inputs l → IsUnchanged (finished code fuel inputs (Some call) run) l × (run.tables.trace ≡ old.tables.trace)
      unchanged-of h =
          let u = k.unchanged h in
          (record { same = ap (λ t. Rattle.ceal_base.specs.Trace.trace_of (Rattle.ceal_trace.specs.Items.forest_of t.nodes)) u.0 ∙ trace-kept code fuel inputs call old l was; work = u.1 }, u.0)

    -- where nothing needs to be done, the trace is its own repair
    pub still-repaired : (run : Run) → IsHonest code inputs l → IsRepaired (record (state_of code fuel inputs (Some call) run) { work = 0 }) l l
    still-repaired run h = record {
      names = λ k. next old.heap + k;
      single = λ j k e. omega (arith, e);
      apart = λ k. above (next old.heap + k) (omega arith);
      from = λ next' low. record {
        repair = record { items = l; work = 0 };
        is = unchanged-law code inputs l h next' fuel;
        named = sym (named-own code inputs call.function call.args l was.replays next' low (λ k. next old.heap + k));
        renamed = self-renamed code inputs call.function call.args l was.replays;
        work = refl;
      };
    }
