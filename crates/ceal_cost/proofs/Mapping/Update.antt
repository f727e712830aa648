-- The repair of MAP's first trace, where a cell is put in.
use Rattle.std.proofs.Common.{◌≡◌, ℕ, ◌+◌, Bool, true, false, ◌==◌, Some, None, List, [], ◌∷◌, ◌++◌, length, refl, sym, ◌∙◌, subst, arith}
use Rattle.ceal_base.specs.Trace.{Trace, Nothing, Stepped, Allocated, Wrote, WasRead}
use Rattle.ceal_base.specs.declared.word.BlockId.TheVariants.{Input, Core}
use Rattle.ceal_base.specs.declared.word.Place.{Place}
use Rattle.ceal_base.specs.declared.word.Word.{Word}
use Rattle.ceal_base.specs.declared.word.Word.TheVariants.{Block as BlockWord, At}
use Rattle.ceal_code.proofs.Words.SameIsEqual.{nat-same, nat-refl}
use Rattle.ceal_code.specs.Replay.{In, cleared}
use Rattle.ceal_cost.proofs.Mapping.Steps.{after_read, tail_in, key_for, Is, found, returning, next-read, next-returning, next-if, next-alloc}
use Rattle.ceal_cost.proofs.Mapping.Steps.{next-write, next-call, still-cell}
use Rattle.ceal_cost.proofs.Mapping.Runs.{inside, Ready, ready-first, ready-tail, ready-rest, ready-cleared, ready-stored, Apart, core-apart}
use Rattle.ceal_cost.proofs.Mapping.Runs.{begun, ready-begun, new-cell, kept}
use Rattle.ceal_cost.specs.Mapping.{MapNames, mapping, tail_of, to_first}
use Rattle.ceal_theory.specs.Repair.{State, own, clears, puts, works, Fix, Mend, Reruns}
use Rattle.ceal_theory.specs.Take.{take_alloc, take_read}

pub other-cell : (b c : ℕ) (cells : List ℕ) → ¬ (In b (c ∷ cells)) → (c == b) ≡ false
other-cell b c cells new = go (c == b) refl
  where
    go : (o : Bool) → (c == b) ≡ o → (c == b) ≡ false
    go false e = e
    go true e = let i : c ≡ b = nat-same c b e in absurd (new (subst (λ d. In b (d ∷ cells)) (sym i) In.here))

-- nothing is taken for a cell that was not in the list
no-alloc : (q : Place) (cells : List ℕ) (k b : ℕ) → ¬ (In b cells) → take_alloc (key_for (Input b)) (inside q cells k) ≡ None
unfolding take_alloc
no-alloc q [] k b new = refl
no-alloc q (c ∷ cells) k b new = rw (other-cell b c cells new, no-alloc (tail_in (Core k)) cells (k + 1) b (λ i. new (In.there i))) refl

no-read : (q : Place) (cells : List ℕ) (k b : ℕ) (args : List Word) → ¬ (In b cells) → take_read (tail_of b) after_read 2 args (inside q cells k) ≡ None
unfolding take_read
no-read q [] k b args new = refl
no-read q (c ∷ cells) k b args new = rw (other-cell b c cells new, no-read (tail_in (Core k)) cells (k + 1) b args (λ i. new (In.there i))) refl

-- what follows the block of the first cell
abbrev after_block : Place → ℕ → List ℕ → ℕ → Trace
after_block q c cells k =
    Stepped (Wrote q (BlockWord (Core k)) (Stepped (Stepped (WasRead (tail_of c) (to_first cells) after_read 2 (At (tail_in (Core k)) ∷ []) (inside (tail_in (Core k)) cells (k + 1)) Nothing))))

-- the block of the first cell is taken, and then the read of its tail
some-alloc : (q : Place) (c : ℕ) (cells : List ℕ) (k : ℕ) → take_alloc (key_for (Input c)) (inside q (c ∷ cells) k) ≡ Some (record { block = Core k; leftover = after_block q c cells k })
unfolding take_alloc
some-alloc q c cells k = rw (nat-refl c) refl

some-read : (q : Place) (c : ℕ) (cells : List ℕ) (k : ℕ) → take_read (tail_of c) after_read 2 (At (tail_in (Core k)) ∷ []) (after_block q c cells k)
    ≡ Some (record { value = to_first cells; inside = inside (tail_in (Core k)) cells (k + 1); leftover = Nothing })
unfolding take_read
some-read q c cells k = rw (nat-refl c, nat-refl k) refl

module _ (names : MapNames) where
  pub record Rerun (s : State) (q : Place) (c : ℕ) (old : Trace) (work : ℕ) : Type 0 where
    pub after : State
    pub items : Trace
    pub left : Trace
    pub runs : Reruns (mapping names) own s (found names q (BlockWord (Input c))) old after items left
    pub counted : after.work ≡ s.work + work

  -- five steps for the cell that was the first one, to the read of its tail, which is taken whole
  old-cell : (s : State) (q to : Place) (c : ℕ) (cells : List ℕ) (k : ℕ) → Ready s.plain s.store (c ∷ cells) → Is s.plain (Core k) → Apart q (c ∷ cells)
      → Rerun s q c (inside to (c ∷ cells) k) 5
  old-cell s q to c cells k r i a =
      let key = key_for (Input c) in
      let r1 = ready-cleared names s.plain s.store k key (c ∷ cells) r in
      let r2 = ready-stored s.plain (cleared (mapping names) s.store (Core k) key) q (BlockWord (Core k)) (c ∷ cells) a r1 in
      let wrote : State = puts (works (clears (mapping names) (works (works s)) (Core k) key)) q (BlockWord (Core k)) in
      let whole = kept names cells (works (works wrote)) (tail_in (Core k)) (k + 1) (ready-rest r2) (core-apart k cells) in
      record {
        after = whole.after;
        items = _;
        left = Nothing;
        runs = Reruns.quiet (next-if names s.plain q (Input c))
            (Reruns.takes_alloc (next-alloc names s.plain q (Input c)) (some-alloc to c cells k)
            (Reruns.writes (next-write names s.plain q (Input c) (Core k))
            (Reruns.quiet (next-call names s.plain q (Input c) (Core k) (ready-first r) i)
            (Reruns.takes_read (next-read names s.plain (tail_of c) (tail_in (Core k)) (returning names)) (some-read to c cells k)
            (Mend.kept (ready-tail r2) whole.fix) (Reruns.over (next-returning names whole.after.plain))))));
        counted = omega (arith, whole.counted);
      }

  -- five steps for the new cell, and then those
  pub new-first : (s : State) (q to : Place) (b c : ℕ) (cells : List ℕ) (k : ℕ) → Ready s.plain s.store (b ∷ c ∷ cells) → Is s.plain (Core k) → Apart q (b ∷ c ∷ cells) → ¬ (In b (c ∷ cells))
      → Rerun s q b (inside to (c ∷ cells) k) 10
  new-first s q to b c cells k r i a new =
      let n = s.number in
      let ready = ready-begun names s q b (b ∷ c ∷ cells) a r in
      let inner = old-cell (begun names s q b) (tail_in (Core n)) to c cells k (ready-rest ready) (still-cell names s.plain (Input b) (Core n) (Core k) i) (core-apart n (c ∷ cells)) in
      record {
        after = inner.after;
        items = _;
        left = inner.left;
        runs = new-cell names s q b (BlockWord (Input c)) (ready-first r) (ready-tail ready) (no-alloc to (c ∷ cells) k b new) (no-read to (c ∷ cells) k b (At (tail_in (Core n)) ∷ []) new) inner.runs;
        counted = omega (arith, inner.counted);
      }

  -- The repair of a read of the list: in front of the new cell nothing is stale, and the read that finds it is.
  pub record Mended (s : State) (p q : Place) (cells : List ℕ) (k : ℕ) : Type 0 where
    pub after : State
    pub items : Trace
    pub mend : Mend (mapping names) own s p after_read 2 (At q ∷ []) (to_first cells) (inside q cells k) after items
    pub counted : after.work ≡ s.work + 10

  module _ (cell next : ℕ) (later : List ℕ) (other : ¬ (In cell (next ∷ later))) where
    differs : (w : Word) → w ≡ BlockWord (Input cell) → ¬ (w ≡ BlockWord (Input next))
    differs w is e =
        let words : BlockWord (Input cell) ≡ BlockWord (Input next) = sym is ∙ e in
        let same : cell ≡ next = grind (arith, words) in
        other (subst (λ c. In c (next ∷ later)) (sym same) In.here)

    pub mended : (before : List ℕ) (s : State) (p q : Place) (k : ℕ) → s.store p ≡ to_first (before ++ cell ∷ next ∷ later) → Ready s.plain s.store (before ++ cell ∷ next ∷ later)
        → Is s.plain (Core (k + length before)) → Apart q (before ++ cell ∷ next ∷ later) → Mended s p q (before ++ next ∷ later) k
    mended [] s p q k e r i a =
        let same : k + 0 ≡ k = omega arith in
        let block = subst (λ j. Is s.plain (Core j)) same i in
        let run = new-first s q q cell next later k r block a other in
        record {
          after = run.after;
          items = run.items;
          mend = Mend.stale (differs (s.store p) e)
              (subst (λ w. Reruns (mapping names) own s (found names q w) (inside q (next ∷ later) k) run.after run.items run.left) (sym e) run.runs);
          counted = run.counted;
        }
    mended (c ∷ before) s p q k e r i a =
        let key = key_for (Input c) in
        let cells = before ++ cell ∷ next ∷ later in
        let r1 = ready-cleared names s.plain s.store k key (c ∷ cells) r in
        let r2 = ready-stored s.plain (cleared (mapping names) s.store (Core k) key) q (BlockWord (Core k)) (c ∷ cells) a r1 in
        let wrote : State = puts (clears (mapping names) s (Core k) key) q (BlockWord (Core k)) in
        let same : k + length (c ∷ before) ≡ k + 1 + length before = omega arith in
        let inner = mended before wrote (tail_of c) (tail_in (Core k)) (k + 1) (ready-tail r2) (ready-rest r2) (subst (λ j. Is s.plain (Core j)) same i) (core-apart k cells) in
        record {
          after = inner.after;
          items = Stepped (Stepped (Allocated (Core k) key (Stepped (Wrote q (BlockWord (Core k))
              (Stepped (Stepped (WasRead (tail_of c) (wrote.store (tail_of c)) after_read 2 (At (tail_in (Core k)) ∷ []) inner.items Nothing)))))));
          mend = Mend.kept e (Fix.step (Fix.step (Fix.alloc (Fix.step (Fix.write (Fix.step (Fix.step (Fix.read inner.mend Fix.end))))))));
          counted = inner.counted;
        }
