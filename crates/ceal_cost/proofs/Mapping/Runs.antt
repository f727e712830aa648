-- The first run of MAP on a list, and the repair of what is inside a read of it where nothing is stale.
use Rattle.std.proofs.Common.{◌≡◌, ℕ, ◌+◌, ◌*◌, Bool, true, false, None, List, [], ◌∷◌, length, refl, sym, ap, subst, arith}
use Rattle.ceal_base.specs.Operators.{same_place}
use Rattle.ceal_base.specs.Trace.{Trace, Nothing, Stepped, Allocated, Wrote, WasRead, steps_of}
use Rattle.ceal_base.specs.declared.forest.Key.{Key}
use Rattle.ceal_base.specs.declared.forest.UnitId.{UnitId}
use Rattle.ceal_base.specs.declared.word.BlockId.{BlockId}
use Rattle.ceal_base.specs.declared.word.BlockId.TheVariants.{Input, Core}
use Rattle.ceal_base.specs.declared.word.Place.{Place}
use Rattle.ceal_base.specs.declared.word.Word.{Word}
use Rattle.ceal_base.specs.declared.word.Word.TheVariants.{Null, Block as BlockWord, At}
use Rattle.ceal_code.proofs.Words.SameIsEqual.{place-same}
use Rattle.ceal_code.specs.Init.{made}
use Rattle.ceal_code.specs.Replay.{Store, In, learnt, cleared, stored}
use Rattle.ceal_code.specs.Step.{Stack, Reads, next}
use Rattle.ceal_code.specs.Value.{Plain}
use Rattle.ceal_cost.proofs.Mapping.Steps.{after_read, tail_in, key_for, Is, found, returning, next-read, next-returning, next-if, next-alloc}
use Rattle.ceal_cost.proofs.Mapping.Steps.{next-write, next-call, next-if-null, next-write-null, next-end, made-cell, still-cell}
use Rattle.ceal_cost.specs.Mapping.{MapNames, mapping, tail_of, to_first}
use Rattle.ceal_theory.specs.Repair.{State, own, clears, puts, works, grows, resumed, Fix, Mend, Reruns}
use Rattle.ceal_theory.specs.Take.{take_alloc, take_read}

-- the items inside a read of a list of these cells, whose image begins at a place and has the blocks from a number on
abbrev pub inside : Place → List ℕ → ℕ → Trace
inside q [] k = Stepped (Stepped (Wrote q Null Nothing))
inside q (c ∷ cells) k =
    Stepped
    (Stepped
    (Allocated (Core k) (key_for (Input c))
    (Stepped
    (Wrote q (BlockWord (Core k))
    (Stepped
    (Stepped
    (WasRead (tail_of c) (to_first cells) after_read 2 (At (tail_in (Core k)) ∷ []) (inside (tail_in (Core k)) cells (k + 1)) Nothing)))))))

-- 5 steps for each cell, and 2 where the list ends
pub steps-inside : (q : Place) (cells : List ℕ) (k : ℕ) → steps_of (inside q cells k) ≡ 5 * length cells + 2
steps-inside q [] k = refl
steps-inside q (c ∷ cells) k = let h = steps-inside (tail_in (Core k)) cells (k + 1) in omega (arith, h)

-- the list from these cells on is in the state
pub data Ready (x : Plain) (t : Store) : List ℕ → Type 0 where
  none : Ready x t []
  more : {c : ℕ} {cells : List ℕ} → Is x (Input c) → t (tail_of c) ≡ to_first cells → Ready x t cells → Ready x t (c ∷ cells)

-- the place is the tail of none of the cells
abbrev pub Apart : Place → List ℕ → Type 0
Apart q cells = (c : ℕ) → In c cells → ¬ (q ≡ tail_of c)

-- nor is one in a block of the image
pub core-apart : (k : ℕ) (cells : List ℕ) → Apart (tail_in (Core k)) cells
core-apart k cells c i e = let b : Core k ≡ Input c = ap (λ p. p.block) e in absurd (cc)

pub later-apart : (q : Place) (c : ℕ) (cells : List ℕ) → Apart q (c ∷ cells) → Apart q cells
later-apart q c cells a d i = a d (In.there i)

not-same : (p q : Place) → ¬ (p ≡ q) → same_place q p ≡ false
not-same p q apart = go (same_place q p) refl
  where
    go : (b : Bool) → same_place q p ≡ b → same_place q p ≡ false
    go false e = e
    go true e = absurd (apart (sym (place-same q p e)))

-- a write elsewhere, and a new block
pub ready-stored : (x : Plain) (t : Store) (q : Place) (w : Word) (cells : List ℕ) → Apart q cells → Ready x t cells → Ready x (stored t q w) cells
unfolding stored
ready-stored x t q w [] a Ready.none = Ready.none
ready-stored x t q w (c ∷ cells) a (Ready.more i e r) =
    Ready.more i (rw (not-same q (tail_of c) (a c In.here)) e) (ready-stored x t q w cells (later-apart q c cells a) r)

pub ready-first : {x : Plain} {t : Store} {c : ℕ} {cells : List ℕ} → Ready x t (c ∷ cells) → Is x (Input c)
ready-first (Ready.more i e r) = i

pub ready-tail : {x : Plain} {t : Store} {c : ℕ} {cells : List ℕ} → Ready x t (c ∷ cells) → t (tail_of c) ≡ to_first cells
ready-tail (Ready.more i e r) = e

pub ready-rest : {x : Plain} {t : Store} {c : ℕ} {cells : List ℕ} → Ready x t (c ∷ cells) → Ready x t cells
ready-rest (Ready.more i e r) = r

module _ (names : MapNames) where
  pub ready-cleared : (x : Plain) (t : Store) (k : ℕ) (key : Key) (cells : List ℕ) → Ready x t cells → Ready x (cleared (mapping names) t (Core k) key) cells
  unfolding cleared
  ready-cleared x t k key [] Ready.none = Ready.none
  ready-cleared x t k key (c ∷ cells) (Ready.more i e r) = Ready.more i e (ready-cleared x t k key cells r)

  pub ready-learnt : (x : Plain) (t : Store) (b : BlockId) (k : ℕ) (cells : List ℕ) → Ready x t cells → Ready (learnt x (Core k) (made (mapping names) x (key_for b))) t cells
  ready-learnt x t b k [] Ready.none = Ready.none
  ready-learnt x t b k (c ∷ cells) (Ready.more i e r) = Ready.more (still-cell names x b (Core k) (Input c) i) e (ready-learnt x t b k cells r)

  -- a new read of a place that holds a word
  pub reads-as : {s t s' : State} {st below : Stack} {p : Place} {u : UnitId} {v : ℕ} {args : List Word} {old between inside' new left : Trace} (w : Word) → s.store p ≡ w
      → next (mapping names) s.plain st ≡ Reads p u v args below → take_read p u v args old ≡ None
      → Reruns (mapping names) own (works s) (resumed (mapping names) u v args w) old t inside' between
      → Reruns (mapping names) own t below between s' new left
      → Reruns (mapping names) own s st old s' (Stepped (WasRead p w u v args inside' new)) left
  reads-as {s} {t} {s'} {st} {below} {p} {u} {v} {args} {old} {between} {inside'} {new} {left} w e n k a b =
      subst (λ w. Reruns (mapping names) own s st old s' (Stepped (WasRead p w u v args inside' new)) left) e
      (Reruns.reads n k (subst (λ w. Reruns (mapping names) own (works s) (resumed (mapping names) u v args w) old t inside' between) (sym e) a) b)

  none-alloc : (key : Key) → take_alloc key Nothing ≡ None
  unfolding take_alloc
  none-alloc key = refl

  pub none-read : (p : Place) (u : UnitId) (v : ℕ) (args : List Word) → take_read p u v args Nothing ≡ None
  unfolding take_read
  none-read p u v args = refl

  -- the state at the read of the rest of the list, once a cell of the image is made and written to its place
  abbrev pub begun : State → Place → ℕ → State
  begun s q c = works (works (puts (works (grows (mapping names) own (works (works s)) (key_for (Input c)))) q (BlockWord (Core s.number))))

  pub ready-begun : (s : State) (q : Place) (c : ℕ) (cells : List ℕ) → Apart q cells → Ready s.plain s.store cells → Ready (begun s q c).plain (begun s q c).store cells
  ready-begun s q c cells a r =
      let key = key_for (Input c) in
      let r1 = ready-learnt s.plain s.store (Input c) s.number cells r in
      let r2 = ready-cleared (begun s q c).plain s.store s.number key cells r1 in
      ready-stored (begun s q c).plain (cleared (mapping names) s.store (Core s.number) key) q (BlockWord (Core s.number)) cells a r2

  -- the five steps of a cell for which nothing is taken
  pub new-cell : (s : State) (q : Place) (c : ℕ) (w : Word) {t : State} {old items between : Trace} → Is s.plain (Input c) → (begun s q c).store (tail_of c) ≡ w
      → take_alloc (key_for (Input c)) old ≡ None
      → take_read (tail_of c) after_read 2 (At (tail_in (Core s.number)) ∷ []) old ≡ None
      → Reruns (mapping names) own (begun s q c) (found names (tail_in (Core s.number)) w) old t items between
      → Reruns (mapping names) own s (found names q (BlockWord (Input c))) old t
      (Stepped (Stepped (Allocated (Core s.number) (key_for (Input c)) (Stepped (Wrote q (BlockWord (Core s.number))
      (Stepped (Stepped (WasRead (tail_of c) w after_read 2 (At (tail_in (Core s.number)) ∷ []) items Nothing)))))))) between
  new-cell s q c w {t} i e na nr inner =
      let n = s.number in
      Reruns.quiet (next-if names s.plain q (Input c))
      (Reruns.makes (next-alloc names s.plain q (Input c)) na
      (Reruns.writes (next-write names (begun s q c).plain q (Input c) (Core n))
      (Reruns.quiet (next-call names (begun s q c).plain q (Input c) (Core n) (still-cell names s.plain (Input c) (Core n) (Input c) i) (made-cell names s.plain (Input c) (Core n)))
      (reads-as w e (next-read names (begun s q c).plain (tail_of c) (tail_in (Core n)) (returning names)) nr inner (Reruns.over (next-returning names t.plain))))))

  -- what a read of the list runs where nothing is left over
  pub record FirstRun (s : State) (q : Place) (cells : List ℕ) : Type 0 where
    pub after : State
    pub runs : Reruns (mapping names) own s (found names q (to_first cells)) Nothing after (inside q cells s.number) Nothing
    pub counted : after.work ≡ s.work + (5 * length cells + 2)

  pub first-run : (cells : List ℕ) (s : State) (q : Place) → Ready s.plain s.store cells → Apart q cells → FirstRun s q cells
  first-run [] s q r a = record {
    after = puts (works (works s)) q Null;
    runs = Reruns.quiet (next-if-null names s.plain q) (Reruns.writes (next-write-null names s.plain q) (Reruns.over (next-end names s.plain q)));
    counted = omega arith;
  }
  first-run (c ∷ cells) s q r a =
      let b = ready-begun s q c (c ∷ cells) a r in
      let inner = first-run cells (begun s q c) (tail_in (Core s.number)) (ready-rest b) (core-apart s.number cells) in
      record {
        after = inner.after;
        runs = new-cell s q c (to_first cells) (ready-first r) (ready-tail b) (none-alloc (key_for (Input c)))
            (none-read (tail_of c) after_read 2 (At (tail_in (Core s.number)) ∷ [])) inner.runs;
        counted = omega (arith, inner.counted);
      }

  -- items in which nothing is stale stay, with no work
  pub record Kept (s : State) (l : Trace) : Type 0 where
    pub after : State
    pub items : Trace
    pub fix : Fix (mapping names) own s l after items
    pub counted : after.work ≡ s.work

  pub kept : (cells : List ℕ) (s : State) (q : Place) (k : ℕ) → Ready s.plain s.store cells → Apart q cells → Kept s (inside q cells k)
  kept [] s q k r a = record { after = puts s q Null; items = _; fix = Fix.step (Fix.step (Fix.write Fix.end)); counted = refl }
  kept (c ∷ cells) s q k r a =
      let key = key_for (Input c) in
      let r1 = ready-cleared s.plain s.store k key (c ∷ cells) r in
      let r2 = ready-stored s.plain (cleared (mapping names) s.store (Core k) key) q (BlockWord (Core k)) (c ∷ cells) a r1 in
      let after : State = puts (clears (mapping names) s (Core k) key) q (BlockWord (Core k)) in
      let inner = kept cells after (tail_in (Core k)) (k + 1) (ready-rest r2) (core-apart k cells) in
      record {
        after = inner.after;
        items = _;
        fix = Fix.step (Fix.step (Fix.alloc (Fix.step (Fix.write (Fix.step (Fix.step (Fix.read (Mend.kept (ready-tail r2) inner.fix) Fix.end)))))));
        counted = inner.counted;
      }
