-- At the first read that is not honest: what the store, the stack of its unit and the plain words know there is an
-- input or a block that the items before it allocate.
use Rattle.std.proofs.Common.{◌≡◌, ℕ, Some, List, [], ◌∷◌, ◌++◌, length, refl, sym, ap, ◌∙◌, subst}
use Rattle.ceal_base.specs.Block.{Block}
use Rattle.std.specs.Prelude.{⊤}
use Rattle.ceal_base.specs.Trace.{Trace, Nothing, Stepped, Allocated, Wrote, WasRead, flat}
use Rattle.ceal_base.specs.declared.forest.Item.{Item}
use Rattle.ceal_base.specs.declared.forest.Item.TheVariants.{Step, Alloc, Write, Read, End}
use Rattle.ceal_base.specs.declared.forest.Key.{Key}
use Rattle.ceal_base.specs.declared.forest.UnitId.{UnitId}
use Rattle.ceal_base.specs.declared.word.BlockId.{BlockId}
use Rattle.ceal_base.specs.declared.word.BlockId.TheVariants.{Input, Core}
use Rattle.ceal_base.specs.declared.word.Place.{Place}
use Rattle.ceal_base.specs.declared.word.Word.{Word}
use Rattle.ceal_code.proofs.Words.StepLocality.{stack-more, words_after_read-known}
use Rattle.ceal_code.specs.Fitting.{Fits}
use Rattle.ceal_code.specs.Known.{Subset, Held, KnownStack}
use Rattle.ceal_code.specs.Init.{made, pointer}
use Rattle.ceal_code.specs.Program.{Code}
use Rattle.ceal_code.specs.Replay.{Yields, Honest, Store, there, KnownBlock, KnownWord, KnownWords, cleared, stored}
use Rattle.ceal_code.specs.Step.{Stack, Empty, Run, Quiet, Makes, Writes, Reads, started, next}
use Rattle.ceal_code.specs.Value.{Plain, Variables, set}
use Rattle.ceal_theory.proofs.Repair.RepairInvariant.{Extends, agrees, Good, Pieces}
use Rattle.ceal_theory.proofs.Repair.RepairYields.{wider, holds-with, ran-known, cleared-known, store-more, held-key, step-y}
use Rattle.ceal_theory.specs.Repair.{Single, State, clears, puts, resumed}
use Rattle.ceal_theory.specs.Walk.{with_store}
use Rattle.ceal_theory.proofs.SlicedRepair.DoneReplays.{begun}
use Rattle.ceal_theory.proofs.SlicedRepair.Soundness.{good, start-known, starting-known}
use Rattle.ceal_theory.proofs.Store.Mentions.{uses-yields, uses-pieces}
use Rattle.ceal_theory.proofs.SlicedRepair.PartYields.{good-puts}
use Rattle.ceal_theory.specs.Cover.{known_after, At}
use Rattle.ceal_theory.specs.Slices.{Repair, with_inputs, starting, goes_on, RepairHolds}

allocs-both : (bs : List ℕ) (is js : List Item) → known_after bs (is ++ js) ≡ known_after (known_after bs is) js
allocs-both bs [] js = refl
allocs-both bs (Step ∷ is) js = allocs-both bs is js
allocs-both bs (Alloc (Core b) key ∷ is) js = allocs-both (b ∷ bs) is js
allocs-both bs (Alloc (Input i) key ∷ is) js = allocs-both bs is js
allocs-both bs (Write p value ∷ is) js = allocs-both bs is js
allocs-both bs (Read p value u v args ∷ is) js = allocs-both bs is js
allocs-both bs (End ∷ is) js = allocs-both bs is js

allocs-more : (bs : List ℕ) (is : List Item) → Subset bs (known_after bs is)
allocs-more bs [] b i = i
allocs-more bs (Step ∷ is) b i = allocs-more bs is b i
allocs-more bs (Alloc (Core c) key ∷ is) b i = allocs-more (c ∷ bs) is b (there i)
allocs-more bs (Alloc (Input c) key ∷ is) b i = allocs-more bs is b i
allocs-more bs (Write p value ∷ is) b i = allocs-more bs is b i
allocs-more bs (Read p value u v args ∷ is) b i = allocs-more bs is b i
allocs-more bs (End ∷ is) b i = allocs-more bs is b i

module _ (names : ℕ → ℕ) (single : Single names) (code : Code) (n : ℕ) (y : Plain) where
  good-alloc : (bs : List ℕ) (s : State) (b : ℕ) (key : Key) → Good names n bs s → Held n (b ∷ bs) s.plain (Core b) → Good names n (b ∷ bs) (clears code s (Core b) key)
  good-alloc bs s b key g h = record {
    plain = holds-with n bs s.plain s.plain b g.plain (λ c block e. e) h;
    store = cleared-known code n (b ∷ bs) s.store (Core b) key (store-more n bs (b ∷ bs) s.store (wider b bs) g.store);
    free = g.free;
  }

  module _ (x : Plain) (ext : Extends x y) where
    -- honest items are gone through, and more blocks are known
    walk-good : {st : Stack} {l : Trace} {a t : Store} → Yields code y st l → Honest code a l t → (s : State)
        → s.plain ≡ x → s.store ≡ a → (bs : List ℕ) → Good names n bs s → KnownStack n bs st → Pieces code x y l
        → Good names n (known_after bs (flat l)) (with_store s t)
    walk-good (Yields.over e) Honest.end s is at bs g k h = subst (λ z. Good names n bs (with_store s z)) at g
    walk-good {st} (Yields.quiet {after = after} e r) (Honest.step w) s is at bs g k h =
        walk-good r w s is at bs g (step-y code n y bs s.plain st (Quiet after) g.plain (subst (λ z. Extends z y) (sym is) ext) k e) h
    walk-good {st} {a = a} (Yields.makes {key = key} {v = v} {u = u} {i = i} {env = env} {below = below} {b = b} e m r) (Honest.step (Honest.alloc w)) s is at bs g k h =
        let ext' = subst (λ z. Extends z y) (sym is) ext in
        let c = step-y code n y bs s.plain st (Makes key v u i env below) g.plain ext' k e in
        walk-good r w (clears code s (Core b) key) is (ap (λ z. cleared code z (Core b) key) at) (b ∷ bs)
        (good-alloc bs s b key g (held-key code n y bs s.plain key b g.plain ext' c.0 (ap (λ z. z (Core b)) is ∙ h.0))) (ran-known n bs key b v u i env below c.1 c.2) h.1
    walk-good {st} (Yields.writes {after = after} {p = p} {value = value} e r) (Honest.step (Honest.write w)) s is at bs g k h =
        let c = step-y code n y bs s.plain st (Writes p value after) g.plain (subst (λ z. Extends z y) (sym is) ext) k e in
        walk-good r w (puts s p value) is (ap (λ z. stored z p value) at) bs (good-puts code names n bs s p value g c.1) c.2 h
    walk-good {st} {a = a} {t = t} (Yields.reads {below = below} {p = p} {u = u} {v = v} {args = args} {value =
        value} {inside = o} {rest = l} e r1 r2) (Honest.step (Honest.read {t = m} same w1 w2)) s is at bs g k h =
        let c = step-y code n y bs s.plain st (Reads p u v args below) g.plain (subst (λ z. Extends z y) (sym is) ext) k e in
        let kv : KnownWord n bs value = subst (KnownWord n bs) (ap (λ z. z p) at ∙ same) (g.store p) in
        let g1 = walk-good r1 w1 s is at bs g (words_after_read-known n bs code u.0 v args value Empty c.1 kv tt) h.1 in
        let g2 = walk-good r2 w2 (with_store s m) is refl (known_after bs (flat o)) g1 (stack-more n bs (known_after bs (flat o)) (allocs-more bs (flat o)) below c.2) h.2 in
        subst (λ bs. Good names n bs (with_store s t)) (sym (allocs-both bs (flat o) (End ∷ flat l))) g2

  -- what is known where the unit is re-executed, bs being the blocks that the items before the read allocate
  pub record Ready (bs : List ℕ) (s : State) (p : Place) (value : Word) (u : UnitId) (v : ℕ) (args : List Word) (inside : Trace) : Type 0 where
    pub good : Good names n bs s
    pub place : KnownBlock n bs p.block
    pub words : KnownWords n bs args
    pub stack : KnownStack n bs (resumed code u v args (s.store p))
    pub yields : Yields code y (resumed code u v args value) inside
    pub pieces : Pieces code s.plain y inside

  alloc-good : (bs : List ℕ) (s : State) (st below : Stack) (key : Key) (v u i b : ℕ) (env : Variables)
      → Extends s.plain y → Good names n bs s → KnownStack n bs st → next code y st ≡ Makes key v u i env below
      → s.plain (Core b) ≡ Some (made code y key) → Good names n (b ∷ bs) (clears code s (Core b) key)
  alloc-good bs s st below key v u i b env ext g k e h =
      good-alloc bs s b key g (held-key code n y bs s.plain key b g.plain ext (step-y code n y bs s.plain st (Makes key v u i env below) g.plain ext k e).0 h)

  alloc-known : (bs : List ℕ) (s : State) (st below : Stack) (key : Key) (v u i b : ℕ) (env : Variables)
      → Extends s.plain y → Good names n bs s → KnownStack n bs st → next code y st ≡ Makes key v u i env below
      → KnownStack n (b ∷ bs) (Run u i (set env v (pointer key (Core b))) below)
  alloc-known bs s st below key v u i b env ext g k e =
      let c = step-y code n y bs s.plain st (Makes key v u i env below) g.plain ext k e in ran-known n bs key b v u i env below c.1 c.2

  -- after a read that is honest with all inside it
  ready-after : (bs : List ℕ) (o : Trace) (front : List Item) (s : State) (p : Place) (value : Word) (u : UnitId)
      (v : ℕ) (args : List Word) (inside : Trace) → Ready
      (known_after (known_after bs (flat o)) front) s p value u v args inside
      → Ready (known_after bs (flat o ++ End ∷ front)) s p value u v args inside
  ready-after bs o front s p value u v args inside h = subst (λ bs. Ready bs s p value u v args inside) (sym (allocs-both bs (flat o) (End ∷ front))) h

  -- what is known of the items that follow, also between a step and what the step does
  abbrev Flow : List ℕ → State → Trace → Type 0
  Flow bs s Nothing = ⊤
  Flow bs s (Stepped rest) = (st : Stack) × Yields code y st (Stepped rest) × KnownStack n bs st
  Flow bs s (Allocated c key rest) = (b : ℕ) × (c ≡ Core b) × Good names n (b ∷ bs) (clears code s (Core b) key) × (st : Stack) × Yields code y st rest × KnownStack n (b ∷ bs) st
  Flow bs s (Wrote p value rest) = KnownWord n bs value × (st : Stack) × Yields code y st rest × KnownStack n bs st
  Flow bs s (WasRead p value u v args inside rest) =
      KnownBlock n bs p.block × KnownWords n bs args × Yields code y (resumed code u v args value) inside × (below : Stack) × Yields code y below rest × KnownStack n bs below

  flows : (bs : List ℕ) (s : State) (st : Stack) (l : Trace) → Yields code y st l → KnownStack n bs st → Flow bs s l
  flows bs s st Nothing r k = tt
  flows bs s st (Stepped rest) r k = (st, r, k)
  flows bs s st (Allocated c key rest) r k = elim r [ ]
  flows bs s st (Wrote p value rest) r k = elim r [ ]
  flows bs s st (WasRead p value u v args inside rest) r k = elim r [ ]

  after-step : (bs : List ℕ) (s : State) (st : Stack) (rest : Trace) → Yields code y st (Stepped rest)
      → Extends s.plain y → Good names n bs s → KnownStack n bs st → Pieces code s.plain y rest → Flow bs s rest
  after-step bs s st rest (Yields.quiet {after = after} e r) ext g k h = flows bs s after rest r (step-y code n y bs s.plain st (Quiet after) g.plain ext k e)
  after-step bs s st rest (Yields.makes {key = key} {v = v} {u = u} {i = i} {env = env} {below = below} {b = b} e m r) ext g k h =
      (b, refl, alloc-good bs s st below key v u i b env ext g k e h.0, Run u i (set env v (pointer key (Core b))) below, r, alloc-known bs s st below key v u i b env ext g k e)
  after-step bs s st rest (Yields.writes {after = after} {p = p} {value = value} e r) ext g k h =
      let c = step-y code n y bs s.plain st (Writes p value after) g.plain ext k e in (c.1, after, r, c.2)
  after-step bs s st rest (Yields.reads {below = below} {p = p} {u = u} {v = v} {args = args} e r1 r2) ext g k h =
      let c = step-y code n y bs s.plain st (Reads p u v args below) g.plain ext k e in (c.0, c.1, r1, below, r2, c.2)

  after-alloc : (bs : List ℕ) (c : BlockId) (key : Key) (front : List Item) (P : List ℕ → Type 0) (b : ℕ) → c ≡ Core b → P (known_after (b ∷ bs) front) → P (known_after bs (Alloc c key ∷ front))
  after-alloc bs c key front P b e q = subst (λ c. P (known_after bs (Alloc c key ∷ front))) (sym e) q

  core-pieces : (s : State) (c : BlockId) (b : ℕ) (key : Key) (rest : Trace) → c ≡ Core b → Pieces code s.plain y (Allocated c key rest) → Pieces code s.plain y rest
  core-pieces s c b key rest e h = let h' : Pieces code s.plain y (Allocated (Core b) key rest) = subst (λ c. Pieces code s.plain y (Allocated c key rest)) e h in h'.1

  alloc-flow : (bs : List ℕ) (s : State) (c : BlockId) (b : ℕ) (key : Key) (st : Stack) (rest : Trace) → Yields code y st rest → KnownStack n (b ∷ bs) st → Flow (b ∷ bs) (clears code s c key) rest
  alloc-flow bs s c b key st rest r k = flows (b ∷ bs) (clears code s c key) st rest r k

  inside-stack : (bs : List ℕ) (s : State) (p : Place) (value : Word) (u : UnitId) (v : ℕ) (args : List Word)
      → Good names n bs s → KnownWords n bs args → s.store p ≡ value → KnownStack n bs (resumed code u v args value)
  inside-stack bs s p value u v args g k same = words_after_read-known n bs code u.0 v args value Empty k (subst (KnownWord n bs) same (g.store p)) tt

  pub at-ready : (s : State) {l inside : Trace} {front back : List Item} {w : Store} {p : Place} {value : Word} {u : UnitId} {v : ℕ} {args : List Word}
      → At code s.store l front w p value u v args inside back
      → (bs : List ℕ) → Flow bs s l → Extends s.plain y → Good names n bs s → Pieces code s.plain y l → Ready (known_after bs front) (with_store s w) p value u v args inside
  at-ready s (At.step {rest = rest} q) bs d ext g h = at-ready s q bs (after-step bs s d.0 rest d.1 ext g d.2 h) ext g h
  at-ready s (At.alloc {w = w} {b = c} {key = key} {rest = rest} {front = front} {p = p} {value = value} {u = u} {v = v} {args = args} {inside = inside} q) bs d ext g h =
      after-alloc bs c key front (λ bs. Ready bs (with_store s w) p value u v args inside) d.0 d.1
      (at-ready (clears code s c key) q (d.0 ∷ bs) (alloc-flow bs s c d.0 key d.3 rest d.4 d.5) ext
      (subst (λ c'. Good names n (d.0 ∷ bs) (clears code s c' key)) (sym d.1) d.2)
      (core-pieces s c d.0 key rest d.1 h))
  at-ready s (At.write {x = p} {y = value} {rest = rest} q) bs d ext g h =
      at-ready (puts s p value) q bs (flows bs (puts s p value) d.1 rest d.2 d.3) ext (good-puts code names n bs s p value g d.0) h
  at-ready s (At.here {p = p} {value = value} {u = u} {v = v} {args = args}) bs d ext g h =
      record { good = g; place = d.0; words = d.1; stack = words_after_read-known n bs code u.0 v args (s.store p) Empty d.1 (g.store p) tt; yields = d.2; pieces = h.1 }
  at-ready s (At.inner {x = p} {y = value} {c = u} {n = v} {ws = args} {within = o} same q) bs d ext g h =
      at-ready s q bs (flows bs s (resumed code u v args value) o d.2 (inside-stack bs s p value u v args g d.1 same)) ext g h.1
  at-ready s (At.outer {t = m} {w = w} {x = p} {y = value} {c = u} {n = v} {ws = args} {within = o} {rest =
      rest} {front = front} {p = p2} {value = value2} {u = u2} {v = v2} {args = args2} {inside =
      o2} same hw q) bs d ext g h =
      ready-after bs o front (with_store s w) p2 value2 u2 v2 args2 o2
      (at-ready (with_store s m) q (known_after bs (flat o))
      (flows (known_after bs (flat o)) (with_store s m) d.3 rest d.4
      (stack-more n bs (known_after bs (flat o)) (allocs-more bs (flat o)) d.3 d.5)) ext
      (walk-good s.plain ext d.2 hw s refl refl bs g (inside-stack bs s p value u v args g d.1 same) h.1) h.2)

module _ {names : ℕ → ℕ} (code : Code) (inputs : List Block) (f : ℕ) (args : List Word) (fits : Fits code inputs f args) (r : Repair) (h : RepairHolds code names inputs f args r) where
  -- of a repair that holds, over any plain words that have more
  pub ready-over : (y : Plain) → Extends (with_inputs code inputs r.known) y → {front back : List Item} {w : Store} {p : Place} {value : Word} {u : UnitId} {v : ℕ} {ws : List Word} {inside : Trace}
      → At code (starting code inputs r.known) r.items front w p value u v ws inside back
      → Ready names h.single code (length inputs) y (known_after [] front) (with_store (goes_on code inputs r) w) p value u v ws inside
  ready-over y ext q =
      let x = with_inputs code inputs r.known in
      let yields = uses-yields code (length inputs) h.blocks x y h.holds (agrees (length inputs) h.blocks x y h.holds ext) h.yields (start-known code inputs f args fits r h h.blocks) h.uses in
      let g : Good names (length inputs) [] (goes_on code inputs r) =
      record { plain = begun code inputs f args fits r h; store = starting-known code inputs fits.blocks r.known; free = (good code inputs f args fits r h).free } in
      at-ready names h.single code (length inputs) y (goes_on code inputs r) q []
      (flows names h.single code (length inputs) y [] (goes_on code inputs r) (started code f args) r.items yields
      (start-known code inputs f args fits r h [])) ext g
      (uses-pieces code (length inputs) h.blocks x y h.holds ext yields h.uses)

  pub sound-ready : {front back : List Item} {w : Store} {p : Place} {value : Word} {u : UnitId} {v : ℕ} {ws : List Word} {inside : Trace}
      → At code (starting code inputs r.known) r.items front w p value u v ws inside back
      → Ready names h.single code (length inputs) (with_inputs code inputs r.known) (known_after [] front) (with_store (goes_on code inputs r) w) p value u v ws inside
  sound-ready q = ready-over (with_inputs code inputs r.known) (λ b block e. e) q
