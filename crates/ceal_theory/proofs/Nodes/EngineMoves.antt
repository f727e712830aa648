-- What an engine does to its nodes, as moves of the machine and steps that are dropped.
use Rattle.std.proofs.Common.{◌≡◌, ℕ, zero, suc, true, false, Some, None, List, [], ◌∷◌, ◌++◌, refl, sym, ap, ◌∙◌, subst, append_assoc, append-nil}
use Rattle.ceal_base.specs.Operators.{same_word}
use Rattle.ceal_base.specs.Trace.{Trace, Stepped, flat, trace_then}
use Rattle.ceal_base.specs.declared.forest.Item.{Item}
use Rattle.ceal_base.specs.declared.forest.Item.TheVariants.{Step, Alloc, Write, Read, End}
use Rattle.ceal_base.specs.declared.forest.Key.{Key}
use Rattle.ceal_base.specs.declared.forest.UnitId.{UnitId}
use Rattle.ceal_base.specs.declared.word.BlockId.TheVariants.{Core}
use Rattle.ceal_base.specs.declared.word.Place.{Place}
use Rattle.ceal_base.specs.declared.word.Word.{Word}
use Rattle.ceal_code.proofs.Words.SameIsEqual.{word-refl}
use Rattle.ceal_code.specs.Init.{pointer}
use Rattle.ceal_code.specs.Program.{Code}
use Rattle.ceal_code.specs.Step.{Stack, Run, Over, Quiet, Makes, Writes, Reads, next}
use Rattle.ceal_code.specs.Value.{Variables, set}
use Rattle.ceal_theory.proofs.Reuse.StepsBetween.{bare-law, frames-self, mode-self}
use Rattle.ceal_theory.proofs.Reuse.FlatTake.{followed-nothing, first-flat, around-flat}
use Rattle.ceal_theory.proofs.MoveMachine.MachineLaws.{leads-stays, leads-then, leads-move}
use Rattle.ceal_theory.proofs.Reuse.TakenAfterRevocation.{bare-stepped}
use Rattle.ceal_theory.specs.Course.{Wait, Fixes, Takes, Begins, frames_at, fixing_at, running_at, Nested, BareMode, BareFrames, BareSame, MovesLaw}
use Rattle.ceal_theory.specs.Groves.{Knot, Grove, Bare, Made, Put, Got, stepped, trace_in, knot, knots, bare, ticks, items_in, Closes}
use Rattle.ceal_theory.specs.Levels.{first, around, levels}
use Rattle.ceal_theory.specs.Repair.{State, clears, puts, works, grows, resumed}
use Rattle.ceal_theory.specs.Take.{TakenAlloc, TakenRead, take_alloc, take_read}
use Rattle.ceal_theory.specs.Moves.{Fixing, Running, AfterMend, Machine, Went, next_move, BecomesBy}
use Rattle.ceal_theory.specs.Walk.{with_store, store_after, AgreesAll}

-- steps in front of items
first-ticks : (n : ℕ) (is : List Item) → first (levels (ticks n ++ is)) ≡ stepped n (first (levels is))
first-ticks zero is = refl
first-ticks (suc n) is = ap Stepped (first-ticks n is)

around-ticks : (n : ℕ) (is : List Item) → around (levels (ticks n ++ is)) ≡ around (levels is)
around-ticks zero is = refl
around-ticks (suc n) is = around-ticks n is

flat-stepped : (n : ℕ) (t : Trace) → flat (stepped n t) ≡ ticks n ++ flat t
flat-stepped zero t = refl
flat-stepped (suc n) t = ap (λ is. Step ∷ is) (flat-stepped n t)

pub items-append : (f g : List Knot) → items_in (f ++ g) ≡ items_in f ++ items_in g
items-append [] g = refl
items-append (k ∷ ks) g = ap (λ is. k.item ∷ (ticks k.steps ++ is)) (items-append ks g) ∙ ap (λ is. k.item ∷ is) (sym (append_assoc (ticks k.steps) (items_in ks) (items_in g)))

-- the items of nodes are their trace, flat
pub items-knots : (g : Grove) → items_in (knots g) ≡ flat (trace_in g)
items-knots Bare = refl
items-knots (Made s b key n rest) = ap (λ is. Alloc b key ∷ (ticks n ++ is)) (items-knots rest) ∙ ap (λ is. Alloc b key ∷ is) (sym (flat-stepped n (trace_in rest)))
items-knots (Put s p v n rest) = ap (λ is. Write p v ∷ (ticks n ++ is)) (items-knots rest) ∙ ap (λ is. Write p v ∷ is) (sym (flat-stepped n (trace_in rest)))
items-knots (Got s p v u x args n inside e m rest) =
    rw (items-append (knots inside) (knot e End m ∷ knots rest), items-knots inside, items-knots rest, flat-stepped n (trace_in inside), flat-stepped m (trace_in rest))
    (ap (λ is. Read p v u x args ∷ is) (sym (append_assoc (ticks n) (flat (trace_in inside)) (End ∷ (ticks m ++ flat (trace_in rest))))))

-- what is left over is the trace of its nodes
pub first-knots : (g : Grove) {tail : List Knot} → Closes tail → first (levels (items_in (knots g ++ tail))) ≡ trace_in g
first-knots g {tail} c = rw (items-append (knots g) tail, items-knots g, first-flat (trace_in g) (items_in tail)) (go c)
  where
    go : {tail : List Knot} → Closes tail → trace_then (trace_in g) (first (levels (items_in tail))) ≡ trace_in g
    go Closes.nothing = followed-nothing (trace_in g)
    go (Closes.closes e m rest) = followed-nothing (trace_in g)

pub around-knots : (g : Grove) (tail : List Knot) → around (levels (items_in (knots g ++ tail))) ≡ around (levels (items_in tail))
around-knots g tail = rw (items-append (knots g) tail, items-knots g) (around-flat (trace_in g) (items_in tail))

module _ (code : Code) (names : ℕ → ℕ) where
  -- steps in front of what is left over are dropped
  pub drop-ticks : (s : State) (st : Stack) (ws : List Wait) (n : ℕ) (is : List Item) → BareSame (running_at s st ws (ticks n ++ is)) (running_at s st ws is)
  drop-ticks s st ws n is = record {
    state = refl;
    mode = BareMode.runs (ap bare (first-ticks n is) ∙ bare-stepped n (first (levels is)));
    frames = subst (λ ts. BareFrames (frames_at ws ts) (frames_at ws (around (levels is)))) (sym (around-ticks n is)) (frames-self code names (frames_at ws (around (levels is))));
  }

  abbrev Comes : Machine → List Item → Machine → Type 0
  Comes m out m' = BecomesBy code names m m' out

  bare-self : (m : Machine) → BareSame m m
  bare-self m = record { state = refl; mode = mode-self code names m.mode; frames = frames-self code names m.frames }

  -- one move, and then steps that are dropped
  move-then : (m m1 m2 : Machine) (w : List Item) → next_move code names m ≡ Went w m1 → BareSame m1 m2 → BecomesBy code names m m2 w
  move-then m m1 m2 w e d = subst (λ o. BecomesBy code names m m2 o) (append-nil w) (leads-then code names m m1 m2 w [] (leads-move code names m m1 w e) (bare-law code names m1 m2 d))

  one-move : (m m1 : Machine) (w : List Item) → next_move code names m ≡ Went w m1 → BecomesBy code names m m1 w
  one-move m m1 w e = leads-move code names m m1 w e

  -- one move, and what follows
  and-on : (m m1 m2 : Machine) (i : Item) (is : List Item) → next_move code names m ≡ Went (i ∷ []) m1 → BecomesBy code names m1 m2 is → BecomesBy code names m m2 (i ∷ is)
  and-on m m1 m2 i is e l = leads-then code names m m1 m2 (i ∷ []) is (leads-move code names m m1 (i ∷ []) e) l

  pub passes : {ws vs : List Wait} {is : List Item} → Nested ws is vs → (s : State) → AgreesAll code s.store is → (rest : List Item)
      → BecomesBy code names (fixing_at s ws (is ++ rest)) (fixing_at (with_store s (store_after code s.store is)) vs rest) is
  unfolding next_move
  passes {ws} Nested.none s h rest = leads-stays code names (fixing_at s ws rest)
  passes {ws} {vs} (Nested.step {is = is} n) s h rest =
      and-on (fixing_at s ws (Step ∷ (is ++ rest))) (fixing_at s ws (is ++ rest)) (fixing_at (with_store s (store_after code s.store is)) vs rest) Step is refl (passes n s h.1 rest)
  passes {ws} {vs} (Nested.alloc {b = b} {key = key} {is = is} n) s h rest =
      let s1 : State = clears code s b key in
      and-on (fixing_at s ws (Alloc b key ∷ (is ++ rest))) (fixing_at s1 ws (is ++ rest)) (fixing_at (with_store s (store_after code s1.store is)) vs rest) (Alloc b key) is refl (passes n s1 h.1 rest)
  passes {ws} {vs} (Nested.write {p = p} {value = value} {is = is} n) s h rest =
      let s1 : State = puts s p value in
      and-on (fixing_at s ws (Write p value ∷ (is ++ rest))) (fixing_at s1 ws (is ++ rest))
      (fixing_at (with_store s (store_after code s1.store is)) vs rest) (Write p value) is refl
      (passes n s1 h.1 rest)
  passes {ws} {vs} (Nested.read {p = p} {value = value} {u = u} {v = v} {args = args} {is = is} n) s h rest =
      and-on (fixing_at s ws (Read p value u v args ∷ (is ++ rest))) (fixing_at s (Fixes ∷ ws) (is ++ rest)) (fixing_at (with_store s (store_after code s.store is)) vs rest) (Read p value u v args) is
      (rw (h.0, word-refl value) refl) (passes n s h.1 rest)
  passes {vs = vs} (Nested.end {ws = ws} {is = is} n) s h rest =
      and-on (fixing_at s (Fixes ∷ ws) (End ∷ (is ++ rest))) (fixing_at s ws (is ++ rest)) (fixing_at (with_store s (store_after code s.store is)) vs rest) End is refl (passes n s h.1 rest)

  -- a stale read in what is kept is re-executed: its steps are dropped
  pub repairs : (s : State) (ws : List Wait) (p : Place) (value : Word) (u : UnitId) (v : ℕ) (args : List Word) (stamp n : ℕ) (back : List Knot)
      → same_word (s.store p) value ≡ false
      → Comes (fixing_at s ws (items_in (knot stamp (Read p value u v args) n ∷ back)))
      (Read p (s.store p) u v args ∷ []) (running_at s (resumed code u v args (s.store p)) (Fixes ∷ ws)
      (items_in back))
  unfolding next_move
  repairs s ws p value u v args stamp n back e =
      move-then (fixing_at s ws (items_in (knot stamp (Read p value u v args) n ∷ back))) (running_at s (resumed code u v args (s.store p)) (Fixes ∷ ws) (ticks n ++ items_in back))
      (running_at s (resumed code u v args (s.store p)) (Fixes ∷ ws) (items_in back))
      (Read p (s.store p) u v args ∷ []) (rw e refl)
      (drop-ticks s (resumed code u v args (s.store p)) (Fixes ∷ ws) n (items_in back))

  -- its unit is over: what is left over is revoked, and what is kept continues after its end
  pub repaired : (s : State) (st : Stack) (ws : List Wait) (g : Grove) (e m : ℕ) (rest : List Knot) → next code s.plain st ≡ Over
      → Comes (running_at s st (Fixes ∷ ws) (items_in (knots g ++ knot e End m ∷ rest))) (End ∷ []) (fixing_at s ws (ticks m ++ items_in rest))
  unfolding next_move
  repaired s st ws g e m rest h =
      rw (around-knots g (knot e End m ∷ rest))
      (one-move (record {
        state = s;
        mode = Running st
            (first (levels (items_in (knots g ++ knot e End m ∷ rest))));
        frames = frames_at (Fixes ∷ ws)
            (levels (ticks m ++ items_in rest));
      })
      (fixing_at s ws (ticks m ++ items_in rest)) (End ∷ []) (rw h refl))

  -- a taken read that was re-executed is over: what was left over after it is used from here on
  pub retaken : (s : State) (st below : Stack) (ws : List Wait) (g : Grove) (e m : ℕ) (rest : List Knot) → next code s.plain st ≡ Over
      → Comes (running_at s st (Takes below ∷ ws) (items_in (knots g ++ knot e End m ∷ rest))) (End ∷ []) (running_at s below ws (items_in rest))
  unfolding next_move
  retaken s st below ws g e m rest h =
      rw (around-knots g (knot e End m ∷ rest))
      (move-then (record {
        state = s;
        mode = Running st
            (first (levels (items_in (knots g ++ knot e End m ∷ rest))));
        frames = frames_at (Takes below ∷ ws)
            (levels (ticks m ++ items_in rest));
      })
      (running_at s below ws (ticks m ++ items_in rest)) (running_at s below ws (items_in rest)) (End ∷ []) (rw h refl) (drop-ticks s below ws m (items_in rest)))

  -- a taken read that was kept is over
  pub passed : (s : State) (below : Stack) (ws : List Wait) (e m : ℕ) (rest : List Knot)
      → Comes (fixing_at s (Takes below ∷ ws) (items_in (knot e End m ∷ rest))) (End ∷ []) (running_at s below ws (items_in rest))
  unfolding next_move
  passed s below ws e m rest =
      move-then (fixing_at s (Takes below ∷ ws) (items_in (knot e End m ∷ rest)))
      (running_at s below ws (ticks m ++ items_in rest)) (running_at s below ws (items_in rest)) (End ∷ []) refl
      (drop-ticks s below ws m (items_in rest))

  -- a new read is over: its end is put in
  pub finished : (s : State) (st below : Stack) (ws : List Wait) (is : List Item) → next code s.plain st ≡ Over
      → Comes (running_at s st (Begins below ∷ ws) is) (End ∷ []) (running_at s below ws is)
  unfolding next_move
  finished s st below ws is h = one-move (running_at s st (Begins below ∷ ws) is) (running_at s below ws is) (End ∷ []) (rw h refl)

  -- an allocation is taken, and all before it is revoked: it is the one that the definition takes
  pub alloc-taken : (s : State) (st : Stack) (ws : List Wait) (g : Grove) (tail : List Knot) (key : Key) (v u i : ℕ) (env : Variables) (below : Stack) (t : TakenAlloc) (rest : Grove)
      → Closes tail → next code s.plain st ≡ Makes key v u i env below
      → take_alloc key (trace_in g) ≡ Some t → bare t.leftover ≡ bare (trace_in rest)
      → Comes (running_at s st ws (items_in (knots g ++ tail))) (Step ∷ Alloc t.block key ∷ [])
      (running_at (clears code (works s) t.block key) (Run u i (set env v (pointer key t.block)) below) ws (items_in (knots rest ++ tail)))
  unfolding next_move
  alloc-taken s st ws g tail key v u i env below t rest c h k b =
      let after : Stack = Run u i (set env v (pointer key t.block)) below in
      let s1 : State = clears code (works s) t.block key in
      move-then (running_at s st ws (items_in (knots g ++ tail))) (record { state = s1; mode = Running after t.leftover; frames = frames_at ws (around (levels (items_in (knots g ++ tail)))) })
      (running_at s1 after ws (items_in (knots rest ++ tail))) (Step ∷ Alloc t.block key ∷ []) (rw (h, first-knots g c, k) refl)
      (record {
        state = refl;
        mode = BareMode.runs (b ∙ ap bare (sym (first-knots rest c)));
        frames = rw (around-knots g tail, around-knots rest tail) (frames-self code names (frames_at ws (around (levels (items_in tail)))));
      })

  -- a new block, of any name
  pub alloc-made : (s : State) (st : Stack) (ws : List Wait) (g : Grove) (tail : List Knot) (key : Key) (v u i : ℕ) (env : Variables) (below : Stack) (b : ℕ)
      → names s.number ≡ b → Closes tail → next code s.plain st ≡ Makes key v u i env below → take_alloc key (trace_in g) ≡ None
      → Comes (running_at s st ws (items_in (knots g ++ tail))) (Step ∷ Alloc (Core b) key ∷ [])
      (running_at (grows code (λ k. b) (works s) key) (Run u i (set env v (pointer key (Core b))) below) ws (items_in (knots g ++ tail)))
  unfolding next_move
  alloc-made s st ws g tail key v u i env below b e c h k =
      let after : Stack = Run u i (set env v (pointer key (Core b))) below in
      let s1 : State = grows code (λ k. b) (works s) key in
      move-then (running_at s st ws (items_in (knots g ++ tail)))
      (running_at s1 after ws (items_in (knots g ++ tail))) (running_at s1 after ws (items_in (knots g ++ tail)))
      (Step ∷ Alloc (Core b) key ∷ [])
      (rw (h, first-knots g c, k, e) refl) (bare-self (running_at s1 after ws (items_in (knots g ++ tail))))

  -- a write
  pub write-put : (s : State) (st after : Stack) (ws : List Wait) (is : List Item) (p : Place) (value : Word) → next code s.plain st ≡ Writes p value after
      → Comes (running_at s st ws is) (Step ∷ Write p value ∷ []) (running_at (puts (works s) p value) after ws is)
  unfolding next_move
  write-put s st after ws is p value h = one-move (running_at s st ws is) (running_at (puts (works s) p value) after ws is) (Step ∷ Write p value ∷ []) (rw h refl)

  -- a step
  pub step-done : (s : State) (st after : Stack) (ws : List Wait) (is : List Item) → next code s.plain st ≡ Quiet after
      → Comes (running_at s st ws is) (Step ∷ []) (running_at (works s) after ws is)
  unfolding next_move
  step-done s st after ws is h = one-move (running_at s st ws is) (running_at (works s) after ws is) (Step ∷ []) (rw h refl)

  -- a new read, which shares what is left over
  pub read-begun : (s : State) (st below : Stack) (ws : List Wait) (g : Grove) (tail : List Knot) (p : Place) (u : UnitId) (v : ℕ) (args : List Word) → Closes tail
      → next code s.plain st ≡ Reads p u v args below → take_read p u v args (trace_in g) ≡ None
      → Comes (running_at s st ws (items_in (knots g ++ tail))) (Step ∷ Read p (s.store p) u v args ∷ [])
      (running_at (works s) (resumed code u v args (s.store p)) (Begins below ∷ ws) (items_in (knots g ++ tail)))
  unfolding next_move
  read-begun s st below ws g tail p u v args c h k =
      one-move (running_at s st ws (items_in (knots g ++ tail)))
      (running_at (works s) (resumed code u v args (s.store p)) (Begins below ∷ ws) (items_in (knots g ++ tail)))
      (Step ∷ Read p (s.store p) u v args ∷ [])
      (rw (h, first-knots g c, k) refl)

  -- a read that is taken is after what was revoked, its items inside it and what is left over after its end
  module _ (s : State) (st below : Stack) (ws : List Wait) (g inside rest : Grove) (e m n : ℕ) (tail : List Knot) (p : Place) (u : UnitId) (v : ℕ) (args : List Word) (t : TakenRead)
      (c : Closes tail) (h : next code s.plain st ≡ Reads p u v args below) (k : take_read p u v args (trace_in g) ≡ Some t)
      (in_it : t.inside ≡ stepped n (trace_in inside)) (behind : bare t.leftover ≡ bare (trace_in rest)) where
    -- its nodes, and those after it
    abbrev taken_nodes : List Knot
    taken_nodes = knots inside ++ knot e End m ∷ (knots rest ++ tail)

    inside-first : first (levels (ticks n ++ items_in taken_nodes)) ≡ stepped n (trace_in inside)
    inside-first = first-ticks n (items_in taken_nodes) ∙ ap (stepped n) (first-knots inside (Closes.closes e m (knots rest ++ tail)))

    inside-around : around (levels (ticks n ++ items_in taken_nodes)) ≡ levels (ticks m ++ items_in (knots rest ++ tail))
    inside-around = around-ticks n (items_in taken_nodes) ∙ around-knots inside (knot e End m ∷ (knots rest ++ tail))

    behind-same : BareFrames (AfterMend below t.leftover
        (frames_at ws (around (levels (items_in (knots g ++ tail))))))
        (frames_at (Takes below ∷ ws) (levels (ticks m ++ items_in (knots rest ++ tail))))
    behind-same = rw (first-ticks m (items_in (knots rest ++ tail)), first-knots rest c, around-ticks m (items_in (knots rest ++ tail)), around-knots rest tail, around-knots g tail)
        (BareFrames.after_mend (behind ∙ sym (bare-stepped m (trace_in rest))) (frames-self code names (frames_at ws (around (levels (items_in tail))))))

    -- it is honest, and what is inside it is gone through
    pub read-taken : same_word (s.store p) t.value ≡ true
        → Comes (running_at s st ws (items_in (knots g ++ tail))) (Step ∷ Read p (s.store p) u v args ∷ []) (fixing_at (works s) (Takes below ∷ ws) (ticks n ++ items_in taken_nodes))
    unfolding next_move
    read-taken same =
        move-then (running_at s st ws (items_in (knots g ++ tail)))
        (record {
          state = works s;
          mode = Fixing t.inside;
          frames = AfterMend below t.leftover
              (frames_at ws (around (levels (items_in (knots g ++ tail)))));
        })
        (fixing_at (works s) (Takes below ∷ ws) (ticks n ++ items_in taken_nodes)) (Step ∷ Read p (s.store p) u v args ∷ []) (rw (h, first-knots g c, k, same) refl)
        (record {
          state = refl;
          mode = rw (in_it, inside-first) BareMode.fixes;
          frames = rw inside-around behind-same;
        })

    -- it is stale, and its unit runs with what was inside it
    pub read-retaken : same_word (s.store p) t.value ≡ false
        → Comes (running_at s st ws (items_in (knots g ++ tail))) (Step ∷ Read p (s.store p) u v args ∷ [])
        (running_at (works s) (resumed code u v args (s.store p)) (Takes below ∷ ws) (items_in taken_nodes))
    unfolding next_move
    read-retaken other =
        move-then (running_at s st ws (items_in (knots g ++ tail)))
        (record {
          state = works s;
          mode = Running (resumed code u v args (s.store p)) t.inside;
          frames =
              AfterMend below t.leftover (frames_at ws (around (levels (items_in (knots g ++ tail)))));
        })
        (running_at (works s) (resumed code u v args (s.store p)) (Takes below ∷ ws) (items_in taken_nodes)) (Step ∷ Read p (s.store p) u v args ∷ []) (rw (h, first-knots g c, k, other) refl)
        (record {
          state = refl;
          mode = BareMode.runs (ap bare in_it ∙ (bare-stepped n (trace_in inside) ∙ ap bare (sym (first-knots inside (Closes.closes e m (knots rest ++ tail))))));
          frames = rw (around-knots inside (knot e End m ∷ (knots rest ++ tail))) behind-same;
        })

pub moves-law : MovesLaw
moves-law code names = record {
  passes = λ n s h rest. passes code names n s h rest;
  repairs = repairs code names;
  repaired = repaired code names;
  retaken = retaken code names;
  passed = passed code names;
  finished = finished code names;
  alloc_taken = alloc-taken code names;
  alloc_made = alloc-made code names;
  write_put = write-put code names;
  step_done = step-done code names;
  read_begun = read-begun code names;
  read_taken = λ s st below ws g inside rest e m n tail p u v args t c h k i b same. read-taken code names s st below ws g inside rest e m n tail p u v args t c h k i b same;
  read_retaken = λ s st below ws g inside rest e m n tail p u v args t c h k i b other. read-retaken code names s st below ws g inside rest e m n tail p u v args t c h k i b other;
}
