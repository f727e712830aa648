-- One read repaired: the first that is not honest is re-executed, and all other items stay.
use Rattle.std.proofs.Common.{◌≡◌, ℕ, zero, suc, ◌≤◌, Bool, true, false, List, [], ◌∷◌, ◌++◌, refl, sym, ap, ◌∙◌, subst, arith}
use Rattle.ceal_base.specs.Operators.{same_word}
use Rattle.ceal_base.specs.Trace.{Trace, Nothing, Stepped, Allocated, Wrote, WasRead, flat}
use Rattle.ceal_base.specs.declared.forest.Item.{Item}
use Rattle.ceal_base.specs.declared.forest.Item.TheVariants.{Step, Alloc, Write, Read, End}
use Rattle.ceal_base.specs.declared.forest.UnitId.{UnitId}
use Rattle.ceal_base.specs.declared.word.Place.{Place}
use Rattle.ceal_base.specs.declared.word.Word.{Word}
use Rattle.ceal_code.proofs.Words.SameIsEqual.{word-same, word-refl}
use Rattle.ceal_code.specs.Program.{Code}
use Rattle.ceal_code.specs.Replay.{Store, Honest, cleared, stored}
use Rattle.ceal_theory.specs.Repair.{State, clears, puts, resumed, Reruns}
use Rattle.ceal_theory.specs.Moves.{Running, Bottom, Machine, Resumes, Finishes}
use Rattle.ceal_code.specs.Step.{Stack}
use Rattle.ceal_theory.proofs.SlicedRepair.SliceFunction.{part-rises}
use Rattle.ceal_theory.proofs.SlicedRepair.Composition.{walk-part}
use Rattle.ceal_theory.proofs.Store.Walk.{flat-after, flat-honest, agrees-append, after-append}
use Rattle.ceal_theory.specs.Cover.{At}
use Rattle.ceal_theory.specs.Walk.{store_item, store_after, Agrees, AgreesAll, with_store}
use Rattle.ceal_theory.specs.Slices.{Part}

module _ (code : Code) where
  around : (a b c d : List Item) (x y : Item) → (a ++ x ∷ (b ++ y ∷ c)) ++ d ≡ a ++ x ∷ (b ++ y ∷ (c ++ d))
  around [] [] c d x y = refl
  around [] (i ∷ b) c d x y = ap (λ is. x ∷ i ∷ is) (tails b)
    where
      tails : (b : List Item) → (b ++ y ∷ c) ++ d ≡ b ++ y ∷ (c ++ d)
      tails [] = refl
      tails (i ∷ b) = ap (λ is. i ∷ is) (tails b)
  around (i ∷ a) b c d x y = ap (λ is. i ∷ is) (around a b c d x y)

  parts : (a b c : List Item) (y : Item) → (a ++ y ∷ b) ++ c ≡ a ++ y ∷ (b ++ c)
  parts [] b c y = refl
  parts (i ∷ a) b c y = ap (λ is. i ∷ is) (parts a b c y)

  -- the items of the trace
  pub at-flat : {s w : Store} {l inside : Trace} {front back : List Item} {p : Place} {value : Word} {u : UnitId} {v : ℕ} {args : List Word} → At code s l front w p value u v args inside back
      → flat l ≡ front ++ Read p value u v args ∷ (flat inside ++ End ∷ back)
  at-flat At.here = refl
  at-flat (At.step a) = ap (λ is. Step ∷ is) (at-flat a)
  at-flat (At.alloc {b = b} {key = key} a) = ap (λ is. Alloc b key ∷ is) (at-flat a)
  at-flat (At.write {x = x} {y = y} a) = ap (λ is. Write x y ∷ is) (at-flat a)
  at-flat (At.inner {x = x} {y = y} {c = c} {n = n} {ws = ws} {rest = rest} {front = front} {back = back} {p = p} {value = value} {u = u} {v = v} {args = args} {inside = inside} e a) =
      ap (λ is. Read x y c n ws ∷ is) (ap (λ is. is ++ End ∷ flat rest) (at-flat a) ∙ around front (flat inside) back (End ∷ flat rest) (Read p value u v args) End)
  at-flat (At.outer {x = x} {y = y} {c = c} {n = n} {ws = ws} {within = within} {front = front} e h a) =
      ap (λ is. Read x y c n ws ∷ is) (ap (λ is. flat within ++ End ∷ is) (at-flat a) ∙ sym (parts (flat within) front _ End))

  pub at-store : {s w : Store} {l inside : Trace} {front back : List Item} {p : Place} {value : Word} {u : UnitId} {v : ℕ} {args : List Word} → At code s l front w p value u v args inside back
      → w ≡ store_after code s front
  at-store At.here = refl
  at-store (At.step a) = at-store a
  at-store (At.alloc a) = at-store a
  at-store (At.write a) = at-store a
  at-store (At.inner e a) = at-store a
  at-store {s = s} (At.outer {within = within} {front = front} e h a) =
      at-store a ∙ (ap (λ z. store_after code z front) (flat-after code h) ∙ sym (after-append code s (flat within) (End ∷ front)))

  -- all before it are honest
  pub at-honest : {s w : Store} {l inside : Trace} {front back : List Item} {p : Place} {value : Word} {u : UnitId} {v : ℕ} {args : List Word} → At code s l front w p value u v args inside back
      → AgreesAll code s front
  at-honest At.here = tt
  at-honest (At.step a) = (tt, at-honest a)
  at-honest (At.alloc a) = (tt, at-honest a)
  at-honest (At.write a) = (tt, at-honest a)
  at-honest (At.inner e a) = (e, at-honest a)
  at-honest {s = s} (At.outer {within = within} {front = front} e h a) =
      (e, agrees-append code s (flat within) (End ∷ front) (flat-honest code h) (tt, subst (λ z. AgreesAll code z front) (flat-after code h) (at-honest a)))

  -- the first read that is not honest
  pub record Located (s : Store) (l : Trace) : Type 0 where
    pub front : List Item
    pub store : Store
    pub place : Place
    pub value : Word
    pub unit : UnitId
    pub var : ℕ
    pub args : List Word
    pub inside : Trace
    pub back : List Item
    pub at-it : At code s l front store place value unit var args inside back
    pub stale : ¬ (store place ≡ value)

  pub data Ahead (s : Store) (l : Trace) : Type 0 where
    honest : {t : Store} → Honest code s l t → Ahead s l
    stale : Located s l → Ahead s l

  pub locate : (l : Trace) (s : Store) → Ahead s l
  locate Nothing s = Ahead.honest Honest.end
  locate (Stepped rest) s = go (locate rest s)
    where
      go : Ahead s rest → Ahead s (Stepped rest)
      go (Ahead.honest h) = Ahead.honest (Honest.step h)
      go (Ahead.stale q) = Ahead.stale (record {
        front = Step ∷ q.front;
        store = q.store;
        place = q.place;
        value =
            q.value;
        unit = q.unit;
        var = q.var;
        args = q.args;
        inside = q.inside;
        back = q.back;
        at-it =
            At.step q.at-it;
        stale = q.stale;
      })
  locate (Allocated b key rest) s = go (locate rest (cleared code s b key))
    where
      go : Ahead (cleared code s b key) rest → Ahead s (Allocated b key rest)
      go (Ahead.honest h) = Ahead.honest (Honest.alloc h)
      go (Ahead.stale q) = Ahead.stale (record {
        front = Alloc b key ∷ q.front;
        store = q.store;
        place = q.place;
        value = q.value;
        unit = q.unit;
        var = q.var;
        args = q.args;
        inside = q.inside;
        back = q.back;
        at-it =
            At.alloc q.at-it;
        stale = q.stale;
      })
  locate (Wrote x y rest) s = go (locate rest (stored s x y))
    where
      go : Ahead (stored s x y) rest → Ahead s (Wrote x y rest)
      go (Ahead.honest h) = Ahead.honest (Honest.write h)
      go (Ahead.stale q) = Ahead.stale (record {
        front = Write x y ∷ q.front;
        store = q.store;
        place = q.place;
        value = q.value;
        unit = q.unit;
        var = q.var;
        args = q.args;
        inside = q.inside;
        back = q.back;
        at-it =
            At.write q.at-it;
        stale = q.stale;
      })
  locate (WasRead x y c n ws within rest) s = at-read (same_word (s x) y) refl (locate within s) (locate rest)
    where
      after : s x ≡ y → {t : Store} → Honest code s within t → Ahead t rest → Ahead s (WasRead x y c n ws within rest)
      after e h (Ahead.honest k) = Ahead.honest (Honest.read e h k)
      after e h (Ahead.stale q) = Ahead.stale (record {
        front = Read x y c n ws ∷ (flat within ++ End ∷ q.front);
        store = q.store;
        place = q.place;
        value = q.value;
        unit = q.unit;
        var = q.var;
        args = q.args;
        inside = q.inside;
        back = q.back;
        at-it = At.outer e h q.at-it;
        stale = q.stale;
      })

      at-read : (b : Bool) → same_word (s x) y ≡ b → Ahead s within → ((t : Store) → Ahead t rest) → Ahead s (WasRead x y c n ws within rest)
      at-read false e a k = Ahead.stale (record {
        front = [];
        store = s;
        place = x;
        value = y;
        unit = c;
        var = n;
        args = ws;
        inside = within;
        back = flat rest;
        at-it = At.here;
        stale = λ same. grind (arith, rw same at e, word-refl y);
      })
      at-read true e (Ahead.stale q) k = Ahead.stale (record {
        front = Read x y c n ws ∷ q.front;
        store = q.store;
        place = q.place;
        value = q.value;
        unit = q.unit;
        var = q.var;
        args = q.args;
        inside = q.inside;
        back = q.back ++ End ∷ flat rest;
        at-it = At.inner (word-same (s x) y e) q.at-it;
        stale = q.stale;
      })
      at-read true e (Ahead.honest {t = t} h) k = after (word-same (s x) y e) h (k t)

  first-head : (i j : Item) (a b : List Item) → i ∷ a ≡ j ∷ b → (i ≡ j) × (a ≡ b)
  first-head i j a b e = (cc e, cc e)

  read-same : (p q : Place) (v w : Word) (u x : UnitId) (n m : ℕ) (vs ws : List Word) → Read p v u n vs ≡ Read q w x m ws → (p ≡ q) × (v ≡ w) × (u ≡ x) × (n ≡ m) × (vs ≡ ws)
  read-same p q v w u x n m vs ws e = (cc e, cc e, cc e, cc e, cc e)

  pub record SameFirst (f g : List Item) (p q : Place) (value value' : Word) (u u' : UnitId) (v v' : ℕ) (args args' : List Word) (r r' : List Item) : Type 0 where
    pub fronts : f ≡ g
    pub places : p ≡ q
    pub values : value ≡ value'
    pub units : u ≡ u'
    pub vars : v ≡ v'
    pub words : args ≡ args'
    pub afters : r ≡ r'

  -- there is one first read that is not honest
  pub one-first : (s : Store) (f g r r' : List Item) (p q : Place) (value value' : Word) (u u' : UnitId) (v v' : ℕ) (args args' : List Word)
      → f ++ Read p value u v args ∷ r ≡ g ++ Read q value' u' v' args' ∷ r'
      → AgreesAll code s f → ¬ (store_after code s f p ≡ value) → AgreesAll code s g → ¬ (store_after code s g q ≡ value')
      → SameFirst f g p q value value' u u' v v' args args' r r'
  one-first s [] [] r r' p q value value' u u' v v' args args' e h n k m =
      let d = first-head (Read p value u v args) (Read q value' u' v' args') r r' e in
      let c = read-same p q value value' u u' v v' args args' d.0 in
      record { fronts = refl; places = c.0; values = c.1; units = c.2; vars = c.3; words = c.4; afters = d.1 }
  one-first s [] (j ∷ g) r r' p q value value' u u' v v' args args' e h n k m =
      let d = first-head (Read p value u v args) j r (g ++ Read q value' u' v' args' ∷ r') e in
      absurd (n (subst (λ i. Agrees s i) (sym d.0) k.0))
  one-first s (i ∷ f) [] r r' p q value value' u u' v v' args args' e h n k m =
      let d = first-head i (Read q value' u' v' args') (f ++ Read p value u v args ∷ r) r' e in
      absurd (m (subst (λ i. Agrees s i) d.0 h.0))
  one-first s (i ∷ f) (j ∷ g) r r' p q value value' u u' v v' args args' e h n k m =
      let d = first-head i j (f ++ Read p value u v args ∷ r) (g ++ Read q value' u' v' args' ∷ r') e in
      let o = one-first (store_item code s i) f g r r' p q value value' u u' v v' args args' d.1 h.1 n
      (subst (λ z. AgreesAll code (store_item code s z) g) (sym d.0) k.1) (subst (λ z. ¬ (store_after code (store_item code s z) g q ≡ value')) (sym d.0) m) in
      record { fronts = rw (d.0, o.fronts) refl; places = o.places; values = o.values; units = o.units; vars = o.vars; words = o.words; afters = o.afters }

module _ (code : Code) (names : ℕ → ℕ) where
  -- honest items are walked over
  pub honest-part : {a b : Store} {l : Trace} → Honest code a l b → (s : State) (k : ℕ) → Part code names (suc k) (with_store s a) l (suc k) (with_store s b) l
  honest-part Honest.end s k = Part.end
  honest-part (Honest.step h) s k = Part.step (honest-part h s k)
  honest-part (Honest.alloc h) s k = Part.alloc (honest-part h s k)
  honest-part (Honest.write h) s k = Part.write (honest-part h s k)
  honest-part {a} {b} (Honest.read {p = p} {value = value} {u = u} {v = v} {args = args} {inside = i} {rest = l} e h1 h2) s k =
      let z : Part code names (suc k) (with_store s a) (WasRead p value u v args i l) (suc k) (with_store s b) (WasRead p (a p) u v args i l) = Part.kept e (honest-part h1 s k) (honest-part h2 s k) in
      subst (λ w. Part code names (suc k) (with_store s a) (WasRead p value u v args i l) (suc k) (with_store s b) (WasRead p w u v args i l)) e z

  -- the trace once the unit of the read was re-executed
  pub record Repaired (s : State) (l : Trace) (front : List Item) (p : Place) (w : Word) (u : UnitId) (v : ℕ) (args : List Word) (back : List Item) (t : State) (inside' : Trace) : Type 0 where
    pub items : Trace
    pub part : Part code names (suc zero) s l zero t items
    pub flat_items : flat items ≡ front ++ Read p w u v args ∷ (flat inside' ++ End ∷ back)

  pub at-run : {l inside : Trace} {front back : List Item} {w : Store} {p : Place} {value : Word} {u : UnitId} {v : ℕ} {args : List Word} (s : State)
      → At code s.store l front w p value u v args inside back
      → ¬ (w p ≡ value) → {t : State} {inside' left : Trace} → Reruns code names (with_store s w) (resumed code u v args (w p)) inside t inside' left
      → Repaired s l front p (w p) u v args back t inside'
  at-run s (At.here {p = p} {u = u} {v = v} {args = args} {rest = rest}) n {t} {inside'} a =
      record {
        items = WasRead p (s.store p) u v args inside' rest;
        part = Part.stale n a Part.stays;
        flat_items =
            refl;
      }
  at-run s (At.step q) n a = let x = at-run s q n a in record { items = Stepped x.items; part = Part.step x.part; flat_items = ap (λ is. Step ∷ is) x.flat_items }
  at-run s (At.alloc {b = b} {key = key} q) n a =
      let x = at-run (clears code s b key) q n a in record { items = Allocated b key x.items; part = Part.alloc x.part; flat_items = ap (λ is. Alloc b key ∷ is) x.flat_items }
  at-run s (At.write {x = y} {y = z} q) n a = let x = at-run (puts s y z) q n a in record { items = Wrote y z x.items; part = Part.write x.part; flat_items = ap (λ is. Write y z ∷ is) x.flat_items }
  at-run s (At.inner {w = w} {x = x} {y = y} {c = c} {n = k} {ws = ws} {rest = rest} {front = front} {back = back} {p = p} {u = u} {v = v} {args = args} e q) n {t} {inside'} a =
      let z = at-run s q n a in
      record {
        items = WasRead x (s.store x) c k ws z.items rest;
        part = Part.kept e z.part Part.stays;
        flat_items = ap (λ i. Read x i c k ws ∷ (flat z.items ++ End ∷ flat rest)) e
            ∙ ap (λ is. Read x y c k ws ∷ is) (ap (λ is. is ++ End ∷ flat rest) z.flat_items ∙ around code front (flat inside') back (End ∷ flat rest) (Read p (w p) u v args) End);
      }
  at-run s (At.outer {t = m} {x = x} {y = y} {c = c} {n = k} {ws = ws} {within = within} {front = front} e h q) n a =
      let z = at-run (with_store s m) q n a in
      record {
        items = WasRead x (s.store x) c k ws within z.items;
        part = Part.kept e (honest-part h s zero) z.part;
        flat_items = ap (λ i. Read x i c k ws ∷ (flat within ++ End ∷ flat z.items)) e
            ∙ ap (λ is. Read x y c k ws ∷ is) (ap (λ is. flat within ++ End ∷ is) z.flat_items ∙ sym (parts code (flat within) front _ End));
      }

  -- a part of which one read at least may be re-executed has re-executed this unit, with no more work than its own
  pub record Must (s : State) (w : Store) (p : Place) (u : UnitId) (v : ℕ) (args : List Word) (inside : Trace) (s' : State) : Type 0 where
    pub state : State
    pub new : Trace
    pub left : Trace
    pub anew : Reruns code names (with_store s w) (resumed code u v args (w p)) inside state new left
    pub work : state.work ≤ s'.work

  pub at-must : {l inside : Trace} {front back : List Item} {w : Store} {p : Place} {value : Word} {u : UnitId} {v : ℕ} {args : List Word} (s : State)
      → At code s.store l front w p value u v args inside back
      → ¬ (w p ≡ value) → {j i : ℕ} {s' : State} {m : Trace} → Part code names (suc j) s l i s' m → Must s w p u v args inside s'
  at-must s At.here n (Part.kept e g f) = absurd (n e)
  at-must s At.here n (Part.stale {t = t} {inside' = o} {left = left} k a f) = record { state = t; new = o; left = left; anew = a; work = part-rises f }
  at-must s (At.step q) n (Part.step f) = at-must s q n f
  at-must s (At.alloc {b = b} {key = key} q) n (Part.alloc f) = let x = at-must (clears code s b key) q n f in record { state = x.state; new = x.new; left = x.left; anew = x.anew; work = x.work }
  at-must s (At.write {x = y} {y = z} q) n (Part.write f) = let x = at-must (puts s y z) q n f in record { state = x.state; new = x.new; left = x.left; anew = x.anew; work = x.work }
  at-must s (At.inner e q) n (Part.kept k g f) = let x = at-must s q n g in record { state = x.state; new = x.new; left = x.left; anew = x.anew; work = omega (arith, x.work, part-rises f) }
  at-must s (At.inner e q) n (Part.stale k a f) = absurd (k e)
  at-must s (At.outer {t = m} e h q) n {j} {i} {s'} (Part.kept {i = k} {t = t} {rest = l} {rest' = l'} z g f) =
      let y = walk-part code h s j g in
      let f' : Part code names (suc j) (with_store s m) l i s' l' = subst (λ z. Part code names (suc j) z l i s' l') y.state (subst (λ k. Part code names k t l i s' l') y.left f) in
      let x = at-must (with_store s m) q n f' in record { state = x.state; new = x.new; left = x.left; anew = x.anew; work = x.work }
  at-must s (At.outer e h q) n (Part.stale k a f) = absurd (k e)

  -- the machine that runs this unit by itself
  abbrev pub alone : State → Stack → Trace → Machine
  alone s st old = record { state = s; mode = Running st old; frames = Bottom }

  pub anew-finishes : {s t : State} {st : Stack} {old new left : Trace} → Reruns code names s st old t new left
      → Finishes code names (record { state = s; mode = Running st old; frames = Bottom }) t (flat new ++ [])
  anew-finishes a = Finishes.runs a Resumes.bottom
