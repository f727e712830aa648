-- A slice is the result of its first part and then a further slice: the converse of one slice following another.
use Rattle.std.proofs.Common.{◌≡◌, ℕ, zero, suc, ◌+◌, Option, Some, None, List, refl, sym, ap, ◌∙◌, subst, arith}
use Rattle.ceal_base.specs.Block.{Block}
use Rattle.ceal_base.specs.Trace.{Trace, WasRead}
use Rattle.ceal_base.specs.declared.forest.UnitId.{UnitId}
use Rattle.ceal_base.specs.declared.word.Place.{Place}
use Rattle.ceal_base.specs.declared.word.Word.{Word}
use Rattle.ceal_code.proofs.Words.SameIsEqual.{some-same, none-some}
use Rattle.ceal_code.specs.Fitting.{Fits}
use Rattle.ceal_code.specs.Program.{Code}
use Rattle.ceal_code.specs.Replay.{Store}
use Rattle.ceal_code.specs.Step.{Stack}
use Rattle.ceal_theory.proofs.Repair.FunctionOfRules.{anew-found}
use Rattle.ceal_theory.proofs.Repair.Honesty.{anew-honest}
use Rattle.ceal_theory.specs.Computed.{Ran, rerun}
use Rattle.ceal_theory.specs.Repair.{State, Fix, Reruns}
use Rattle.ceal_theory.specs.Walk.{with_store}
use Rattle.ceal_theory.proofs.SlicedRepair.SliceFunction.{part-found}
use Rattle.ceal_theory.proofs.SlicedRepair.SoundComposition.{to-later}
use Rattle.ceal_theory.proofs.SlicedRepair.Soundness.{grown, same-plain}
use Rattle.ceal_theory.proofs.SlicedRepair.Composition.{part-plus, part-honest}
use Rattle.ceal_theory.proofs.SlicedRepair.PartYields.{beyond, beyond-sum, part-fix, AsPart, fix-part}
use Rattle.ceal_theory.proofs.SlicedRepair.OneTurn.{honest-part}
use Rattle.ceal_theory.specs.SliceLaws.{and_more}
use Rattle.ceal_theory.specs.Slices.{Repair, goes_on, starting, Cut, Part, Runs, repair_at, Slices, RepairHolds}

module _ (code : Code) (names : ℕ → ℕ) where
  pub record SameRun (t t' : State) (m m' left left' : Trace) : Type 0 where
    pub states : t ≡ t'
    pub items : m ≡ m'
    pub lefts : left ≡ left'

  -- a unit that is re-executed has one end
  pub anew-one : {s t t' : State} {st : Stack} {old m m' left left' : Trace} → Reruns code names s st old t m left → Reruns code names s st old t' m' left' → SameRun t t' m m' left left'
  anew-one {s} {t} {t'} {st} {old} {m} {m'} {left} {left'} a b =
      let d = suc (t.work + t'.work) in
      let e = anew-found code names d s t st old m left a (omega arith) in
      let e' = anew-found code names d s t' st old m' left' b (omega arith) in
      let z = some-same (record { state = t; items = m; left = left }) (record { state = t'; items = m'; left = left' }) (sym e ∙ e') in
      record { states = ap (λ (r : Ran). r.state) z; items = ap (λ (r : Ran). r.items) z; lefts = ap (λ (r : Ran). r.left) z }

  pub record SamePart (j j' : ℕ) (t t' : State) (m m' : Trace) : Type 0 where
    pub lefts : j ≡ j'
    pub states : t ≡ t'
    pub items : m ≡ m'

  -- and so does a part
  pub part-one : {k j j' : ℕ} {s t t' : State} {l m m' : Trace} → Part code names k s l j t m → Part code names k s l j' t' m' → SamePart j j' t t' m m'
  part-one {k} {j} {j'} {s} {t} {t'} {l} {m} {m'} a b =
      let d = suc (t.work + t'.work) in
      let e = part-found code names (rerun code names d) d (anew-found code names d) a (omega arith) in
      let e' = part-found code names (rerun code names d) d (anew-found code names d) b (omega arith) in
      let z = some-same (record { left = j; state = t; items = m }) (record { left = j'; state = t'; items = m' }) (sym e ∙ e') in
      record { lefts = ap (λ (r : Cut). r.left) z; states = ap (λ (r : Cut). r.state) z; items = ap (λ (r : Cut). r.items) z }

  -- the rest, after a read whose items came to be honest
  rest-kept : (j i d : ℕ) (s t t1 t2 s' : State) (p : Place) (u : UnitId) (v : ℕ) (args : List Word) (o' o'' l' l'' : Trace)
      → Rattle.ceal_code.specs.Replay.Honest code s.store o' t1.store → o'' ≡ o' → Part code names (suc j) (with_store t t1.store) l' i s' l''
      → Part code names (suc j) (with_store t s.store) (WasRead p (s.store p) u v args o' l') i s' (WasRead p (s.store p) u v args o'' l'')
  rest-kept j i d s t t1 t2 s' p u v args o' o'' l' l'' h e f =
      subst (λ z. Part code names (suc j) (with_store t s.store) (WasRead p (s.store p) u v args o' l') i s'
      (WasRead p (s.store p) u v args z l'')) (sym e) (Part.kept refl (honest-part code names h t j) f)

  moved-part : (b b' i : ℕ) (t1 t2 s' : State) (l n : Trace) → b' ≡ b → t2 ≡ t1 → Part code names b' t2 l i s' n → Part code names b t1 l i s' n
  moved-part b b' i t1 t2 s' l n e e' f = subst (λ z. Part code names z t1 l i s' n) e (subst (λ z. Part code names b' z l i s' n) e' f)

  pub split : {k j i : ℕ} {s t s' : State} {l m n : Trace} → Part code names k s l zero t m → Part code names (beyond k (suc j)) s l i s' n → Part code names (suc j) (with_store t s.store) m i s' n
  split Part.stays g = g
  split (Part.step f) (Part.step g) = Part.step (split f g)
  split (Part.alloc f) (Part.alloc g) = Part.alloc (split f g)
  split (Part.write f) (Part.write g) = Part.write (split f g)
  split (Part.kept {i = zero} e f1 Part.stays) (Part.kept e' g1 g2) = Part.kept refl (split f1 g1) g2
  split {k} {j} {i} {s} {t} {s'} (Part.kept {k = k1} {i = suc c} {t = t1} {p = p} {u = u} {v = v} {args =
      args} {inside' = o'} {rest = l} {rest' = l'} e f1 f2)
      (Part.kept {i = d} {t = t2} {inside' = o''} {rest' = l''} e' g1 g2) =
      let q = part-one g1 (part-plus code f1 (suc j)) in
      rest-kept j i d s t t1 t2 s' p u v args o' o'' l' l'' (part-honest code f1) q.items (split f2 (moved-part (beyond (suc c) (suc j)) d i t1 t2 s' l l'' q.lefts q.states g2))
  split {k} {j} {i} {s} {t} {s'} (Part.stale {k = k1} {t = t1} {p = p} {u = u} {v = v} {args = args} {inside' =
      o'} {rest = l} {rest' = l'} apart' a f) (Part.stale {t = t2} {inside' = o''} {rest' = l''} n b g) =
      let q = anew-one b a in
      rest-kept j i k1 s t t1 t2 s' p u v args o' o'' l' l'' (anew-honest a) q.items (split f (moved-part (beyond k1 (suc j)) (beyond k1 (suc j)) i t1 t2 s' l l'' refl q.states g))
  split (Part.kept e f1 f2) (Part.stale n b g) = absurd (n e)
  split (Part.stale n a f) (Part.kept e g1 g2) = absurd (n e)

module _ {names : ℕ → ℕ} (code : Code) (inputs : List Block) (f : ℕ) (args : List Word) (fits : Fits code inputs f args) (r : Repair) (h : RepairHolds code names inputs f args r) where
  module _ (k i : ℕ) (t : State) (m : Trace) (p : Part code names k (goes_on code inputs r) r.items zero t m) (j : ℕ)
      (s' : State) (n : Trace) (g : Part code names (beyond k (suc j)) (goes_on code inputs r) r.items i s' n) where
    -- the part that comes after a first one
    pub part-after : (a : Store) × Part code names (suc j) (goes_on code inputs (repair_at t m)) m i (with_store s' a) n
    part-after =
        let ext = grown code inputs f args fits r h k zero t m p in
        let x = to-later code inputs f args fits r h k zero t m p t.plain ext in
        let y = to-later code inputs f args fits r h (beyond k (suc j)) i s' n g t.plain ext in
        let z : Part code names (suc j) (with_store t (starting code inputs t.plain)) m i (with_store s' y.0) n = split code names x.1 y.1 in (
          y.0,
          subst (λ x. Part code names (suc j)
              (record { store = starting code inputs t.plain; plain = x; number = t.number; work = t.work }) m i
              (with_store s' y.0) n) (sym (same-plain code inputs f args fits r h k zero t m p)) z,
        )

  -- a slice after a first one that used up its reads
  pub runs-after : (k : ℕ) (t : State) (m : Trace) → Part code names k (goes_on code inputs r) r.items zero t m →
      (o : Option ℕ) → ¬ (o ≡ Some zero) → (q : Option ℕ) → q ≡ and_more k o → (s' : State) (n : Trace)
      → Runs code names q (goes_on code inputs r) r.items s' n
      → Slices code names inputs o (repair_at t m) (repair_at s' n)
  runs-after k t m p None z q e s' n g = whole q e g
    where
      of-fix : Fix code names (goes_on code inputs r) r.items s' n → Slices code names inputs None (repair_at t m) (repair_at s' n)
      of-fix g =
          let w : AsPart code names (goes_on code inputs r) r.items s' n 0 = fix-part g 0 in
          let big = part-plus code w.part k in
          let same : beyond (suc w.reads) k ≡ beyond k (suc w.reads) = omega (arith, beyond-sum (suc w.reads) k, beyond-sum k (suc w.reads)) in
          let y = part-after k (suc k) t m p w.reads s' n (subst (λ z. Part code names z (goes_on code inputs r) r.items (suc k) s' n) same big) in
          record { after = with_store s' y.0; items = n; runs = Runs.whole (part-fix y.1); is = refl }

      whole : (q : Option ℕ) → q ≡ None → Runs code names q (goes_on code inputs r) r.items s' n → Slices code names inputs None (repair_at t m) (repair_at s' n)
      whole q e (Runs.whole g) = of-fix g
      whole q e (Runs.part {k = a} g) = none-some a (sym e)
  runs-after k t m p (Some zero) z q e s' n g = absurd (z refl)
  runs-after k t m p (Some (suc j)) z q e s' n g = part q e g
    where
      of-part : (a i : ℕ) → a ≡ k + suc j → Part code names a (goes_on code inputs r) r.items i s' n → Slices code names inputs (Some (suc j)) (repair_at t m) (repair_at s' n)
      of-part a i e g =
          let same : a ≡ beyond k (suc j) = omega (arith, e, beyond-sum k (suc j)) in
          let y = part-after k i t m p j s' n (subst (λ z. Part code names z (goes_on code inputs r) r.items i s' n) same g) in
          record { after = with_store s' y.0; items = n; runs = Runs.part y.1; is = refl }

      part : (q : Option ℕ) → q ≡ Some (k + suc j) → Runs code names q (goes_on code inputs r) r.items s' n → Slices code names inputs (Some (suc j)) (repair_at t m) (repair_at s' n)
      part q e (Runs.whole g) = none-some (k + suc j) e
      part q e (Runs.part {k = a} {j = i} g) = of-part a i (some-same a (k + suc j) e) g
