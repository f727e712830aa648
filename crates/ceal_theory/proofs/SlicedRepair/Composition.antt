-- Slices follow one another: two are one of the sum of their reads, and one without a number of reads ends what any
-- began.
use Rattle.std.proofs.Common.{◌≡◌, ℕ, zero, suc, List, refl, sym, ap, subst}
use Rattle.ceal_base.specs.Trace.{Trace, Stepped, Allocated, Wrote, WasRead}
use Rattle.ceal_base.specs.declared.forest.UnitId.{UnitId}
use Rattle.ceal_base.specs.declared.word.Place.{Place}
use Rattle.ceal_base.specs.declared.word.Word.{Word}
use Rattle.ceal_code.specs.Program.{Code}
use Rattle.ceal_code.specs.Replay.{Store, Honest}
use Rattle.ceal_theory.proofs.Repair.Honesty.{fix-honest, anew-honest}
use Rattle.ceal_theory.specs.Repair.{State}
use Rattle.ceal_theory.specs.Walk.{with_store}
use Rattle.ceal_theory.proofs.SlicedRepair.PartYields.{beyond, part-fix}
use Rattle.ceal_theory.specs.Slices.{Part}

-- what is honest from the store is walked over, and nothing else happens
pub record Unmoved (s : State) (b : Store) (j : ℕ) (l : Trace) (i : ℕ) (t : State) (m : Trace) : Type 0 where
  pub left : i ≡ suc j
  pub state : t ≡ with_store s b
  pub items : m ≡ l

module _ {names : ℕ → ℕ} (code : Code) where
  walked-read : (s : State) (a b n : Store) (j : ℕ) (p : Place) (w : Word) (u : UnitId) (v : ℕ) (args : List Word) (i i' l l' : Trace) {k1 k2 : ℕ} {t1 t : State}
      → a p ≡ w → Unmoved s n j i k1 t1 i' → Part code names k1 t1 l k2 t l' → (Part code names (suc j) (with_store s n) l k2 t l' → Unmoved s b j l k2 t l')
      → Unmoved s b j (WasRead p w u v args i l) k2 t (WasRead p (a p) u v args i' l')
  walked-read s a b n j p w u v args i i' l l' {k1} {k2} {t1} {t} e q f go =
      let f' : Part code names (suc j) (with_store s n) l k2 t l' = subst (λ z. Part code names (suc j) z l k2 t l') q.state (subst (λ k. Part code names k t1 l k2 t l') q.left f) in
      let r = go f' in
      record { left = r.left; state = r.state; items = both q.items r.items }
    where
      both : i' ≡ i → l' ≡ l → WasRead p (a p) u v args i' l' ≡ WasRead p w u v args i l
      both x y = rw (x, y, e) refl

  pub walk-part : {a b : Store} {l : Trace} → Honest code a l b → (s : State) (j : ℕ) {i : ℕ} {t : State} {m : Trace} → Part code names (suc j) (with_store s a) l i t m → Unmoved s b j l i t m
  walk-part Honest.end s j Part.end = record { left = refl; state = refl; items = refl }
  walk-part (Honest.step h) s j (Part.step f) = let q = walk-part h s j f in record { left = q.left; state = q.state; items = ap Stepped q.items }
  walk-part (Honest.alloc {b = c} {key = key} h) s j (Part.alloc f) = let q = walk-part h s j f in record { left = q.left; state = q.state; items = ap (Allocated c key) q.items }
  walk-part (Honest.write {p = p} {value = w} h) s j (Part.write f) = let q = walk-part h s j f in record { left = q.left; state = q.state; items = ap (Wrote p w) q.items }
  walk-part {a} {b} (Honest.read {t = n} {p = p} {value = w} {u = u} {v = v} {args = args} {inside = i} {rest = l} e h1 h2) s j (Part.kept {i = k1} {t = t1} {inside' = i'} {rest' = l'} same g f) =
      walked-read s a b n j p w u v args i i' l l' e (walk-part h1 s j g) f (λ f. walk-part h2 s j f)
  walk-part (Honest.read e h1 h2) s j (Part.stale apart' n f) = absurd (apart' e)

  -- more reads may be re-executed
  pub part-plus : {k j : ℕ} {s s' : State} {l m : Trace} → Part code names k s l (suc j) s' m → (n : ℕ) → Part code names (beyond k n) s l (beyond (suc j) n) s' m
  part-plus Part.end n = Part.end
  part-plus (Part.step f) n = Part.step (part-plus f n)
  part-plus (Part.alloc f) n = Part.alloc (part-plus f n)
  part-plus (Part.write f) n = Part.write (part-plus f n)
  part-plus (Part.kept {i = suc i} e g f) n = Part.kept e (part-plus g n) (part-plus f n)
  part-plus (Part.kept {i = zero} e g f) n = elim f [ ]
  part-plus (Part.stale {k = suc k} m a f) n = Part.stale m a (part-plus f n)
  part-plus (Part.stale {k = zero} m a f) n = elim f [ ]

  pub part-honest : {k j : ℕ} {s s' : State} {l m : Trace} → Part code names k s l (suc j) s' m → Honest code s.store m s'.store
  part-honest f = fix-honest (part-fix f)

  -- a part that used up its reads, and a second part of what it came to, from the same store
  pub join : {k j i : ℕ} {s t s' : State} {l m n : Trace} → Part code names k s l zero t m → Part code names (suc j) (with_store t s.store) m i s' n → Part code names (beyond k (suc j)) s l i s' n
  join Part.stays g = g
  join (Part.step f) (Part.step g) = Part.step (join f g)
  join (Part.alloc f) (Part.alloc g) = Part.alloc (join f g)
  join (Part.write f) (Part.write g) = Part.write (join f g)
  join (Part.kept {i = zero} e f1 Part.stays) (Part.kept e' g1 g2) = Part.kept e (join f1 g1) g2
  join {k} {j} {i} {s} {t} {s'} (Part.kept {k = k1} {i = suc c} {t = t1} {p = p} {value = value} {u = u} {v =
      v} {args = args} {inside = o} {inside' = o'} {rest = l} {rest' = l'} e f1 f2)
      (Part.kept {i = d} {t = t2} {inside' = o''} {rest' = l''} e' g1 g2) =
      let q = walk-part (part-honest f1) t j g1 in
      let g2' : Part code names (suc j) (with_store t t1.store) l' i s' l'' = subst (λ z. Part code names (suc j) z l' i s' l'') q.state (subst (λ k. Part code names k t2 l' i s' l'') q.left g2) in
      subst (λ z. Part code names (beyond (suc k1) (suc j)) s (WasRead p value u v args o l) i s' (WasRead p (s.store p) u v args z l'')) (sym q.items)
      (Part.kept e (part-plus f1 (suc j)) (join f2 g2'))
  join {k} {j} {i} {s} {t} {s'} (Part.stale {k = k1} {t = t1} {p = p} {value = value} {u = u} {v = v} {args =
      args} {inside = o} {inside' = o'} {rest = l} {rest' = l'} apart' a f)
      (Part.kept {i = d} {t = t2} {inside' = o''} {rest' = l''} e' g1 g2) =
      let q = walk-part (anew-honest a) t j g1 in
      let g2' : Part code names (suc j) (with_store t t1.store) l' i s' l'' = subst (λ z. Part code names (suc j) z l' i s' l'') q.state (subst (λ k. Part code names k t2 l' i s' l'') q.left g2) in
      subst (λ z. Part code names (beyond (suc k1) (suc j)) s (WasRead p value u v args o l) i s' (WasRead p (s.store p) u v args z l'')) (sym q.items)
      (Part.stale apart' a (join f g2'))
  join (Part.kept e f1 f2) (Part.stale n a g) = absurd (n refl)
  join (Part.stale e f1 f2) (Part.stale n a g) = absurd (n refl)
