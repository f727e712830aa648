-- The work of a repair is bounded by the cost of two traces side by side.
use Rattle.std.proofs.Common.{◌≡◌, ℕ, ◌+◌, ◌≤◌, ◌==◌, ◌&&◌, Bool, true, false, if◌then◌else◌, List, [], ◌⊎◌, inl, inr, refl, sym, ap, ap₂, ◌∙◌, subst, arith}
use Rattle.ceal_base.specs.Trace.{Trace, Nothing, Stepped, Allocated, Wrote, WasRead, steps_of, blocks_of}
use Rattle.ceal_base.specs.declared.forest.Key.{Key}
use Rattle.ceal_base.specs.declared.forest.UnitId.{UnitId}
use Rattle.ceal_base.specs.declared.word.BlockId.{BlockId}
use Rattle.ceal_base.specs.declared.word.BlockId.TheVariants.{Input, Core}
use Rattle.ceal_base.specs.declared.word.Place.{Place}
use Rattle.ceal_base.specs.declared.word.Word.{Word}
use Rattle.ceal_base.specs.declared.word.Word.TheVariants.{Num, Null, Block as BlockWord, At}
use Rattle.ceal_code.proofs.Alike.AlikeSteps.{steps-alike}
use Rattle.ceal_code.proofs.Alike.BlockPairs.{zip-one}
use Rattle.ceal_code.proofs.Words.SameIsEqual.{both, nat-same, nat-refl, word-same}
use Rattle.ceal_code.specs.Alike.{Pairs, Tied, IdAlike, WordAlike, TraceAlike, OneToOne, zipped}
use Rattle.ceal_code.specs.Program.{Code}
use Rattle.ceal_code.specs.Replay.{core_numbers}
use Rattle.ceal_theory.proofs.Repair.EndAsFromScratch.{first-replays, first-honest}
use Rattle.ceal_theory.proofs.Repair.FunctionOfRules.{adjusted-sound, first-sound}
use Rattle.ceal_theory.proofs.Repair.Honesty.{mend-work}
use Rattle.ceal_theory.proofs.Store.FittingInputs.{fits-more}
use Rattle.ceal_theory.proofs.Repair.RepairLaws.{repair-law}
use Rattle.ceal_theory.proofs.Repair.Uniqueness.{same-traces}
use Rattle.ceal_theory.specs.Cost.{paired, same_id, same_value, with_pair, cost_from, aligned, CostLaw}
use Rattle.ceal_theory.specs.Repair.{State, Fix, Mend}

-- two traces that go side by side, as rules
data Beside : Pairs → Trace → Trace → Pairs → ℕ → Type 0 where
  end : {ps : Pairs} → Beside ps Nothing Nothing ps 0
  step : {ps qs : Pairs} {l m : Trace} {n : ℕ} → Beside ps l m qs n → Beside ps (Stepped l) (Stepped m) qs n
  alloc : {ps qs : Pairs} {b c : BlockId} {k k' : Key} {l m : Trace} {n : ℕ} → Beside (with_pair ps b c) l m qs n → Beside ps (Allocated b k l) (Allocated c k' m) qs n
  write : {ps qs : Pairs} {p q : Place} {v w : Word} {l m : Trace} {n : ℕ} → Beside ps l m qs n → Beside ps (Wrote p v l) (Wrote q w m) qs n
  same : {ps qs rs : Pairs} {p q : Place} {v w : Word} {u u' : UnitId} {x x' : ℕ} {args args' : List Word} {i j l m : Trace} {n k : ℕ}
      → same_value ps v w ≡ true → Beside ps i j qs n → Beside qs l m rs k → Beside ps (WasRead p v u x args i l) (WasRead q w u' x' args' j m) rs (n + k)
  other : {ps rs : Pairs} {p q : Place} {v w : Word} {u u' : UnitId} {x x' : ℕ} {args args' : List Word} {i j l m : Trace} {k : ℕ}
      → same_value ps v w ≡ false → Beside ps l m rs k → Beside ps (WasRead p v u x args i l) (WasRead q w u' x' args' j m) rs (steps_of j + k)

beside-cost : {ps qs : Pairs} {l m : Trace} {n : ℕ} → Beside ps l m qs n → cost_from ps l m ≡ record { pairs = qs; cost = n }
unfolding cost_from
beside-cost Beside.end = refl
beside-cost (Beside.step h) = beside-cost h
beside-cost (Beside.alloc h) = beside-cost h
beside-cost (Beside.write h) = beside-cost h
beside-cost (Beside.same e h k) = rw (e, beside-cost h, beside-cost k) refl
beside-cost (Beside.other e k) = rw (e, beside-cost k) refl

beside-steps : {ps qs : Pairs} {l m : Trace} {n : ℕ} → Beside ps l m qs n → n ≤ steps_of m
beside-steps Beside.end = omega arith
beside-steps (Beside.step h) = omega (arith, beside-steps h)
beside-steps (Beside.alloc h) = beside-steps h
beside-steps (Beside.write h) = beside-steps h
beside-steps (Beside.same e h k) = omega (arith, beside-steps h, beside-steps k)
beside-steps (Beside.other e k) = omega (arith, beside-steps k)

-- each pair is of a block with itself
Selves : Pairs → Type 0
Selves ps = (b c : ℕ) → paired ps b c ≡ true → b ≡ c

pair-if : (t d : Bool) → (if t then true else d) ≡ true → (t ≡ true) ⊎ (d ≡ true)
pair-if true d e = inl refl
pair-if false d e = inr e

selves-with : (ps : Pairs) (b : BlockId) → Selves ps → Selves (with_pair ps b b)
unfolding Selves
selves-with ps (Input i) h = h
selves-with ps (Core b) h = λ c d e. go c d (pair-if (b == c && b == d) (paired ps c d) e)
  where
    go : (c d : ℕ) → ((b == c && b == d) ≡ true) ⊎ (paired ps c d ≡ true) → c ≡ d
    go c d (inl e) = let k = both (b == c) (b == d) e in sym (nat-same b c k.0) ∙ nat-same b d k.1
    go c d (inr e) = h c d e

same-id : (ps : Pairs) → Selves ps → (b c : BlockId) → same_id ps b c ≡ true → b ≡ c
unfolding Selves
same-id ps h (Input i) (Input j) e = ap Input (nat-same i j e)
same-id ps h (Core b) (Core c) e = ap Core (h b c e)
same-id ps h (Input i) (Core c) e = absurd (grind (arith, e))
same-id ps h (Core b) (Input j) e = absurd (grind (arith, e))

same-place : (ps : Pairs) → Selves ps → (p q : Place) → (same_id ps p.block q.block && p.field == q.field) ≡ true → p ≡ q
same-place ps h p q e =
    let k = both (same_id ps p.block q.block) (p.field == q.field) e in
    ap₂ (λ b f. record { block = b; field = f }) (same-id ps h p.block q.block k.0) (nat-same p.field q.field k.1)

same-value : (ps : Pairs) → Selves ps → (v w : Word) → same_value ps v w ≡ true → v ≡ w
same-value ps h (Num m) (Num n) e = word-same (Num m) (Num n) e
same-value ps h Null Null e = refl
same-value ps h (BlockWord b) (BlockWord c) e = ap BlockWord (same-id ps h b c e)
same-value ps h (At p) (At q) e = ap At (same-place ps h p q e)
same-value ps h _ _ e = absurd (grind (arith, e))

record Bounded (ps : Pairs) (l m : Trace) (before after : ℕ) : Type 0 where
  pairs : Pairs
  cost : ℕ
  beside : Beside ps l m pairs cost
  selves : Selves pairs
  bound : after ≤ before + cost

by-value : (ps : Pairs) (v w : Word) (P : Type 0) → (same_value ps v w ≡ true → P) → (same_value ps v w ≡ false → P) → P
by-value ps v w P f g = go (same_value ps v w) refl
  where
    go : (t : Bool) → same_value ps v w ≡ t → P
    go true e = f e
    go false e = g e

module _ (code : Code) (names : ℕ → ℕ) where
  same-read : (ps : Pairs) (p q : Place) (v w : Word) (u : UnitId) (x : ℕ) (args : List Word) (i j l m : Trace) (n0 n1 n2 : ℕ) → same_value ps v w ≡ true → Bounded ps i j n0 n1
      → ((qs : Pairs) → Selves qs → Bounded qs l m n1 n2) → Bounded ps (WasRead p v u x args i l) (WasRead q w u x args j m) n0 n2
  same-read ps p q v w u x args i j l m n0 n1 n2 e a f = go (f a.pairs a.selves)
    where
      go : Bounded a.pairs l m n1 n2 → Bounded ps (WasRead p v u x args i l) (WasRead q w u x args j m) n0 n2
      go b = record { pairs = b.pairs; cost = a.cost + b.cost; beside = Beside.same e a.beside b.beside; selves = b.selves; bound = omega (arith, a.bound, b.bound) }

  other-read : (ps : Pairs) (p q : Place) (v w : Word) (u : UnitId) (x : ℕ) (args : List Word) (i j l m : Trace) (n0 n1 n2 : ℕ) → same_value ps v w ≡ false → n1 ≤ n0 + steps_of j
      → Bounded ps l m n1 n2 → Bounded ps (WasRead p v u x args i l) (WasRead q w u x args j m) n0 n2
  other-read ps p q v w u x args i j l m n0 n1 n2 e k b =
      record { pairs = b.pairs; cost = steps_of j + b.cost; beside = Beside.other e b.beside; selves = b.selves; bound = omega (arith, k, b.bound) }

  stepped : (ps : Pairs) (l m : Trace) (n0 n1 : ℕ) → Bounded ps l m n0 n1 → Bounded ps (Stepped l) (Stepped m) n0 n1
  stepped ps l m n0 n1 a = record { pairs = a.pairs; cost = a.cost; beside = Beside.step a.beside; selves = a.selves; bound = a.bound }

  allocated : (ps : Pairs) (b : BlockId) (key : Key) (l m : Trace) (n0 n1 : ℕ) → Bounded (with_pair ps b b) l m n0 n1 → Bounded ps (Allocated b key l) (Allocated b key m) n0 n1
  allocated ps b key l m n0 n1 a = record { pairs = a.pairs; cost = a.cost; beside = Beside.alloc a.beside; selves = a.selves; bound = a.bound }

  wrote : (ps : Pairs) (p : Place) (v : Word) (l m : Trace) (n0 n1 : ℕ) → Bounded ps l m n0 n1 → Bounded ps (Wrote p v l) (Wrote p v m) n0 n1
  wrote ps p v l m n0 n1 a = record { pairs = a.pairs; cost = a.cost; beside = Beside.write a.beside; selves = a.selves; bound = a.bound }

  mutual
    fix-bounded : {s s' : State} {l m : Trace} → Fix code names s l s' m → (ps : Pairs) → Selves ps → Bounded ps l m s.work s'.work
    fix-bounded Fix.end ps h = record { pairs = ps; cost = 0; beside = Beside.end; selves = h; bound = omega arith }
    fix-bounded {s} {s'} (Fix.step {rest = l} {rest' = m} f) ps h = stepped ps l m s.work s'.work (fix-bounded f ps h)
    fix-bounded {s} {s'} (Fix.alloc {b = b} {key = key} {rest = l} {rest' = m} f) ps h = allocated ps b key l m s.work s'.work (fix-bounded f (with_pair ps b b) (selves-with ps b h))
    fix-bounded {s} {s'} (Fix.write {p = p} {value = v} {rest = l} {rest' = m} f) ps h = wrote ps p v l m s.work s'.work (fix-bounded f ps h)
    fix-bounded {s} {s'} (Fix.read {t = t} {p = p} {value = v} {u = u} {v = x} {args = args} {inside = i} {inside' = j} {rest = l} {rest' = m} d f) ps h =
        by-value ps v (s.store p) (Bounded ps (WasRead p v u x args i l) (WasRead p (s.store p) u x args j m) s.work s'.work)
        (λ e. same-read ps p p v (s.store p) u x args i j l m s.work t.work s'.work e (mend-bounded d ps h e) (λ qs k. fix-bounded f qs k))
        (λ e. other-read ps p p v (s.store p) u x args i j l m s.work t.work s'.work e (mend-work d) (fix-bounded f ps h))

    mend-bounded : {s t : State} {p : Place} {u : UnitId} {x : ℕ} {args : List Word} {v : Word} {i j : Trace} → Mend code names s p u x args v i t j
        → (ps : Pairs) → Selves ps → same_value ps v (s.store p) ≡ true → Bounded ps i j s.work t.work
    mend-bounded (Mend.kept k f) ps h e = fix-bounded f ps h
    mend-bounded {s} {t} {p} {u} {x} {args} {v} (Mend.stale n a) ps h e = absurd (n (sym (same-value ps h v (s.store p) e)))

-- the cost is that of the two traces with their blocks renamed
nat-equal : (a b c d : ℕ) → (a ≡ b → c ≡ d) → (c ≡ d → a ≡ b) → (a == b) ≡ (c == d)
nat-equal a b c d f g = go (a == b) (c == d) refl refl
  where
    go : (t t' : Bool) → (a == b) ≡ t → (c == d) ≡ t' → t ≡ t'
    go true true e e' = refl
    go false false e e' = refl
    go true false e e' = let z : (c == d) ≡ true = rw (f (nat-same a b e)) (nat-refl d) in absurd (grind (arith, z, e'))
    go false true e e' = let z : (a == b) ≡ true = rw (g (nat-same c d e')) (nat-refl b) in absurd (grind (arith, z, e))

module _ (ps : Pairs) (one : OneToOne ps) (rs : Pairs) (two : OneToOne rs) where
  -- the pairs of the one walk are those of the other
  Renamed : Pairs → Pairs → Type 0
  Renamed qs qs' = (b b' c c' : ℕ) → Tied b b' ps → Tied c c' rs → paired qs b c ≡ paired qs' b' c'

  left-both : (b b' c c' : ℕ) → Tied b b' ps → Tied c c' ps → (b == c) ≡ (b' == c')
  left-both b b' c c' s t = nat-equal b c b' c' (λ e. one.left b b' c' s (subst (λ z. Tied z c' ps) (sym e) t)) (λ e. one.right b c b' s (subst (λ z. Tied c z ps) (sym e) t))

  right-both : (b b' c c' : ℕ) → Tied b b' rs → Tied c c' rs → (b == c) ≡ (b' == c')
  right-both b b' c c' s t = nat-equal b c b' c' (λ e. two.left b b' c' s (subst (λ z. Tied z c' rs) (sym e) t)) (λ e. two.right b c b' s (subst (λ z. Tied c z rs) (sym e) t))

  with-both : (qs qs' : Pairs) → Renamed qs qs' → {b b' c c' : BlockId} → IdAlike ps b b' → IdAlike rs c c' → Renamed (with_pair qs b c) (with_pair qs' b' c')
  unfolding Renamed
  with-both qs qs' h IdAlike.input IdAlike.input = h
  with-both qs qs' h IdAlike.input (IdAlike.core t) = h
  with-both qs qs' h (IdAlike.core s) IdAlike.input = h
  with-both qs qs' h (IdAlike.core {b = b} {c = b'} s) (IdAlike.core {b = c} {c = c'} t) =
      λ d d' e e' i j. rw (left-both b b' d d' s i, right-both c c' e e' t j, h d d' e e' i j) refl

  id-both : (qs qs' : Pairs) → Renamed qs qs' → {b b' c c' : BlockId} → IdAlike ps b b' → IdAlike rs c c' → same_id qs b c ≡ same_id qs' b' c'
  unfolding Renamed
  id-both qs qs' h IdAlike.input IdAlike.input = refl
  id-both qs qs' h IdAlike.input (IdAlike.core t) = refl
  id-both qs qs' h (IdAlike.core s) IdAlike.input = refl
  id-both qs qs' h (IdAlike.core {b = b} {c = b'} s) (IdAlike.core {b = c} {c = c'} t) = h b b' c c' s t

  value-both : (qs qs' : Pairs) → Renamed qs qs' → {v v' w w' : Word} → WordAlike ps v v' → WordAlike rs w w' → same_value qs v w ≡ same_value qs' v' w'
  value-both qs qs' h WordAlike.num WordAlike.num = refl
  value-both qs qs' h WordAlike.num WordAlike.null = refl
  value-both qs qs' h WordAlike.num (WordAlike.block t) = refl
  value-both qs qs' h WordAlike.num (WordAlike.at t) = refl
  value-both qs qs' h WordAlike.null WordAlike.num = refl
  value-both qs qs' h WordAlike.null WordAlike.null = refl
  value-both qs qs' h WordAlike.null (WordAlike.block t) = refl
  value-both qs qs' h WordAlike.null (WordAlike.at t) = refl
  value-both qs qs' h (WordAlike.block s) WordAlike.num = refl
  value-both qs qs' h (WordAlike.block s) WordAlike.null = refl
  value-both qs qs' h (WordAlike.block s) (WordAlike.block t) = id-both qs qs' h s t
  value-both qs qs' h (WordAlike.block s) (WordAlike.at t) = refl
  value-both qs qs' h (WordAlike.at s) WordAlike.num = refl
  value-both qs qs' h (WordAlike.at s) WordAlike.null = refl
  value-both qs qs' h (WordAlike.at s) (WordAlike.block t) = refl
  value-both qs qs' h (WordAlike.at s) (WordAlike.at t) = rw (id-both qs qs' h s.block t.block, s.field, t.field) refl

  record BesideToo (qs' after : Pairs) (l' m' : Trace) (n : ℕ) : Type 0 where
    pairs : Pairs
    beside : Beside qs' l' m' pairs n
    renamed : Renamed after pairs

  same-too : (qs' after after' : Pairs) (p q : Place) (v w : Word) (u u' : UnitId) (x x' : ℕ) (args args' : List Word) (i j l m : Trace) (n k : ℕ) → same_value qs' v w ≡ true
      → BesideToo qs' after i j n → ((rs' : Pairs) → Renamed after rs' → BesideToo rs' after' l m k) → BesideToo qs' after' (WasRead p v u x args i l) (WasRead q w u' x' args' j m) (n + k)
  same-too qs' after after' p q v w u u' x x' args args' i j l m n k e a f = go (f a.pairs a.renamed)
    where
      go : BesideToo a.pairs after' l m k → BesideToo qs' after' (WasRead p v u x args i l) (WasRead q w u' x' args' j m) (n + k)
      go b = record { pairs = b.pairs; beside = Beside.same e a.beside b.beside; renamed = b.renamed }

  other-too : (qs' after : Pairs) (p q : Place) (v w : Word) (u u' : UnitId) (x x' : ℕ) (args args' : List Word) (i j j0 l m : Trace) (k : ℕ) → same_value qs' v w ≡ false → steps_of j ≡ steps_of j0
      → BesideToo qs' after l m k → BesideToo qs' after (WasRead p v u x args i l) (WasRead q w u' x' args' j m) (steps_of j0 + k)
  other-too qs' after p q v w u u' x x' args args' i j j0 l m k e n a =
      record { pairs = a.pairs; beside = subst (λ n. Beside qs' (WasRead p v u x args i l) (WasRead q w u' x' args' j m) a.pairs (n + k)) n (Beside.other e a.beside); renamed = a.renamed }

  beside-too : {qs after : Pairs} {l m : Trace} {n : ℕ} → Beside qs l m after n → {l' m' : Trace} → TraceAlike ps l l'
      → TraceAlike rs m m' → (qs' : Pairs) → Renamed qs qs' → BesideToo qs' after l' m' n
  beside-too Beside.end TraceAlike.nothing TraceAlike.nothing qs' h = record { pairs = qs'; beside = Beside.end; renamed = h }
  beside-too (Beside.step d) (TraceAlike.stepped s) (TraceAlike.stepped t) qs' h =
      let a = beside-too d s t qs' h in record { pairs = a.pairs; beside = Beside.step a.beside; renamed = a.renamed }
  beside-too {qs} (Beside.alloc d) (TraceAlike.allocated {c = b'} i k s) (TraceAlike.allocated {c = c'} i' k' t) qs' h =
      let a = beside-too d s t (with_pair qs' b' c') (with-both qs qs' h i i') in record { pairs = a.pairs; beside = Beside.alloc a.beside; renamed = a.renamed }
  beside-too (Beside.write d) (TraceAlike.wrote p v s) (TraceAlike.wrote q w t) qs' h =
      let a = beside-too d s t qs' h in record { pairs = a.pairs; beside = Beside.write a.beside; renamed = a.renamed }
  beside-too {qs} {after} (Beside.same {qs = mid} {n = n} {k = k} e d1 d2)
      (TraceAlike.was_read {q = p'} {w = v'} {u = u} {x = x} {ws = args} {j = i'} {m = l'} kp kv ka si s)
      (TraceAlike.was_read {q = q'} {w = w'} {u = u'} {x = x'} {ws = args'} {j = j'} {m = m'} lp lv la ti t) qs' h =
      same-too qs' mid after p' q' v' w' u u' x x' args args' i' j' l' m' n k (sym (value-both qs qs' h kv lv) ∙ e) (beside-too d1 si ti qs' h) (λ rs' h'. beside-too d2 s t rs' h')
  beside-too {qs} {after} (Beside.other {j = j} {k = k} e d)
      (TraceAlike.was_read {q = p'} {w = v'} {u = u} {x = x} {ws = args} {j = i'} {m = l'} kp kv ka si s)
      (TraceAlike.was_read {q = q'} {w = w'} {u = u'} {x = x'} {ws = args'} {j = j'} {m = m'} lp lv la ti t) qs' h =
      other-too qs' after p' q' v' w' u u' x x' args args' i' j' j l' m' k (sym (value-both qs qs' h kv lv) ∙ e) (sym (steps-alike ti)) (beside-too d s t qs' h)

none-paired : (ps rs : Pairs) (one : OneToOne ps) (two : OneToOne rs) → Renamed ps one rs two [] []
unfolding Renamed
none-paired ps rs one two b b' c c' s t = refl

none-selves : Selves []
unfolding Selves
none-selves b c e = absurd (grind (arith, e))

pub bound-law : CostLaw
bound-law code old new f args l number n a e honest there j k g h eg eh =
    let s = (adjusted-sound code new number n l a there).0 in
    let u = repair-law code old new f args l a.items number a.work e s in
    let fits = fits-more code old new e.extended f args e.call e.fit in
    let sg = (first-sound code old j f args g eg).0 in
    let sh = (first-sound code new k f args h eh).0 in
    let rg = first-replays code old f args e.call g.items g.work sg in
    let rh = first-replays code new f args fits h.items h.work sh in
    let tl = same-traces code old f args e.call l g.items e.trace rg honest (first-honest code old f args e.call g.items g.work sg) in
    let tm = same-traces code new f args fits a.items h.items u.replays rh u.honest (first-honest code new f args fits h.items h.work sh) in
    let o1 = zip-one (core_numbers (blocks_of l)) (core_numbers (blocks_of g.items)) e.trace.distinct rg.distinct in
    let o2 = zip-one (core_numbers (blocks_of a.items)) (core_numbers (blocks_of h.items)) u.replays.distinct rh.distinct in
    let b = fix-bounded code (λ n. n) s.fix [] none-selves in
    let t = beside-too (zipped (core_numbers (blocks_of l)) (core_numbers (blocks_of g.items))) o1 (zipped (core_numbers (blocks_of a.items)) (core_numbers (blocks_of h.items))) o2 b.beside tl tm []
    (none-paired (zipped (core_numbers (blocks_of l)) (core_numbers (blocks_of g.items))) (zipped (core_numbers (blocks_of a.items)) (core_numbers (blocks_of h.items))) o1 o2) in
    let is : aligned g.items h.items ≡ b.cost = ap (λ c. c.cost) (beside-cost t.beside) in
    (omega (arith, b.bound, s.counted, is), omega (arith, is, beside-steps t.beside))
