-- What a repair adds: the numbers of its new blocks, each of which its items have, and their words.
use Rattle.std.proofs.Common.{◌≡◌, ℕ, ◌+◌, ◌≤◌, Bool, true, false, ◌==◌, if◌then◌else◌, Some, List, ◌⊎◌, inl, inr, refl, sym, ◌∙◌, subst, arith}
use Rattle.ceal_base.specs.Block.{Block}
use Rattle.ceal_base.specs.Trace.{Trace, Nothing, Stepped, Allocated, Wrote, WasRead, blocks_of}
use Rattle.ceal_base.specs.declared.forest.UnitId.{UnitId}
use Rattle.ceal_base.specs.declared.word.BlockId.TheVariants.{Input, Core}
use Rattle.ceal_base.specs.declared.word.Place.{Place}
use Rattle.ceal_base.specs.declared.word.Word.{Word}
use Rattle.ceal_code.specs.Init.{made}
use Rattle.ceal_code.specs.Program.{Code}
use Rattle.ceal_code.specs.Replay.{learnt, Distinct, core_numbers}
use Rattle.ceal_code.specs.Step.{Stack}
use Rattle.ceal_code.specs.Value.{Plain}
use Rattle.ceal_theory.proofs.Repair.DistinctBlocks.{uses, named, next-named, distinct-new, times-append, times-cons, anew-uses}
use Rattle.ceal_theory.specs.Repair.{Single, State, clears, puts, works, grows, Fix, Mend, Reruns}
use Rattle.ceal_theory.specs.Slices.{Part, NamesApart}
use Rattle.ceal_theory.specs.SliceLaws.{IsNamed}

-- from the state s to s' with the new items, and what was left over of the old ones
pub record Adds (names : ℕ → ℕ) (s s' : State) (new : Trace) : Type 0 where
  pub input : (i : ℕ) → s'.plain (Input i) ≡ s.plain (Input i)
  pub known : (b : ℕ) (block : Block) → s'.plain (Core b) ≡ Some block → (s.plain (Core b) ≡ Some block) ⊎ IsNamed names s.number s'.number b
  pub items : (b : ℕ) → named names s'.number b ≤ uses b new + named names s.number b
  pub numbers : s.number ≤ s'.number
  pub work : s'.number + s.work ≤ s.number + s'.work

adds-none : (names : ℕ → ℕ) (s s' : State) → s'.plain ≡ s.plain → s'.number ≡ s.number → s'.work ≡ s.work → Adds names s s' Nothing
adds-none names s s' e n w = record {
  input = λ i. rw e refl;
  known = λ b block h. inl (rw e at h);
  items = λ b. rw n (omega arith);
  numbers = omega (arith, n);
  work = omega (arith, n, w);
}

then' : (names : ℕ → ℕ) (s t s' : State) (l m n : Trace) → ((b : ℕ) → uses b n ≡ uses b l + uses b m) → Adds names s t l → Adds names t s' m → Adds names s s' n
then' names s t s' l m n e a c = record {
  input = λ i. c.input i ∙ a.input i;
  known = λ b block h. go b block (c.known b block h);
  items = λ b. omega (arith, a.items b, c.items b, e b);
  numbers = omega (arith, a.numbers, c.numbers);
  work = omega (arith, a.work, c.work);
}
  where
    earlier : (b : ℕ) (block : Block) → (s.plain (Core b) ≡ Some block) ⊎ IsNamed names s.number t.number b → (s.plain (Core b) ≡ Some block) ⊎ IsNamed names s.number s'.number b
    earlier b block (inl h) = inl h
    earlier b block (inr h) = inr (h.0, h.1, omega (arith, h.2, c.numbers), h.3)

    go : (b : ℕ) (block : Block) → (t.plain (Core b) ≡ Some block) ⊎ IsNamed names t.number s'.number b → (s.plain (Core b) ≡ Some block) ⊎ IsNamed names s.number s'.number b
    go b block (inl h) = earlier b block (a.known b block h)
    go b block (inr h) = inr (h.0, omega (arith, h.1, a.numbers), h.2, h.3)

-- more items, in a state that differs in its store and by one step at most
with-items : (names : ℕ → ℕ) (s t s' : State) (l n : Trace) → ((b : ℕ) → uses b l ≤ uses b n) → t.plain ≡ s.plain → t.number ≡ s.number → s.work ≤ t.work → Adds names t s' l → Adds names s s' n
with-items names s t s' l n e p q w a = record {
  input = λ i. rw (← p) (a.input i);
  known = λ b block h. go b block (a.known b block h);
  items = λ b. let i : named names s'.number b ≤ uses b l + named names s.number b = subst (λ z. named names s'.number b ≤ uses b l + named names z b) q (a.items b) in omega (arith, i, e b);
  numbers = omega (arith, a.numbers, q);
  work = omega (arith, a.work, q, w);
}
  where
    go : (b : ℕ) (block : Block) → (t.plain (Core b) ≡ Some block) ⊎ IsNamed names t.number s'.number b → (s.plain (Core b) ≡ Some block) ⊎ IsNamed names s.number s'.number b
    go b block (inl h) = inl (rw p at h)
    go b block (inr h) = inr (h.0, omega (arith, h.1, q), h.2, h.3)

learnt-known-if : (x : Plain) (m b : ℕ) (new block : Block) (t : Bool) → (b == m) ≡ t → (if t then Some new else x (Core b)) ≡ Some block → (x (Core b) ≡ Some block) ⊎ (b ≡ m)
learnt-known-if x m b new block false s h = inl h
learnt-known-if x m b new block true s h = inr (grind (arith, s))

learnt-known : (x : Plain) (m b : ℕ) (new block : Block) → learnt x (Core m) new (Core b) ≡ Some block → (x (Core b) ≡ Some block) ⊎ (b ≡ m)
unfolding learnt
learnt-known x m b new block h = learnt-known-if x m b new block (b == m) refl h

learnt-input : (x : Plain) (n i : ℕ) (new : Block) → learnt x (Core n) new (Input i) ≡ x (Input i)
unfolding learnt
learnt-input x n i new = refl

-- a new block
adds-block : (code : Code) (names : ℕ → ℕ) (s s' : State) (key : _) (l : Trace) → Adds names (grows code names (works s) key) s' l → Adds names s s' (Stepped (Allocated (Core (names s.number)) key l))
adds-block code names s s' key l a = record {
  input = λ i. a.input i ∙ learnt-input s.plain (names s.number) i (made code s.plain key);
  known = λ b block h. go b block (a.known b block h);
  items = λ b. omega (arith, a.items b, next-named names s.number b);
  numbers = omega (arith, a.numbers);
  work = omega (arith, a.work);
}
  where
    of : (b : ℕ) (block : Block) → (s.plain (Core b) ≡ Some block) ⊎ (b ≡ names s.number) → (s.plain (Core b) ≡ Some block) ⊎ IsNamed names s.number s'.number b
    of b block (inl h) = inl h
    of b block (inr h) = inr (s.number, omega arith, omega (arith, a.numbers), h)

    go : (b : ℕ) (block : Block) → (learnt s.plain (Core (names s.number)) (made code s.plain key) (Core b) ≡ Some block) ⊎ IsNamed names (s.number + 1) s'.number b
        → (s.plain (Core b) ≡ Some block) ⊎ IsNamed names s.number s'.number b
    go b block (inl h) = of b block (learnt-known s.plain (names s.number) b (made code s.plain key) block h)
    go b block (inr h) = inr (h.0, omega (arith, h.1), h.2, h.3)

module _ (code : Code) {names : ℕ → ℕ} where
  mutual
    pub fix-adds : {s s' : State} {old new : Trace} → Fix code names s old s' new → Adds names s s' new
    fix-adds {s} {s'} Fix.end = adds-none names s s' refl refl refl
    fix-adds {s} {s'} (Fix.step {rest' = l} f) = with-items names s s s' l (Stepped l) (λ b. omega arith) refl refl (omega arith) (fix-adds f)
    fix-adds {s} {s'} (Fix.alloc {b = c} {key = key} {rest' = l} f) =
        with-items names s (clears code s c key) s' l (Allocated c key l) (λ b. omega (arith, times-cons b c (blocks_of l))) refl refl (omega arith) (fix-adds f)
    fix-adds {s} {s'} (Fix.write {p = p} {value = v} {rest' = l} f) = with-items names s (puts s p v) s' l (Wrote p v l) (λ b. omega arith) refl refl (omega arith) (fix-adds f)
    fix-adds {s} {s'} (Fix.read {t = t} {p = p} {u = u} {v = v} {args = args} {inside' = i} {rest' = l} m f) =
        then' names s t s' i l (WasRead p (s.store p) u v args i l) (λ b. times-append b (blocks_of i) (blocks_of l)) (mend-adds m) (fix-adds f)

    pub mend-adds : {s t : State} {p : Place} {u : UnitId} {v : ℕ} {args : List Word} {value : Word} {old new : Trace} → Mend code names s p u v args value old t new → Adds names s t new
    mend-adds (Mend.kept e f) = fix-adds f
    mend-adds (Mend.stale e a) = anew-adds a

    pub anew-adds : {s s' : State} {st : Stack} {old new left : Trace} → Reruns code names s st old s' new left → Adds names s s' new
    anew-adds {s} {s'} (Reruns.over e) = adds-none names s s' refl refl refl
    anew-adds {s} {s'} (Reruns.quiet {new = l} e a) = with-items names s (works s) s' l (Stepped l) (λ b. omega arith) refl refl (omega arith) (anew-adds a)
    anew-adds {s} {s'} (Reruns.takes_alloc {key = key} {new = l} {t = t} e w a) =
        with-items names s (clears code (works s) t.block key) s' l (Stepped (Allocated t.block key l)) (λ b. omega (arith, times-cons b t.block (blocks_of l))) refl refl (omega arith) (anew-adds a)
    anew-adds {s} {s'} (Reruns.makes {key = key} {new = l} e w a) = adds-block code names s s' key l (anew-adds a)
    anew-adds {s} {s'} (Reruns.writes {p = p} {value = v} {new = l} e a) = with-items names s (puts (works s) p v) s' l (Stepped (Wrote p v l)) (λ b. omega arith) refl refl (omega arith) (anew-adds a)
    anew-adds {s} {s'} (Reruns.takes_read {t = t} {p = p} {u = u} {v = v} {args = args} {inside' = i} {new = l} e w m a) =
        with-items names s (works s) s' (WasRead p (s.store p) u v args i l) (Stepped (WasRead p (s.store p) u v args i l)) (λ b. omega arith) refl refl (omega arith)
        (then' names (works s) t s' i l (WasRead p (s.store p) u v args i l) (λ b. times-append b (blocks_of i) (blocks_of l)) (mend-adds m) (anew-adds a))
    anew-adds {s} {s'} (Reruns.reads {t = t} {p = p} {u = u} {v = v} {args = args} {inside' = i} {new = l} e w m a) =
        with-items names s (works s) s' (WasRead p (s.store p) u v args i l) (Stepped (WasRead p (s.store p) u v args i l)) (λ b. omega arith) refl refl (omega arith)
        (then' names (works s) t s' i l (WasRead p (s.store p) u v args i l) (λ b. times-append b (blocks_of i) (blocks_of l)) (anew-adds m) (anew-adds a))

  adds-here : (s : State) (l : Trace) → Adds names s s l
  adds-here s l = with-items names s s s Nothing l (λ b. omega arith) refl refl (omega arith) (adds-none names s s refl refl refl)

  pub part-adds : {k j : ℕ} {s s' : State} {old new : Trace} → Part code names k s old j s' new → Adds names s s' new
  part-adds {s = s} {old = l} Part.stays = adds-here s l
  part-adds {s = s} Part.end = adds-here s Nothing
  part-adds {s = s} {s' = s'} (Part.step {rest' = l} f) = with-items names s s s' l (Stepped l) (λ b. omega arith) refl refl (omega arith) (part-adds f)
  part-adds {s = s} {s' = s'} (Part.alloc {b = c} {key = key} {rest' = l} f) =
      with-items names s (clears code s c key) s' l (Allocated c key l) (λ b. omega (arith, times-cons b c (blocks_of l))) refl refl (omega arith) (part-adds f)
  part-adds {s = s} {s' = s'} (Part.write {p = p} {value = v} {rest' = l} f) = with-items names s (puts s p v) s' l (Wrote p v l) (λ b. omega arith) refl refl (omega arith) (part-adds f)
  part-adds {s = s} {s' = s'} (Part.kept {t = t} {p = p} {u = u} {v = v} {args = args} {inside' = i} {rest' = l} e g f) =
      then' names s t s' i l (WasRead p (s.store p) u v args i l) (λ b. times-append b (blocks_of i) (blocks_of l)) (part-adds g) (part-adds f)
  part-adds {s = s} {s' = s'} (Part.stale {t = t} {p = p} {u = u} {v = v} {args = args} {inside' = i} {rest' = l} n a f) =
      then' names s t s' i l (WasRead p (s.store p) u v args i l) (λ b. times-append b (blocks_of i) (blocks_of l)) (anew-adds a) (part-adds f)

  -- the new items have the old blocks at most, each as often, and new numbers
  pub part-uses : (b : ℕ) {k j : ℕ} {s s' : State} {old new : Trace} → Part code names k s old j s' new → uses b new + named names s.number b ≤ uses b old + named names s'.number b
  part-uses b Part.stays = omega arith
  part-uses b Part.end = omega arith
  part-uses b (Part.step f) = part-uses b f
  part-uses b (Part.alloc {b = c} {rest = rest} {rest' = rest'} f) = omega (arith, part-uses b f, times-cons b c (blocks_of rest), times-cons b c (blocks_of rest'))
  part-uses b (Part.write f) = part-uses b f
  part-uses b (Part.kept {inside = inside} {inside' = inside'} {rest = rest} {rest' = rest'} e g f) =
      omega (arith, part-uses b g, part-uses b f, times-append b (blocks_of inside) (blocks_of rest), times-append b (blocks_of inside') (blocks_of rest'))
  part-uses b (Part.stale {inside = inside} {inside' = inside'} {rest = rest} {rest' = rest'} n a f) =
      omega (arith, anew-uses code b a, part-uses b f, times-append b (blocks_of inside) (blocks_of rest), times-append b (blocks_of inside') (blocks_of rest'))

  pub part-distinct : {k j : ℕ} {s s' : State} {old new : Trace} → Single names → Part code names k s old j s' new → Distinct (core_numbers (blocks_of old))
      → NamesApart names s.number old → Distinct (core_numbers (blocks_of new))
  part-distinct {s = s} {s' = s'} {old = old} {new = new} single f d low b =
      distinct-new names single s.number s'.number b (uses b new) (uses b old) (part-uses b f) (d b) (λ k i e. subst (λ z. uses z old ≡ 0) (sym e) (low k i))
