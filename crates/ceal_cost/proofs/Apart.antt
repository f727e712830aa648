-- The reads that a repair finds stale are apart in the first traces.
use Rattle.std.proofs.Common.{◌≡◌, ℕ, ◌+◌, ◌≤◌, ◌==◌, ◌&&◌, Bool, true, false, if◌then◌else◌, List, [], ◌⊎◌, inl, inr, refl, sym, ap, ap₂, ◌∙◌, subst, arith}
use Rattle.ceal_base.specs.Block.{Block}
use Rattle.ceal_base.specs.Trace.{Trace, Nothing, Stepped, Allocated, Wrote, WasRead, steps_of}
use Rattle.ceal_base.specs.declared.forest.Key.{Key}
use Rattle.ceal_base.specs.declared.forest.UnitId.{UnitId}
use Rattle.ceal_base.specs.declared.word.BlockId.{BlockId}
use Rattle.ceal_base.specs.declared.word.BlockId.TheVariants.{Input, Core}
use Rattle.ceal_base.specs.declared.word.Place.{Place}
use Rattle.ceal_base.specs.declared.word.Word.{Word}
use Rattle.ceal_base.specs.declared.word.Word.TheVariants.{Num, Block as BlockWord, At}
use Rattle.ceal_code.proofs.Words.SameIsEqual.{both, nat-same, word-same}
use Rattle.ceal_code.specs.Alike.{Pairs, Tied, IdAlike, WordAlike, TraceAlike, OneToOne}
use Rattle.ceal_code.specs.Program.{Code}
use Rattle.ceal_code.specs.Step.{Stack}
use Rattle.ceal_cost.proofs.Firsts.{first-of}
use Rattle.ceal_cost.specs.Apart.{apart_from, apart_of, first_apart, stale_fix, stale_mend, stale_anew, StaleLaw}
use Rattle.ceal_cost.specs.Firsts.{IsHonestTrace}
use Rattle.ceal_theory.proofs.Repair.RepairLaws.{repair-law}
use Rattle.ceal_theory.proofs.Store.FittingInputs.{fits-more}
use Rattle.ceal_theory.specs.Cost.{paired, same_id, same_value, with_pair, cost_from}
use Rattle.ceal_theory.specs.Counts.{reads_of}
use Rattle.ceal_theory.specs.Repair.{State, Fix, Mend, Reruns}

-- ---- a stale read is a read of the new items

mutual
  fix-reads : {code : Code} {names : ℕ → ℕ} {s s' : State} {old new : Trace} → (f : Fix code names s old s' new) → stale_fix f ≤ reads_of new
  fix-reads Fix.end = omega arith
  fix-reads (Fix.step f) = fix-reads f
  fix-reads (Fix.alloc f) = fix-reads f
  fix-reads (Fix.write f) = fix-reads f
  fix-reads (Fix.read m f) = omega (arith, mend-reads m, fix-reads f)

  mend-reads : {code : Code} {names : ℕ → ℕ} {s t : State} {p : Place} {u : UnitId} {v : ℕ} {args : List Word} {value : Word} {old new : Trace}
      → (m : Mend code names s p u v args value old t new) → stale_mend m ≤ 1 + reads_of new
  mend-reads (Mend.kept e f) = omega (arith, fix-reads f)
  mend-reads (Mend.stale e a) = omega (arith, anew-reads a)

  anew-reads : {code : Code} {names : ℕ → ℕ} {s s' : State} {st : Stack} {old new left : Trace} → (a : Reruns code names s st old s' new left) → stale_anew a ≤ reads_of new
  anew-reads (Reruns.over e) = omega arith
  anew-reads (Reruns.quiet e a) = anew-reads a
  anew-reads (Reruns.takes_alloc e t a) = anew-reads a
  anew-reads (Reruns.makes e t a) = anew-reads a
  anew-reads (Reruns.writes e a) = anew-reads a
  anew-reads (Reruns.takes_read e t m a) = omega (arith, mend-reads m, anew-reads a)
  anew-reads (Reruns.reads e t m a) = omega (arith, anew-reads m, anew-reads a)

-- ---- a repair departs from the old items at the reads that it finds stale among those that are kept

-- The second trace is the first one, but that some reads have another value, and whatever items inside. The number is
-- that of these reads and of all reads inside them.
pub data Departs : Trace → Trace → ℕ → Type 0 where
  nothing : Departs Nothing Nothing 0
  stepped : {l m : Trace} {n : ℕ} → Departs l m n → Departs (Stepped l) (Stepped m) n
  allocated : {b : BlockId} {key : Key} {l m : Trace} {n : ℕ}
      → Departs l m n → Departs (Allocated b key l) (Allocated b key m) n
  wrote : {p : Place} {v : Word} {l m : Trace} {n : ℕ} → Departs l m n → Departs (Wrote p v l) (Wrote p v m) n
  same : {p : Place} {v : Word} {u : UnitId} {x : ℕ} {args : List Word} {i j l m : Trace} {n k : ℕ}
      → Departs i j n → Departs l m k → Departs (WasRead p v u x args i l) (WasRead p v u x args j m) (n + k)
  other : {p : Place} {v w : Word} {u : UnitId} {x : ℕ} {args : List Word} {i j l m : Trace} {k : ℕ}
      → ¬ (v ≡ w) → Departs l m k
      → Departs (WasRead p v u x args i l) (WasRead p w u x args j m) (1 + reads_of j + k)

pub record Departed (l m : Trace) (stale : ℕ) : Type 0 where
  pub reads : ℕ
  pub departs : Departs l m reads
  pub bound : stale ≤ reads

mutual
  pub fix-departs : {code : Code} {names : ℕ → ℕ} {s s' : State} {l m : Trace} → (f : Fix code names s l s' m) → Departed l m (stale_fix f)
  fix-departs Fix.end = record { reads = 0; departs = Departs.nothing; bound = omega arith }
  fix-departs (Fix.step f) = let d = fix-departs f in record { reads = d.reads; departs = Departs.stepped d.departs; bound = d.bound }
  fix-departs (Fix.alloc f) = let d = fix-departs f in record { reads = d.reads; departs = Departs.allocated d.departs; bound = d.bound }
  fix-departs (Fix.write f) = let d = fix-departs f in record { reads = d.reads; departs = Departs.wrote d.departs; bound = d.bound }
  fix-departs (Fix.read {rest = l} {rest' = m} d f) = mend-departs d l m (stale_fix f) (fix-departs f)

  mend-departs : {code : Code} {names : ℕ → ℕ} {s t : State} {p : Place} {u : UnitId} {x : ℕ} {args : List Word} {v : Word} {i j : Trace} → (d : Mend code names s p u x args v i t j)
      → (l m : Trace) (n : ℕ) → Departed l m n → Departed (WasRead p v u x args i l) (WasRead p (s.store p) u x args j m) (stale_mend d + n)
  mend-departs {s = s} {p = p} {u = u} {x = x} {args = args} {v = v} {i = i} {j = j} (Mend.kept e f) l m n a =
      let d = fix-departs f in
      subst (λ w. Departed (WasRead p v u x args i l) (WasRead p w u x args j m) (stale_fix f + n)) (sym e)
      (record { reads = d.reads + a.reads; departs = Departs.same d.departs a.departs; bound = omega (arith, d.bound, a.bound) })
  mend-departs {j = j} (Mend.stale e r) l m n a =
      record { reads = 1 + reads_of j + a.reads; departs = Departs.other (λ same. e (sym same)) a.departs; bound = omega (arith, anew-reads r, a.bound) }

departs-reads : {l m : Trace} {n : ℕ} → Departs l m n → n ≤ reads_of m
departs-reads Departs.nothing = omega arith
departs-reads (Departs.stepped d) = departs-reads d
departs-reads (Departs.allocated d) = departs-reads d
departs-reads (Departs.wrote d) = departs-reads d
departs-reads (Departs.same d e) = omega (arith, departs-reads d, departs-reads e)
departs-reads (Departs.other e d) = omega (arith, departs-reads d)

reads-alike : {ps : Pairs} {l m : Trace} → TraceAlike ps l m → reads_of l ≡ reads_of m
reads-alike TraceAlike.nothing = refl
reads-alike (TraceAlike.stepped h) = reads-alike h
reads-alike (TraceAlike.allocated t k h) = reads-alike h
reads-alike (TraceAlike.wrote p w h) = reads-alike h
reads-alike (TraceAlike.was_read p w vs i h) = omega (arith, reads-alike i, reads-alike h)

-- ---- two reads side by side

module _ (qs : Pairs) (p q : Place) (v w : Word) (u u' : UnitId) (x x' : ℕ) (args args' : List Word) (i j l m : Trace) where
  pairs-true : same_value qs v w ≡ true → (cost_from qs (WasRead p v u x args i l) (WasRead q w u' x' args' j m)).pairs ≡ (cost_from (cost_from qs i j).pairs l m).pairs
  unfolding cost_from
  pairs-true e = rw e refl

  pairs-false : same_value qs v w ≡ false → (cost_from qs (WasRead p v u x args i l) (WasRead q w u' x' args' j m)).pairs ≡ (cost_from qs l m).pairs
  unfolding cost_from
  pairs-false e = rw e refl

  apart-true : same_value qs v w ≡ true → apart_from qs (WasRead p v u x args i l) (WasRead q w u' x' args' j m) ≡ apart_from qs i j + apart_from (cost_from qs i j).pairs l m
  unfolding apart_from
  apart-true e = rw e refl

  apart-false : same_value qs v w ≡ false → apart_from qs (WasRead p v u x args i l) (WasRead q w u' x' args' j m) ≡ 1 + reads_of j + apart_from qs l m
  unfolding apart_from
  apart-false e = rw e refl

by-value : (qs : Pairs) (v w : Word) (P : Type 0) → (same_value qs v w ≡ true → P) → (same_value qs v w ≡ false → P) → P
by-value qs v w P f g = go (same_value qs v w) refl
  where
    go : (t : Bool) → same_value qs v w ≡ t → P
    go true e = f e
    go false e = g e

-- the reads that are apart are reads of the second trace
apart-reads : (qs : Pairs) (l m : Trace) → apart_from qs l m ≤ reads_of m
unfolding apart_from
apart-reads qs (Stepped l) (Stepped m) = apart-reads qs l m
apart-reads qs (Allocated b k l) (Allocated c k' m) = apart-reads (with_pair qs b c) l m
apart-reads qs (Wrote p v l) (Wrote q w m) = apart-reads qs l m
apart-reads qs (WasRead p v u x args i l) (WasRead q w u' x' args' j m) =
    by-value qs v w (apart_from qs (WasRead p v u x args i l) (WasRead q w u' x' args' j m) ≤ reads_of (WasRead q w u' x' args' j m))
    (λ e. omega (arith, apart-true qs p q v w u u' x x' args args' i j l m e, apart-reads qs i j, apart-reads (cost_from qs i j).pairs l m))
    (λ e. omega (arith, apart-false qs p q v w u u' x x' args args' i j l m e, apart-reads qs l m))
apart-reads qs _ _ = omega arith

-- ---- traces with these renamings

pair-if : (t d : Bool) → (if t then true else d) ≡ true → (t ≡ true) ⊎ (d ≡ true)
pair-if true d e = inl refl
pair-if false d e = inr e

module _ (ps : Pairs) (one : OneToOne ps) (rs : Pairs) (two : OneToOne rs) where
  -- a block that both stand for
  record Meets (b c : ℕ) : Type 0 where
    block : ℕ
    left : Tied b block ps
    right : Tied c block rs

  -- blocks that are a pair stand for one block
  Meet : Pairs → Type 0
  Meet qs = (b c : ℕ) → paired qs b c ≡ true → Meets b c

  meet-with : (qs : Pairs) → Meet qs → {b b' c : BlockId} → IdAlike ps b c → IdAlike rs b' c → Meet (with_pair qs b b')
  unfolding Meet
  meet-with qs h IdAlike.input IdAlike.input = h
  meet-with qs h (IdAlike.core {b = b} {c = c} s) (IdAlike.core {b = b'} t) = λ d d' e. go d d' (pair-if (b == d && b' == d') (paired qs d d') e)
    where
      go : (d d' : ℕ) → ((b == d && b' == d') ≡ true) ⊎ (paired qs d d' ≡ true) → Meets d d'
      go d d' (inl e) =
          let k = both (b == d) (b' == d') e in
          record { block = c; left = subst (λ d. Tied d c ps) (nat-same b d k.0) s; right = subst (λ d. Tied d c rs) (nat-same b' d' k.1) t }
      go d d' (inr e) = h d d' e

  same-id : (qs : Pairs) → Meet qs → {b c b' c' : BlockId} → IdAlike ps b c → IdAlike rs b' c' → same_id qs b b' ≡ true → c ≡ c'
  unfolding Meet
  same-id qs h (IdAlike.input {i = i}) (IdAlike.input {i = j}) e = ap Input (nat-same i j e)
  same-id qs h IdAlike.input (IdAlike.core t) e = absurd (grind (arith, e))
  same-id qs h (IdAlike.core s) IdAlike.input e = absurd (grind (arith, e))
  same-id qs h (IdAlike.core {b = b} {c = c} s) (IdAlike.core {b = b'} {c = c'} t) e =
      let m = h b b' e in ap Core (one.left b c m.block s m.left ∙ two.left b' m.block c' m.right t)

  same-word : (qs : Pairs) → Meet qs → {v v' w w' : Word} → WordAlike ps v w → WordAlike rs v' w' → same_value qs v v' ≡ true → w ≡ w'
  same-word qs h (WordAlike.num {n = m}) (WordAlike.num {n = n}) e = word-same (Num m) (Num n) e
  same-word qs h WordAlike.null WordAlike.null e = refl
  same-word qs h (WordAlike.block s) (WordAlike.block t) e = ap BlockWord (same-id qs h s t e)
  same-word qs h (WordAlike.at {p = p} {q = q} s) (WordAlike.at {p = p'} {q = q'} t) e =
      let k = both (same_id qs p.block p'.block) (p.field == p'.field) e in
      ap At (ap₂ (λ b f. record { block = b; field = f }) (same-id qs h s.block t.block k.0) (sym s.field ∙ (nat-same p.field p'.field k.1 ∙ t.field)))
  same-word qs h WordAlike.num WordAlike.null e = absurd (grind (arith, e))
  same-word qs h WordAlike.num (WordAlike.block t) e = absurd (grind (arith, e))
  same-word qs h WordAlike.num (WordAlike.at t) e = absurd (grind (arith, e))
  same-word qs h WordAlike.null WordAlike.num e = absurd (grind (arith, e))
  same-word qs h WordAlike.null (WordAlike.block t) e = absurd (grind (arith, e))
  same-word qs h WordAlike.null (WordAlike.at t) e = absurd (grind (arith, e))
  same-word qs h (WordAlike.block s) WordAlike.num e = absurd (grind (arith, e))
  same-word qs h (WordAlike.block s) WordAlike.null e = absurd (grind (arith, e))
  same-word qs h (WordAlike.block s) (WordAlike.at t) e = absurd (grind (arith, e))
  same-word qs h (WordAlike.at s) WordAlike.num e = absurd (grind (arith, e))
  same-word qs h (WordAlike.at s) WordAlike.null e = absurd (grind (arith, e))
  same-word qs h (WordAlike.at s) (WordAlike.block t) e = absurd (grind (arith, e))

  -- the reads that are apart are no fewer, and what is paired after these traces meets
  record Counted (qs : Pairs) (g h : Trace) (n : ℕ) : Type 0 where
    bound : n ≤ apart_from qs g h
    meet : Meet (cost_from qs g h).pairs

  ends : (qs : Pairs) → Meet qs → Counted qs Nothing Nothing 0
  unfolding cost_from
  ends qs k = record { bound = omega arith; meet = k }

  steps : (qs : Pairs) (g h : Trace) (n : ℕ) → Counted qs g h n → Counted qs (Stepped g) (Stepped h) n
  unfolding cost_from apart_from
  steps qs g h n c = record { bound = c.bound; meet = c.meet }

  allocates : (qs : Pairs) (b b' : BlockId) (g h : Trace) (n : ℕ) → Counted (with_pair qs b b') g h n → (key key' : _) → Counted qs (Allocated b key g) (Allocated b' key' h) n
  unfolding cost_from apart_from
  allocates qs b b' g h n c key key' = record { bound = c.bound; meet = c.meet }

  writes : (qs : Pairs) (p q : Place) (v w : Word) (g h : Trace) (n : ℕ) → Counted qs g h n → Counted qs (Wrote p v g) (Wrote q w h) n
  unfolding cost_from apart_from
  writes qs p q v w g h n c = record { bound = c.bound; meet = c.meet }

  same-read : (qs : Pairs) (p q : Place) (v w : Word) (u u' : UnitId) (x x' : ℕ) (args args' : List Word) (i j g h : Trace) (n k : ℕ) → same_value qs v w ≡ true
      → Counted qs i j n → (Meet (cost_from qs i j).pairs → Counted (cost_from qs i j).pairs g h k)
      → Counted qs (WasRead p v u x args i g) (WasRead q w u' x' args' j h) (n + k)
  same-read qs p q v w u u' x x' args args' i j g h n k e a f = go (f a.meet)
    where
      go : Counted (cost_from qs i j).pairs g h k → Counted qs (WasRead p v u x args i g) (WasRead q w u' x' args' j h) (n + k)
      go b = record {
        bound = omega (arith, apart-true qs p q v w u u' x x' args args' i j g h e, a.bound, b.bound);
        meet = subst Meet (sym (pairs-true qs p q v w u u' x x' args args' i j g h e)) b.meet;
      }

  other-read : (qs : Pairs) (p q : Place) (v w : Word) (u u' : UnitId) (x x' : ℕ) (args args' : List Word) (i j g h : Trace) (n k : ℕ) → same_value qs v w ≡ false
      → n ≤ 1 + reads_of j → Counted qs g h k → Counted qs (WasRead p v u x args i g) (WasRead q w u' x' args' j h) (n + k)
  other-read qs p q v w u u' x x' args args' i j g h n k e few b = record {
    bound = omega (arith, apart-false qs p q v w u u' x x' args args' i j g h e, few, b.bound);
    meet = subst Meet (sym (pairs-false qs p q v w u u' x x' args args' i j g h e)) b.meet;
  }

  counted : {l m : Trace} {n : ℕ} → Departs l m n → {g h : Trace} → TraceAlike ps g l → TraceAlike rs h m → (qs : Pairs) → Meet qs → Counted qs g h n
  counted Departs.nothing TraceAlike.nothing TraceAlike.nothing qs k = ends qs k
  counted {n = n} (Departs.stepped d) (TraceAlike.stepped {l = g} s) (TraceAlike.stepped {l = h} t) qs k = steps qs g h n (counted d s t qs k)
  counted {n = n} (Departs.allocated d) (TraceAlike.allocated {b = b} {k = key} {l = g} i _ s) (TraceAlike.allocated {b = b'} {k = key'} {l = h} i' _ t) qs k =
      allocates qs b b' g h n (counted d s t (with_pair qs b b') (meet-with qs k i i')) key key'
  counted {n = n} (Departs.wrote d) (TraceAlike.wrote {p = p} {v = v} {l = g} _ _ s) (TraceAlike.wrote {p = q} {v = w} {l = h} _ _ t) qs k = writes qs p q v w g h n (counted d s t qs k)
  counted (Departs.same {j = j0} {n = n} {k = m} d e)
      (TraceAlike.was_read {p = p} {v = v} {u = u} {x = x} {vs = args} {i = i} {l = g} _ _ _ si s)
      (TraceAlike.was_read {p = q} {v = w} {u = u'} {x = x'} {vs = args'} {i = j} {l = h} _ _ _ ti t) qs k =
      by-value qs v w (Counted qs (WasRead p v u x args i g) (WasRead q w u' x' args' j h) (n + m))
      (λ is. same-read qs p q v w u u' x x' args args' i j g h n m is (counted d si ti qs k) (λ k'. counted e s t (cost_from qs i j).pairs k'))
      (λ is. other-read qs p q v w u u' x x' args args' i j g h n m is (omega (arith, departs-reads d, reads-alike ti)) (counted e s t qs k))
  counted (Departs.other {j = j0} {k = m} differs e)
      (TraceAlike.was_read {p = p} {v = v} {u = u} {x = x} {vs = args} {i = i} {l = g} _ kv _ si s)
      (TraceAlike.was_read {p = q} {v = w} {u = u'} {x = x'} {vs = args'} {i = j} {l = h} _ kw _ ti t) qs k =
      by-value qs v w (Counted qs (WasRead p v u x args i g) (WasRead q w u' x' args' j h) (1 + reads_of j0 + m))
      (λ is. absurd (differs (same-word qs k kv kw is)))
      (λ is. other-read qs p q v w u u' x x' args args' i j g h (1 + reads_of j0) m is (omega (arith, reads-alike ti)) (counted e s t qs k))

  none-meet : Meet []
  unfolding Meet
  none-meet b c e = absurd (grind (arith, e))

-- ---- the laws

-- where an honest trace of a call departs so from one on older inputs, these reads are apart in the first traces
pub departs-apart : (code : Code) (old new : List Block) (f : ℕ) (args : List Word) (l m : Trace) (n k : ℕ) → IsHonestTrace code old f args l → IsHonestTrace code new f args m
    → steps_of l ≤ n → steps_of m ≤ n → Departs l m k → k ≤ first_apart code n old new f args
departs-apart code old new f args l m n k honest honest' few few' d =
    let g = first-of code old f args l honest n few in
    let h = first-of code new f args m honest' n few' in
    let c = counted g.pairs g.one h.pairs h.one d g.alike h.alike [] (none-meet g.pairs g.one h.pairs h.one) in
    let is = ap₂ apart_of g.is h.is in
    omega (arith, is, c.bound)

pub stale-law : StaleLaw
stale-law code old new f args l m number work n e honest few few' a =
    let u = repair-law code old new f args l m number work e a in
    let was : IsHonestTrace code old f args l = record { fits = e.call; replays = e.trace; honest = honest } in
    let now : IsHonestTrace code new f args m = record { fits = fits-more code old new e.extended f args e.call e.fit; replays = u.replays; honest = u.honest } in
    let d = fix-departs a.fix in
    let g = first-of code old f args l was n few in
    let h = first-of code new f args m now n few' in
    let is = ap₂ apart_of g.is h.is in (
      omega (arith, d.bound, departs-apart code old new f args l m n d.reads was now few few' d.departs),
      omega (arith, is, apart-reads [] g.first.items h.first.items, reads-alike h.alike),
    )
