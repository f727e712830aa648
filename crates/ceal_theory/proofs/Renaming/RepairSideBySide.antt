-- To repair a trace whose core blocks are renamed one to one is to rename the repair.
use Rattle.std.proofs.Common.{◌≡◌, ℕ, ◌+◌, ◌≤◌, Bool, true, false, ◌==◌, ◌&&◌, if◌then◌else◌, Option, Some, None, List, ◌∷◌, ◌⊎◌, inl, inr, refl, sym, ap, ap₂, ◌∙◌, subst, arith}
use Rattle.ceal_base.specs.Block.{Block}
use Rattle.ceal_base.specs.Operators.{same_place, same_word}
use Rattle.ceal_base.specs.Trace.{Trace, Nothing, Stepped, Allocated, Wrote, WasRead, trace_then}
use Rattle.ceal_base.specs.declared.forest.Key.{Key}
use Rattle.ceal_base.specs.declared.forest.UnitId.{UnitId}
use Rattle.ceal_base.specs.declared.word.BlockId.{BlockId}
use Rattle.ceal_base.specs.declared.word.BlockId.TheVariants.{Input, Core}
use Rattle.ceal_base.specs.declared.word.Place.{Place}
use Rattle.ceal_base.specs.declared.word.Word.{Word}
use Rattle.ceal_code.proofs.Alike.AlikeActs.{QuietToo, MakesToo, WritesToo, ReadsToo, over-too, quiet-too, makes-too, writes-too, reads-too}
use Rattle.ceal_code.proofs.Alike.AlikeSteps.{id-wider, place-wider, word-wider, words-wider, key-wider}
use Rattle.ceal_code.proofs.Alike.AlikeSteps.{variables-wider, stack-wider, block-wider, maybe-wider, trace-wider}
use Rattle.ceal_code.proofs.Alike.AlikeSteps.{place-both, word-both, set-alike, words_after_read-alike, pointer-alike, made-alike}
use Rattle.ceal_code.proofs.Alike.AlikeSteps.{next-alike}
use Rattle.ceal_code.proofs.Alike.AlikeStores.{cleared-alike, cleared-tied, stored-alike}
use Rattle.ceal_code.proofs.Alike.BlockPairs.{within-trans, more-pair, tied-case}
use Rattle.ceal_code.proofs.Words.SameIsEqual.{nat-same, word-same, word-refl}
use Rattle.ceal_code.specs.Alike.{Pairs, Tied, IdAlike, PlaceAlike, WordAlike, WordsAlike, KeyAlike, VariablesAlike}
use Rattle.ceal_code.specs.Alike.{StackAlike, ActAlike, BlockAlike, MaybeAlike, PlainAlike, StoreAlike, TraceAlike}
use Rattle.ceal_code.specs.Alike.{Within, OneToOne}
use Rattle.ceal_code.specs.Init.{made, pointer}
use Rattle.ceal_code.specs.Program.{Code}
use Rattle.ceal_code.specs.Replay.{learnt}
use Rattle.ceal_code.specs.Step.{Stack, Run, Act, Over, Quiet, Makes, Writes, Reads, next}
use Rattle.ceal_code.specs.Value.{Plain, Variables, set}
use Rattle.ceal_theory.proofs.Store.WordsGrow.{learnt-here}
use Rattle.ceal_theory.specs.Repair.{State, Single, clears, puts, works, grows, resumed, Fix, Mend, Reruns}
use Rattle.ceal_theory.specs.Take.{TakenAlloc, TakenRead, same_words, same_key, alloc_then, read_then, take_alloc, take_read}

-- what two takings have in common
pub data TookAlloc (ps : Pairs) : Option TakenAlloc → Option TakenAlloc → Type 0 where
  none : TookAlloc ps None None
  some : {a b : TakenAlloc} → IdAlike ps a.block b.block → TraceAlike ps a.leftover b.leftover → TookAlloc ps (Some a) (Some b)

pub data TookRead (ps : Pairs) : Option TakenRead → Option TakenRead → Type 0 where
  none : TookRead ps None None
  some : {a b : TakenRead} → WordAlike ps a.value b.value → TraceAlike ps a.inside b.inside → TraceAlike ps a.leftover b.leftover → TookRead ps (Some a) (Some b)

module _ (ps : Pairs) (one : OneToOne ps) where
  words-both : {vs ws vs' ws' : List Word} → WordsAlike ps vs vs' → WordsAlike ps ws ws' → same_words vs ws ≡ same_words vs' ws'
  words-both WordsAlike.none WordsAlike.none = refl
  words-both WordsAlike.none (WordsAlike.more h k) = refl
  words-both (WordsAlike.more h k) WordsAlike.none = refl
  words-both (WordsAlike.more h k) (WordsAlike.more i j) = ap₂ (λ a b. a && b) (word-both ps one h i) (words-both k j)

  key-both : {k l k' l' : Key} → KeyAlike ps k k' → KeyAlike ps l l' → same_key k l ≡ same_key k' l'
  key-both (KeyAlike.init {f = f} h) (KeyAlike.init {f = g} k) = ap (λ b. f == g && b) (words-both h k)
  key-both (KeyAlike.init h) KeyAlike.int = refl
  key-both (KeyAlike.init h) KeyAlike.pointer = refl
  key-both KeyAlike.int (KeyAlike.init k) = refl
  key-both KeyAlike.int KeyAlike.int = refl
  key-both KeyAlike.int KeyAlike.pointer = refl
  key-both KeyAlike.pointer (KeyAlike.init k) = refl
  key-both KeyAlike.pointer KeyAlike.int = refl
  key-both KeyAlike.pointer KeyAlike.pointer = refl

  followed-alike : {f g h k : Trace} → TraceAlike ps f g → TraceAlike ps h k → TraceAlike ps (trace_then f h) (trace_then g k)
  followed-alike TraceAlike.nothing t = t
  followed-alike (TraceAlike.stepped s) t = TraceAlike.stepped (followed-alike s t)
  followed-alike (TraceAlike.allocated b k s) t = TraceAlike.allocated b k (followed-alike s t)
  followed-alike (TraceAlike.wrote p v s) t = TraceAlike.wrote p v (followed-alike s t)
  followed-alike (TraceAlike.was_read p v vs i s) t = TraceAlike.was_read p v vs i (followed-alike s t)

  alloc-then-alike : {r r' : Trace} {a b c d : Option TakenAlloc} → TraceAlike ps r r' → TookAlloc ps a b → TookAlloc ps c d → TookAlloc ps (alloc_then r a c) (alloc_then r' b d)
  alloc-then-alike h TookAlloc.none k = k
  alloc-then-alike h (TookAlloc.some t l) k = TookAlloc.some t (followed-alike l h)

  alloc-if-alike : (e : Bool) {b c : BlockId} {r r' : Trace} {x y : Option TakenAlloc} → IdAlike ps b c → TraceAlike ps r r' → TookAlloc ps x y
      → TookAlloc ps (if e then Some (record { block = b; leftover = r }) else x) (if e then Some (record { block = c; leftover = r' }) else y)
  alloc-if-alike true t h k = TookAlloc.some t h
  alloc-if-alike false t h k = k

  pub take-alloc-alike : {k l : Key} → KeyAlike ps k l → {f g : Trace} → TraceAlike ps f g → TookAlloc ps (take_alloc k f) (take_alloc l g)
  unfolding take_alloc
  take-alloc-alike k TraceAlike.nothing = TookAlloc.none
  take-alloc-alike k (TraceAlike.stepped h) = take-alloc-alike k h
  take-alloc-alike {k = key} {l = key'} k (TraceAlike.allocated {b = b} {c = c} {k = j} {k' = j'} {l = r} {m = r'} t i h) =
      subst (λ e. TookAlloc ps (if same_key j key then Some (record { block = b; leftover = r }) else take_alloc key r) (if e then Some (record { block = c; leftover = r' }) else take_alloc key' r'))
      (key-both i k) (alloc-if-alike (same_key j key) t h (take-alloc-alike k h))
  take-alloc-alike k (TraceAlike.wrote p v h) = take-alloc-alike k h
  take-alloc-alike k (TraceAlike.was_read p v vs i h) = alloc-then-alike h (take-alloc-alike k i) (take-alloc-alike k h)

  read-then-alike : {r r' : Trace} {a b c d : Option TakenRead} → TraceAlike ps r r' → TookRead ps a b → TookRead ps c d → TookRead ps (read_then r a c) (read_then r' b d)
  read-then-alike h TookRead.none k = k
  read-then-alike h (TookRead.some v i l) k = TookRead.some v i (followed-alike l h)

  read-if-alike : (e : Bool) {v w : Word} {i j r r' : Trace} {x y : Option TakenRead} → WordAlike ps v w → TraceAlike ps i j → TraceAlike ps r r' → TookRead ps x y
      → TookRead ps (if e then Some (record { value = v; inside = i; leftover = r }) else x) (if e then Some (record { value = w; inside = j; leftover = r' }) else y)
  read-if-alike true v i h k = TookRead.some v i h
  read-if-alike false v i h k = k

  pub take-read-alike : {p q : Place} → PlaceAlike ps p q → (u : UnitId) (y : ℕ) {vs ws : List Word}
      → WordsAlike ps vs ws → {f g : Trace} → TraceAlike ps f g → TookRead ps (take_read p u y vs f)
      (take_read q u y ws g)
  unfolding take_read
  take-read-alike kp u y kw TraceAlike.nothing = TookRead.none
  take-read-alike kp u y kw (TraceAlike.stepped h) = take-read-alike kp u y kw h
  take-read-alike kp u y kw (TraceAlike.allocated t i h) = take-read-alike kp u y kw h
  take-read-alike kp u y kw (TraceAlike.wrote p v h) = take-read-alike kp u y kw h
  take-read-alike {p = p} {q = q} kp u y {vs = vs} {ws = ws} kw
      (TraceAlike.was_read {p = p1} {q = q1} {v = v1} {w = w1} {u = u1} {x = y1} {vs = vs1} {ws = ws1} {i = i1} {j =
      j1} {l = l1} {m = m1} kp1 kv1 kvs1 ki h) =
      subst (λ e. TookRead ps (if same_place p1 p && u1.0 == u.0 && y1 == y && same_words vs1 vs then Some
      (record { value = v1; inside = i1; leftover = l1 }) else read_then l1 (take_read p u y vs i1)
      (take_read p u y vs l1))
      (if e then Some (record { value = w1; inside = j1; leftover = m1 }) else read_then m1 (take_read q u y ws j1) (take_read q u y ws m1)))
      (ap₂ (λ a b. a && u1.0 == u.0 && y1 == y && b) (place-both ps one p1 p q1 q kp1 kp) (words-both kvs1 kw))
      (read-if-alike (same_place p1 p && u1.0 == u.0 && y1 == y && same_words vs1 vs) kv1 ki h (read-then-alike h (take-read-alike kp u y kw ki) (take-read-alike kp u y kw h)))

pub given-too : (code : Code) (ps : Pairs) (u : UnitId) (y : ℕ) (args args' : List Word) (v w : Word)
    → WordsAlike ps args args' → WordAlike ps v w → StackAlike ps (resumed code u y args v) (resumed code u y args' w)
given-too code ps u y args args' v w ka kw = words_after_read-alike ps code u.0 y ka kw StackAlike.empty

-- what is equal on the one side is equal on the other
pub equal-too : (ps : Pairs) → OneToOne ps → (v w v' w' : Word) → WordAlike ps v v' → WordAlike ps w w' → v ≡ w → v' ≡ w'
equal-too ps one v w v' w' h k e = word-same v' w' (sym (word-both ps one h k) ∙ (ap (λ z. same_word z w) e ∙ word-refl w))

pub apart-too : (ps : Pairs) → OneToOne ps → (v w v' w' : Word) → WordAlike ps v v' → WordAlike ps w w' → ¬ (v ≡ w) → ¬ (v' ≡ w')
apart-too ps one v w v' w' h k n e = n (word-same v w (word-both ps one h k ∙ (ap (λ z. same_word z w') e ∙ word-refl w')))

-- the names of two repairs, their first numbers, and the pairs at the beginning
pub record Sides : Type 0 where
  pub left : ℕ → ℕ
  pub right : ℕ → ℕ
  pub from : ℕ
  pub other : ℕ
  pub base : Pairs
  pub single-left : Single left
  pub single-right : Single right

-- the pair is one of those at the beginning, or of the k-th new blocks
pub data ComesFrom (sides : Sides) (b c : ℕ) : Type 0 where
  begun : Tied b c sides.base → ComesFrom sides b c
  grown : (k : ℕ) → b ≡ sides.left (sides.from + k) → c ≡ sides.right (sides.other + k) → ComesFrom sides b c

module _ (code : Code) (sides : Sides) where
  -- two repairs that proceed side by side
  pub record Twin (ps : Pairs) (s t : State) : Type 0 where
    pub one : OneToOne ps
    pub plain : PlainAlike code.structs ps s.plain t.plain
    pub store : StoreAlike ps s.store t.store
    pub left : (b c : ℕ) → Tied b c ps → (k : ℕ) → s.number ≤ k → ¬ (b ≡ sides.left k)
    pub right : (b c : ℕ) → Tied b c ps → (k : ℕ) → t.number ≤ k → ¬ (c ≡ sides.right k)
    pub work : s.work ≡ t.work
    pub since : ℕ
    pub numbers : (s.number ≡ sides.from + since) × (t.number ≡ sides.other + since)
    pub pairs : (b c : ℕ) → Tied b c ps → ComesFrom sides b c

  twin-works : (ps : Pairs) (s t : State) → Twin ps s t → Twin ps (works s) (works t)
  twin-works ps s t k = record { one = k.one; plain = k.plain; store = k.store; left = k.left; right = k.right; work = ap (λ n. n + 1) k.work; since = k.since; numbers = k.numbers; pairs = k.pairs }

  pub twin-clears : (ps : Pairs) (s t : State) (b c : BlockId) (key key' : Key) → IdAlike ps b c → KeyAlike ps key key' → Twin ps s t → Twin ps (clears code s b key) (clears code t c key')
  twin-clears ps s t b c key key' i kk k = record {
    one = k.one;
    plain = k.plain;
    store = cleared-tied code ps k.one b c i kk s.store t.store k.store;
    left = k.left;
    right = k.right;
    work = k.work;
    since = k.since;
    numbers = k.numbers;
    pairs = k.pairs;
  }

  pub twin-puts : (ps : Pairs) (s t : State) (p q : Place) (v w : Word) → PlaceAlike ps p q → WordAlike ps v w → Twin ps s t → Twin ps (puts s p v) (puts t q w)
  twin-puts ps s t p q v w kp kv k = record {
    one = k.one;
    plain = k.plain;
    store =
        stored-alike ps k.one s.store t.store p q v w k.store kp kv;
    left = k.left;
    right = k.right;
    work = k.work;
    since = k.since;
    numbers = k.numbers;
    pairs = k.pairs;
  }

  pair-one : (ps : Pairs) (f g : ℕ) → OneToOne ps → ((b c : ℕ) → Tied b c ps → ¬ (b ≡ f)) → ((b c : ℕ) → Tied b c ps → ¬ (c ≡ g)) → OneToOne (record { left = f; right = g } ∷ ps)
  pair-one ps f g one h k = record {
    left = λ b c d s t. left b c d (tied-case b c (record { left = f; right = g }) ps s) (tied-case b d (record { left = f; right = g }) ps t);
    right = λ b c d s t. right b c d (tied-case b d (record { left = f; right = g }) ps s) (tied-case c d (record { left = f; right = g }) ps t);
  }
    where
      left : (b c d : ℕ) → ((f ≡ b) × (g ≡ c)) ⊎ Tied b c ps → ((f ≡ b) × (g ≡ d)) ⊎ Tied b d ps → c ≡ d
      left b c d (inl s) (inl t) = sym s.1 ∙ t.1
      left b c d (inl s) (inr t) = absurd (h b d t (sym s.0))
      left b c d (inr s) (inl t) = absurd (h b c s (sym t.0))
      left b c d (inr s) (inr t) = one.left b c d s t

      right : (b c d : ℕ) → ((f ≡ b) × (g ≡ d)) ⊎ Tied b d ps → ((f ≡ c) × (g ≡ d)) ⊎ Tied c d ps → b ≡ c
      right b c d (inl s) (inl t) = sym s.0 ∙ t.0
      right b c d (inl s) (inr t) = absurd (k c d t (sym s.1))
      right b c d (inr s) (inl t) = absurd (k b d s (sym t.1))
      right b c d (inr s) (inr t) = one.right b c d s t

  nat-apart : (b f : ℕ) → ¬ (b ≡ f) → (b == f) ≡ false
  nat-apart b f h = go (b == f) refl
    where
      go : (e : Bool) → (b == f) ≡ e → e ≡ false
      go true e = absurd (h (nat-same b f e))
      go false e = refl

  learnt-away : (x : Plain) (f : ℕ) (new : Block) (b : ℕ) → ¬ (b ≡ f) → learnt x (Core f) new (Core b) ≡ x (Core b)
  unfolding learnt
  learnt-away x f new b h = rw (nat-apart b f h)

  learnt-input : (x : Plain) (f : ℕ) (new : Block) (i : ℕ) → learnt x (Core f) new (Input i) ≡ x (Input i)
  unfolding learnt
  learnt-input x f new i = refl

  grown-alike : (ps : Pairs) (x y : Plain) (f g : ℕ) (v w : Block) → PlainAlike code.structs ps x y →
      ((b c : ℕ) → Tied b c ps → ¬ (b ≡ f)) → ((b c : ℕ) → Tied b c ps → ¬ (c ≡ g)) → BlockAlike code.structs ps v w
      → PlainAlike code.structs (record { left = f; right = g } ∷ ps) (learnt x (Core f) v) (learnt y (Core g) w)
  grown-alike ps x y f g v w h l r k b c (IdAlike.input {i = i}) =
      rw (learnt-input x f v i, learnt-input y g w i) (maybe-wider ps (record { left = f; right = g } ∷ ps) (more-pair (record { left = f; right = g }) ps) (h (Input i) (Input i) IdAlike.input))
  grown-alike ps x y f g v w h l r k b c (IdAlike.core Tied.here) =
      rw (learnt-here x (Core f) v, learnt-here y (Core g) w) (MaybeAlike.some (block-wider ps (record { left = f; right = g } ∷ ps) (more-pair (record { left = f; right = g }) ps) k))
  grown-alike ps x y f g v w h l r k b c (IdAlike.core {b = d} {c = e} (Tied.there t)) =
      rw (learnt-away x f v d (l d e t), learnt-away y g w e (r d e t))
      (maybe-wider ps (record { left = f; right = g } ∷ ps) (more-pair (record { left = f; right = g }) ps)
      (h (Core d) (Core e) (IdAlike.core t)))

  -- a pair's side is none of the names to come
  bound-left : (names : ℕ → ℕ) → Single names → (n : ℕ) (P : ℕ → Type 0) → ((b : ℕ) → P b → (k : ℕ) → n ≤ k → ¬ (b ≡ names k))
      → (b : ℕ) → (names n ≡ b) ⊎ P b → (k : ℕ) → n + 1 ≤ k → ¬ (b ≡ names k)
  bound-left names single n P h b (inl e) k l g = let same = single n k (e ∙ g) in absurd (omega (arith, same, l))
  bound-left names single n P h b (inr t) k l g = h b t k (omega (arith, l)) g

  left-case : (b c f g : ℕ) (ps : Pairs) → Tied b c (record { left = f; right = g } ∷ ps) → (f ≡ b) ⊎ Tied b c ps
  left-case b c f g ps t = go (tied-case b c (record { left = f; right = g }) ps t)
    where
      go : ((f ≡ b) × (g ≡ c)) ⊎ Tied b c ps → (f ≡ b) ⊎ Tied b c ps
      go (inl e) = inl e.0
      go (inr t) = inr t

  right-case : (b c f g : ℕ) (ps : Pairs) → Tied b c (record { left = f; right = g } ∷ ps) → (g ≡ c) ⊎ Tied b c ps
  right-case b c f g ps t = go (tied-case b c (record { left = f; right = g }) ps t)
    where
      go : ((f ≡ b) × (g ≡ c)) ⊎ Tied b c ps → (g ≡ c) ⊎ Tied b c ps
      go (inl e) = inl e.1
      go (inr t) = inr t

  grown-pair : (ps : Pairs) (s t : State) (k : Twin ps s t) (b c : ℕ) → ((sides.left s.number ≡ b) × (sides.right t.number ≡ c)) ⊎ Tied b c ps → ComesFrom sides b c
  grown-pair ps s t k b c (inl e) = ComesFrom.grown k.since (sym e.0 ∙ ap sides.left k.numbers.0) (sym e.1 ∙ ap sides.right k.numbers.1)
  grown-pair ps s t k b c (inr i) = k.pairs b c i

  twin-grows : (ps : Pairs) (s t : State) (key key' : Key) → KeyAlike ps key key' → Twin ps s t → Twin
      (record { left = sides.left s.number; right = sides.right t.number } ∷ ps) (grows code sides.left s key)
      (grows code sides.right t key')
  twin-grows ps s t key key' kk k =
      let f = sides.left s.number in let g = sides.right t.number in
      let l : (b c : ℕ) → Tied b c ps → ¬ (b ≡ f) = λ b c i. k.left b c i s.number (omega arith) in
      let r : (b c : ℕ) → Tied b c ps → ¬ (c ≡ g) = λ b c i. k.right b c i t.number (omega arith) in
      let one = pair-one ps f g k.one l r in
      record {
        one = one;
        plain = grown-alike ps s.plain t.plain f g (made code s.plain key) (made code t.plain key') k.plain l r (made-alike ps k.one code s.plain t.plain k.plain kk);
        store = cleared-alike code f g ps one kk s.store t.store k.store;
        left = λ b c i. bound-left sides.left sides.single-left s.number (λ b. Tied b c ps) (λ b j. k.left b c j) b (left-case b c f g ps i);
        right = λ b c i. bound-left sides.right sides.single-right t.number (λ c. Tied b c ps) (λ c j. k.right b c j) c (right-case b c f g ps i);
        work = k.work;
        since = k.since + 1;
        numbers = (omega (arith, k.numbers.0), omega (arith, k.numbers.1));
        pairs = λ b c i. grown-pair ps s t k b c (tied-case b c (record { left = f; right = g }) ps i);
      }

pub record AllocToo (ps : Pairs) (x : TakenAlloc) (o : Option TakenAlloc) : Type 0 where
  pub x' : TakenAlloc
  pub is : o ≡ Some x'
  pub blocks : IdAlike ps x.block x'.block
  pub left : TraceAlike ps x.leftover x'.leftover

alloc-too : (ps : Pairs) (x : TakenAlloc) (o : Option TakenAlloc) → TookAlloc ps (Some x) o → AllocToo ps x o
alloc-too ps x o (TookAlloc.some {b = b} t l) = record { x' = b; is = refl; blocks = t; left = l }

no-alloc-too : (ps : Pairs) (o : Option TakenAlloc) → TookAlloc ps None o → o ≡ None
no-alloc-too ps o TookAlloc.none = refl

pub record ReadToo (ps : Pairs) (x : TakenRead) (o : Option TakenRead) : Type 0 where
  pub x' : TakenRead
  pub is : o ≡ Some x'
  pub value : WordAlike ps x.value x'.value
  pub inside : TraceAlike ps x.inside x'.inside
  pub left : TraceAlike ps x.leftover x'.leftover

read-too : (ps : Pairs) (x : TakenRead) (o : Option TakenRead) → TookRead ps (Some x) o → ReadToo ps x o
read-too ps x o (TookRead.some {b = b} v i l) = record { x' = b; is = refl; value = v; inside = i; left = l }

no-read-too : (ps : Pairs) (o : Option TakenRead) → TookRead ps None o → o ≡ None
no-read-too ps o TookRead.none = refl

pub record FixedToo (code : Code) (sides : Sides) (ps : Pairs) (s' : State) (new : Trace) (t : State) (old' : Trace) : Type 0 where
  pub state : State
  pub items : Trace
  pub fix : Fix code sides.right t old' state items
  pub pairs : Pairs
  pub wider : Within ps pairs
  pub alike : TraceAlike pairs new items
  pub twin : Twin code sides pairs s' state

pub record MendedToo (code : Code) (sides : Sides) (ps : Pairs) (s' : State) (new : Trace) (t : State) (q : Place) (u : UnitId) (y : ℕ) (args' : List Word) (w : Word) (old' : Trace) : Type 0 where
  pub state : State
  pub items : Trace
  pub mend : Mend code sides.right t q u y args' w old' state items
  pub pairs : Pairs
  pub wider : Within ps pairs
  pub alike : TraceAlike pairs new items
  pub twin : Twin code sides pairs s' state

pub record RanToo (code : Code) (sides : Sides) (ps : Pairs) (s' : State) (new left : Trace) (t : State) (st' : Stack) (old' : Trace) : Type 0 where
  pub state : State
  pub items : Trace
  pub over : Trace
  pub anew : Reruns code sides.right t st' old' state items over
  pub pairs : Pairs
  pub wider : Within ps pairs
  pub alike : TraceAlike pairs new items
  pub over-alike : TraceAlike pairs left over
  pub twin : Twin code sides pairs s' state

module _ (code : Code) (sides : Sides) where
  next-too : (ps : Pairs) (s t : State) → Twin code sides ps s t → (st st' : Stack) → StackAlike ps st st' → (a : Act) → next code s.plain st ≡ a → ActAlike ps a (next code t.plain st')
  next-too ps s t k st st' h a e = subst (λ a. ActAlike ps a (next code t.plain st')) e (next-alike ps k.one code s.plain t.plain k.plain h)

  ran-alike : (ps : Pairs) (key key' : Key) (b c : BlockId) (v u i : ℕ) (env env' : Variables) (below below' : Stack)
      → IdAlike ps b c → KeyAlike ps key key' → VariablesAlike ps env env' → StackAlike ps below below'
      → StackAlike ps (Run u i (set env v (pointer key b)) below) (Run u i (set env' v (pointer key' c)) below')
  ran-alike ps key key' b c v u i env env' below below' t kk kv ks = StackAlike.run (set-alike ps kv v (pointer-alike ps kk t)) ks

  fix-read-too : (ps : Pairs) (s' : State) (t : State) (p q : Place) (v w0 : Word) (u : UnitId) (y : ℕ) (args args' : List Word) (i' l' j m : Trace) (s1 : State)
      → PlaceAlike ps p q → WordAlike ps v (t.store q) → WordsAlike ps args args'
      → MendedToo code sides ps s1 i' t q u y args' w0 j
      → ((qs : Pairs) (t1 : State) → Within ps qs → Twin code sides qs s1 t1 → FixedToo code sides qs s' l' t1 m)
      → FixedToo code sides ps s' (WasRead p v u y args i' l') t (WasRead q w0 u y args' j m)
  fix-read-too ps s' t p q v w0 u y args args' i' l' j m s1 kp kv ka mend f = go (f mend.pairs mend.state mend.wider mend.twin)
    where
      go : FixedToo code sides mend.pairs s' l' mend.state m → FixedToo code sides ps s' (WasRead p v u y args i' l') t (WasRead q w0 u y args' j m)
      go x = record {
        state = x.state;
        items = WasRead q (t.store q) u y args' mend.items x.items;
        fix = Fix.read mend.mend x.fix;
        pairs = x.pairs;
        wider = within-trans ps mend.pairs x.pairs mend.wider x.wider;
        alike = TraceAlike.was_read (place-wider ps x.pairs
            (within-trans ps mend.pairs x.pairs mend.wider x.wider) kp)
            (word-wider ps x.pairs (within-trans ps mend.pairs x.pairs mend.wider x.wider) kv)
            (words-wider ps x.pairs (within-trans ps mend.pairs x.pairs mend.wider x.wider) ka) (trace-wider mend.pairs x.pairs x.wider mend.alike) x.alike;
        twin = x.twin;
      }

  took-read-too : (ps : Pairs) (s' t : State) (st' below' : Stack) (p q : Place) (v : Word) (u : UnitId) (y : ℕ) (args args' : List Word) (i' new left old' : Trace) (x' : TakenRead) (s1 : State)
      → next code t.plain st' ≡ Reads q u y args' below' → take_read q u y args' old' ≡ Some x'
      → PlaceAlike ps p q → WordAlike ps v (t.store q) → WordsAlike ps args args'
      → MendedToo code sides ps s1 i' (works t) q u y args' x'.value x'.inside
      → ((qs : Pairs) (t1 : State) → Within ps qs → Twin code sides qs s1 t1 → RanToo code sides qs s' new left t1 below' x'.leftover)
      → RanToo code sides ps s' (Stepped (WasRead p v u y args i' new)) left t st' old'
  took-read-too ps s' t st' below' p q v u y args args' i' new left old' x' s1 e w kp kv ka mend f = go (f mend.pairs mend.state mend.wider mend.twin)
    where
      go : RanToo code sides mend.pairs s' new left mend.state below' x'.leftover → RanToo code sides ps s' (Stepped (WasRead p v u y args i' new)) left t st' old'
      go x = record {
        state = x.state;
        items = Stepped (WasRead q (t.store q) u y args' mend.items x.items);
        over = x.over;
        anew = Reruns.takes_read e w mend.mend x.anew;
        pairs = x.pairs;
        wider = within-trans ps mend.pairs x.pairs mend.wider x.wider;
        alike = TraceAlike.stepped (TraceAlike.was_read
            (place-wider ps x.pairs (within-trans ps mend.pairs x.pairs mend.wider x.wider) kp)
            (word-wider ps x.pairs (within-trans ps mend.pairs x.pairs mend.wider x.wider) kv)
            (words-wider ps x.pairs (within-trans ps mend.pairs x.pairs mend.wider x.wider) ka) (trace-wider mend.pairs x.pairs x.wider mend.alike) x.alike);
        over-alike = x.over-alike;
        twin = x.twin;
      }

  ran-read-too : (ps : Pairs) (s' t : State) (st' below' : Stack) (p q : Place) (v : Word) (u : UnitId) (y : ℕ) (args args' : List Word) (i' between new left old' : Trace) (s1 : State)
      → next code t.plain st' ≡ Reads q u y args' below' → take_read q u y args' old' ≡ None
      → PlaceAlike ps p q → WordAlike ps v (t.store q) → WordsAlike ps args args'
      → RanToo code sides ps s1 i' between (works t) (resumed code u y args' (t.store q)) old'
      → ((qs : Pairs) (t1 : State) (over : Trace) → Within ps qs → TraceAlike qs between over → Twin code sides qs s1 t1 → RanToo code sides qs s' new left t1 below' over)
      → RanToo code sides ps s' (Stepped (WasRead p v u y args i' new)) left t st' old'
  ran-read-too ps s' t st' below' p q v u y args args' i' between new left old' s1 e w kp kv ka r f = go (f r.pairs r.state r.over r.wider r.over-alike r.twin)
    where
      go : RanToo code sides r.pairs s' new left r.state below' r.over → RanToo code sides ps s' (Stepped (WasRead p v u y args i' new)) left t st' old'
      go x = record {
        state = x.state;
        items = Stepped (WasRead q (t.store q) u y args' r.items x.items);
        over = x.over;
        anew = Reruns.reads e w r.anew x.anew;
        pairs = x.pairs;
        wider = within-trans ps r.pairs x.pairs r.wider x.wider;
        alike = TraceAlike.stepped (TraceAlike.was_read
            (place-wider ps x.pairs (within-trans ps r.pairs x.pairs r.wider x.wider) kp)
            (word-wider ps x.pairs (within-trans ps r.pairs x.pairs r.wider x.wider) kv)
            (words-wider ps x.pairs (within-trans ps r.pairs x.pairs r.wider x.wider) ka) (trace-wider r.pairs x.pairs x.wider r.alike) x.alike);
        over-alike = x.over-alike;
        twin = x.twin;
      }

  stepped-too : (ps : Pairs) (s' : State) (new : Trace) (t : State) (old' : Trace) → FixedToo code sides ps s' new t old' → FixedToo code sides ps s' (Stepped new) t (Stepped old')
  stepped-too ps s' new t old' x = record { state = x.state; items = Stepped x.items; fix = Fix.step x.fix; pairs = x.pairs; wider = x.wider; alike = TraceAlike.stepped x.alike; twin = x.twin }

  allocated-too : (ps : Pairs) (s' : State) (new : Trace) (t : State) (old' : Trace) (b c : BlockId) (key key' : Key)
      → IdAlike ps b c → KeyAlike ps key key' → FixedToo code sides ps s' new (clears code t c key') old'
      → FixedToo code sides ps s' (Allocated b key new) t (Allocated c key' old')
  allocated-too ps s' new t old' b c key key' i k x = record {
    state = x.state;
    items = Allocated c key' x.items;
    fix = Fix.alloc x.fix;
    pairs = x.pairs;
    wider = x.wider;
    alike = TraceAlike.allocated (id-wider ps x.pairs x.wider i) (key-wider ps x.pairs x.wider k) x.alike;
    twin = x.twin;
  }

  wrote-too : (ps : Pairs) (s' : State) (new : Trace) (t : State) (old' : Trace) (p q : Place) (v w : Word) → PlaceAlike ps p q → WordAlike ps v w → FixedToo code sides ps s' new (puts t q w) old'
      → FixedToo code sides ps s' (Wrote p v new) t (Wrote q w old')
  wrote-too ps s' new t old' p q v w kp kv x = record {
    state = x.state;
    items = Wrote q w x.items;
    fix = Fix.write x.fix;
    pairs = x.pairs;
    wider = x.wider;
    alike = TraceAlike.wrote (place-wider ps x.pairs x.wider kp) (word-wider ps x.pairs x.wider kv) x.alike;
    twin = x.twin;
  }

  quietly-too : (ps : Pairs) (s' t : State) (st' : Stack) (new left old' : Trace) (after' : Stack) → next code t.plain st' ≡ Quiet after' → RanToo code sides ps s' new left (works t) after' old'
      → RanToo code sides ps s' (Stepped new) left t st' old'
  quietly-too ps s' t st' new left old' after' e x = record {
    state = x.state;
    items = Stepped x.items;
    over = x.over;
    anew = Reruns.quiet e x.anew;
    pairs = x.pairs;
    wider = x.wider;
    alike = TraceAlike.stepped x.alike;
    over-alike = x.over-alike;
    twin = x.twin;
  }

  writing-too : (ps : Pairs) (s' t : State) (st' : Stack) (new left old' : Trace) (p q : Place) (v w : Word)
      (after' : Stack) → next code t.plain st' ≡ Writes q w after' → PlaceAlike ps p q → WordAlike ps v w
      → RanToo code sides ps s' new left (puts (works t) q w) after' old' → RanToo code sides ps s' (Stepped (Wrote p v new)) left t st' old'
  writing-too ps s' t st' new left old' p q v w after' e kp kv x = record {
    state = x.state;
    items = Stepped (Wrote q w x.items);
    over = x.over;
    anew = Reruns.writes e x.anew;
    pairs = x.pairs;
    wider = x.wider;
    alike = TraceAlike.stepped (TraceAlike.wrote (place-wider ps x.pairs x.wider kp) (word-wider ps x.pairs x.wider kv) x.alike);
    over-alike = x.over-alike;
    twin = x.twin;
  }

  taking-too : (ps : Pairs) (s' t : State) (st' below' : Stack) (new left old' : Trace) (b : BlockId) (key key' : Key) (v u i : ℕ) (env' : Variables) (x' : TakenAlloc)
      → next code t.plain st' ≡ Makes key' v u i env' below' → take_alloc key' old' ≡ Some x' → IdAlike ps b x'.block → KeyAlike ps key key'
      → RanToo code sides ps s' new left (clears code (works t) x'.block key')
      (Run u i (set env' v (pointer key' x'.block)) below') x'.leftover → RanToo code sides ps s'
      (Stepped (Allocated b key new)) left t st' old'
  taking-too ps s' t st' below' new left old' b key key' v u i env' x' e w j k x = record {
    state = x.state;
    items = Stepped (Allocated x'.block key' x.items);
    over = x.over;
    anew = Reruns.takes_alloc e w x.anew;
    pairs = x.pairs;
    wider = x.wider;
    alike = TraceAlike.stepped (TraceAlike.allocated (id-wider ps x.pairs x.wider j) (key-wider ps x.pairs x.wider k) x.alike);
    over-alike = x.over-alike;
    twin = x.twin;
  }

  making-too : (ps : Pairs) (s' t : State) (st' below' : Stack) (new left old' : Trace) (b : ℕ) (key key' : Key) (v u i : ℕ) (env' : Variables)
      → next code t.plain st' ≡ Makes key' v u i env' below' → take_alloc key' old' ≡ None → KeyAlike ps key key'
      → RanToo code sides (record { left = b; right = (sides.right t.number) } ∷ ps) s' new left
      (grows code sides.right (works t) key') (Run u i
      (set env' v (pointer key' (Core (sides.right t.number)))) below') old' → RanToo code sides ps s'
      (Stepped (Allocated (Core b) key new)) left t st' old'
  making-too ps s' t st' below' new left old' b key key' v u i env' e w k x =
      let more = within-trans ps (record { left = b; right = (sides.right t.number) } ∷ ps) x.pairs (more-pair (record { left = b; right = (sides.right t.number) }) ps) x.wider in
      record {
        state = x.state;
        items = Stepped (Allocated (Core (sides.right t.number)) key' x.items);
        over = x.over;
        anew = Reruns.makes e w x.anew;
        pairs = x.pairs;
        wider = more;
        alike = TraceAlike.stepped (TraceAlike.allocated (IdAlike.core (x.wider b (sides.right t.number) Tied.here)) (key-wider ps x.pairs more k) x.alike);
        over-alike = x.over-alike;
        twin = x.twin;
      }

  mutual
    pub fix-too : {s s' : State} {old new : Trace} → Fix code sides.left s old s' new → (ps : Pairs)
        (t : State) {old' : Trace} → TraceAlike ps old old' → Twin code sides ps s t
        → FixedToo code sides ps s' new t old'
    fix-too Fix.end ps t TraceAlike.nothing k = record { state = t; items = Nothing; fix = Fix.end; pairs = ps; wider = λ b c i. i; alike = TraceAlike.nothing; twin = k }
    fix-too {s} {s'} (Fix.step {rest' = new} f) ps t (TraceAlike.stepped {m = m} h) k = stepped-too ps s' new t m (fix-too f ps t h k)
    fix-too {s} {s'} (Fix.alloc {b = b} {key = key} {rest' = new} f) ps t (TraceAlike.allocated {c = c} {k' = key'} {m = m} i kk h) k =
        allocated-too ps s' new t m b c key key' i kk (fix-too f ps (clears code t c key') h (twin-clears code sides ps s t b c key key' i kk k))
    fix-too {s} {s'} (Fix.write {p = p} {value = v} {rest' = new} f) ps t (TraceAlike.wrote {q = q} {w = w} {m = m} kp kv h) k =
        wrote-too ps s' new t m p q v w kp kv (fix-too f ps (puts t q w) h (twin-puts code sides ps s t p q v w kp kv k))
    fix-too {s} {s'} (Fix.read {t = s1} {p = p} {value = v} {u = u} {v = y} {args = args} {inside' = i'} {rest' =
        l'} m f) ps t (TraceAlike.was_read {q = q} {w = w} {ws = args'} {j = j} {m = rest} kp kv ka ki h) k =
        fix-read-too ps s' t p q (s.store p) w u y args args' i' l' j rest s1 kp (k.store p q kp) ka (mend-too m ps t kp ka kv ki k)
        (λ qs t1 wide k1. fix-too f qs t1 (trace-wider ps qs wide h) k1)

    pub mend-too : {s s' : State} {p : Place} {u : UnitId} {y : ℕ} {args : List Word} {v : Word} {old new : Trace} → Mend code sides.left s p u y args v old s' new
        → (ps : Pairs) (t : State) {q : Place} → PlaceAlike ps p q → {args' : List Word} → WordsAlike ps args args'
        → {w : Word} → WordAlike ps v w → {old' : Trace} → TraceAlike ps old old' → Twin code sides ps s t
        → MendedToo code sides ps s' new t q u y args' w old'
    mend-too {s} {s'} {p} {u} {y} {args} {v} (Mend.kept e f) ps t {q} kp ka {w} kv h k =
        kept (fix-too f ps t h k)
      where
        kept : {new old' : Trace} {args' : List Word} → FixedToo code sides ps s' new t old' → MendedToo code sides ps s' new t q u y args' w old'
        kept x = record {
          state = x.state;
          items = x.items;
          mend = Mend.kept
              (equal-too ps k.one (s.store p) v (t.store q) w (k.store p q kp) kv e) x.fix;
          pairs = x.pairs;
          wider =
              x.wider;
          alike = x.alike;
          twin = x.twin;
        }
    mend-too {s} {s'} {p} {u} {y} {args} {v} (Mend.stale {left = left} e a) ps t {q} kp {args'} ka {w} kv h k =
        stale (anew-too a ps t (given-too code ps u y args args' (s.store p) (t.store q) ka (k.store p q kp)) h k)
      where
        stale : {new old' : Trace} → RanToo code sides ps s' new left t (resumed code u y args' (t.store q)) old' → MendedToo code sides ps s' new t q u y args' w old'
        stale x = record {
          state = x.state;
          items = x.items;
          mend = Mend.stale
              (apart-too ps k.one (s.store p) v (t.store q) w (k.store p q kp) kv e) x.anew;
          pairs = x.pairs;
          wider =
              x.wider;
          alike = x.alike;
          twin = x.twin;
        }

    pub anew-too : {s s' : State} {st : Stack} {old new left : Trace} → Reruns code sides.left s st old s' new left →
        (ps : Pairs) (t : State) {st' : Stack} → StackAlike ps st st' → {old' : Trace} → TraceAlike ps old old'
        → Twin code sides ps s t
        → RanToo code sides ps s' new left t st' old'
    anew-too {s} {s'} {st} (Reruns.over e) ps t {st'} ks {old'} h k = record {
      state = t;
      items = Nothing;
      over = old';
      anew = Reruns.over (over-too ps (next code t.plain st') (next-too ps s t k st st' ks Over e));
      pairs = ps;
      wider = λ b c i. i;
      alike = TraceAlike.nothing;
      over-alike = h;
      twin = k;
    }
    anew-too {s} {s'} {st} (Reruns.quiet {after = after} {new = new} {left = left} e a) ps t {st'} ks {old'} h k =
        go (quiet-too ps after (next code t.plain st') (next-too ps s t k st st' ks (Quiet after) e)) (λ after' alike. anew-too a ps (works t) alike h (twin-works code sides ps s t k))
      where
        go : QuietToo ps after (next code t.plain st') →
            ((after' : Stack) → StackAlike ps after after' → RanToo code sides ps s' new left (works t) after' old')
            → RanToo code sides ps s' (Stepped new) left t st' old'
        go q f = quietly-too ps s' t st' new left old' q.after' q.is (f q.after' q.alike)
    anew-too {s} {s'} {st} {old} (Reruns.takes_alloc {below = below} {key = key} {v = v} {u = u} {i = i} {env = env} {new = new} {left = left} {t = x} e w a) ps t {st'} ks {old'} h k =
        go (makes-too ps key v u i env below (next code t.plain st') (next-too ps s t k st st' ks (Makes key v u i env below) e))
        (λ key' env' below' b kk kv kb j l' l. anew-too a ps (clears code (works t) b key')
        (ran-alike ps key key' x.block b v u i env env' below below' j kk kv kb) l
        (twin-clears code sides ps (works s) (works t) x.block b key key' j kk (twin-works code sides ps s t k)))
      where
        go : MakesToo ps key v u i env below (next code t.plain st')
            → ((key' : Key) (env' : Variables) (below' : Stack) (b : BlockId) → KeyAlike ps key key'
            → VariablesAlike ps env env' → StackAlike ps below below' → IdAlike ps x.block b → (l' : Trace)
            → TraceAlike ps x.leftover l'
            → RanToo code sides ps s' new left (clears code (works t) b key') (Run u i (set env' v (pointer key' b)) below') l')
            → RanToo code sides ps s' (Stepped (Allocated x.block key new)) left t st' old'
        go q f =
            let y : AllocToo ps x (take_alloc q.key' old') = alloc-too ps x (take_alloc q.key' old') (subst (λ o. TookAlloc ps o (take_alloc q.key' old')) w (take-alloc-alike ps k.one q.keys h)) in
            taking-too ps s' t st' q.below' new left old' x.block key q.key' v u i q.env' y.x' q.is y.is y.blocks q.keys
            (f q.key' q.env' q.below' y.x'.block q.keys q.envs q.alike y.blocks y.x'.leftover y.left)
    anew-too {s} {s'} {st} {old} (Reruns.makes {below = below} {key = key} {v = v} {u = u} {i = i} {env = env} {new = new} {left = left} e w a) ps t {st'} ks {old'} h k =
        go (makes-too ps key v u i env below (next code t.plain st') (next-too ps s t k st st' ks (Makes key v u i env below) e))
        (λ key' env' below' kk kv kb. anew-too a (record { left = sides.left s.number; right = sides.right t.number } ∷ ps) (grows code sides.right (works t) key')
        (ran-alike (record { left = sides.left s.number; right = sides.right t.number } ∷ ps) key key'
        (Core (sides.left s.number)) (Core (sides.right t.number)) v u i env env' below below'
        (IdAlike.core Tied.here)
        (key-wider ps (record { left = sides.left s.number; right = sides.right t.number } ∷ ps) (more-pair (record { left = sides.left s.number; right = sides.right t.number }) ps) kk)
        (variables-wider ps (record { left = sides.left s.number; right = sides.right t.number } ∷ ps) (more-pair (record { left = sides.left s.number; right = sides.right t.number }) ps) kv)
        (stack-wider ps (record { left = sides.left s.number; right = sides.right t.number } ∷ ps) (more-pair (record { left = sides.left s.number; right = sides.right t.number }) ps) kb))
        (trace-wider ps (record { left = sides.left s.number; right = sides.right t.number } ∷ ps) (more-pair (record { left = sides.left s.number; right = sides.right t.number }) ps) h)
        (twin-grows code sides ps (works s) (works t) key key' kk (twin-works code sides ps s t k)))
      where
        go : MakesToo ps key v u i env below (next code t.plain st')
            → ((key' : Key) (env' : Variables) (below' : Stack) → KeyAlike ps key key' → VariablesAlike ps env env' → StackAlike ps below below'
            → RanToo code sides (record { left = sides.left s.number; right = sides.right t.number } ∷ ps) s' new left
            (grows code sides.right (works t) key') (Run u i
            (set env' v (pointer key' (Core (sides.right t.number)))) below') old')
            → RanToo code sides ps s' (Stepped (Allocated (Core (sides.left s.number)) key new)) left t st' old'
        go q f =
            let y = no-alloc-too ps (take_alloc q.key' old') (subst (λ o. TookAlloc ps o (take_alloc q.key' old')) w (take-alloc-alike ps k.one q.keys h)) in
            making-too ps s' t st' q.below' new left old' (sides.left s.number) key q.key' v u i q.env' q.is y q.keys (f q.key' q.env' q.below' q.keys q.envs q.alike)
    anew-too {s} {s'} {st} (Reruns.writes {after = after} {p = p} {value = v} {new = new} {left = left} e a) ps t {st'} ks {old'} h k =
        go (writes-too ps p v after (next code t.plain st') (next-too ps s t k st st' ks (Writes p v after) e))
        (λ q w after' kp kv alike. anew-too a ps (puts (works t) q w) alike h (twin-puts code sides ps (works s) (works t) p q v w kp kv (twin-works code sides ps s t k)))
      where
        go : WritesToo ps p v after (next code t.plain st')
            → ((q : Place) (w : Word) (after' : Stack) → PlaceAlike ps p q → WordAlike ps v w → StackAlike ps after after' → RanToo code sides ps s' new left (puts (works t) q w) after' old')
            → RanToo code sides ps s' (Stepped (Wrote p v new)) left t st' old'
        go q f = writing-too ps s' t st' new left old' p q.p' v q.value' q.after' q.is q.places q.words (f q.p' q.value' q.after' q.places q.words q.alike)
    anew-too {s} {s'} {st} {old} (Reruns.takes_read {t = s1} {below = below} {p = p} {u = u} {v = y} {args = args} {inside' = i'} {new = new} {left = left} {r = x} e w m a) ps t {st'} ks {old'} h k =
        go (reads-too ps p u y args below (next code t.plain st') (next-too ps s t k st st' ks (Reads p u y args below) e))
        (λ q args' kp ka w' kv j kj. mend-too m ps (works t) kp ka kv kj (twin-works code sides ps s t k))
        (λ qs t1 below' kb l' kl k1. anew-too a qs t1 kb kl k1)
      where
        go : ReadsToo ps p u y args below (next code t.plain st')
            → ((q : Place) (args' : List Word) → PlaceAlike ps p q → WordsAlike ps args args' → (w' : Word)
            → WordAlike ps x.value w' → (j : Trace) → TraceAlike ps x.inside j → MendedToo code sides ps s1 i'
            (works t) q u y args' w' j)
            → ((qs : Pairs) (t1 : State) (below' : Stack) → StackAlike qs below below' → (l' : Trace)
            → TraceAlike qs x.leftover l' → Twin code sides qs s1 t1
            → RanToo code sides qs s' new left t1 below' l')
            → RanToo code sides ps s' (Stepped (WasRead p (s.store p) u y args i' new)) left t st' old'
        go q f g =
            let z : ReadToo ps x (take_read q.p' u y q.args' old') = read-too ps x (take_read q.p' u y q.args' old')
            (subst (λ o. TookRead ps o (take_read q.p' u y q.args' old')) w (take-read-alike ps k.one q.places u y q.words h)) in
            took-read-too ps s' t st' q.below' p q.p' (s.store p) u y args q.args' i' new left old' z.x' s1 q.is z.is q.places (k.store p q.p' q.places) q.words
            (f q.p' q.args' q.places q.words z.x'.value z.value z.x'.inside z.inside)
            (λ qs t1 wide k1. g qs t1 q.below' (stack-wider ps qs wide q.alike) z.x'.leftover (trace-wider ps qs wide z.left) k1)
    anew-too {s} {s'} {st} {old} (Reruns.reads {t = s1} {below = below} {p = p} {u = u} {v = y} {args = args} {between =
        between} {inside' = i'} {new = new} {left = left} e w m a) ps t {st'} ks {old'} h k =
        go (reads-too ps p u y args below (next code t.plain st') (next-too ps s t k st st' ks (Reads p u y args below) e))
        (λ q args' kp ka. anew-too m ps (works t) (given-too code ps u y args args' (s.store p) (t.store q) ka (k.store p q kp)) h (twin-works code sides ps s t k))
        (λ qs t1 below' kb l' kl k1. anew-too a qs t1 kb kl k1)
      where
        go : ReadsToo ps p u y args below (next code t.plain st')
            → ((q : Place) (args' : List Word) → PlaceAlike ps p q → WordsAlike ps args args' → RanToo code sides ps s1 i' between (works t) (resumed code u y args' (t.store q)) old')
            → ((qs : Pairs) (t1 : State) (below' : Stack) → StackAlike qs below below' → (l' : Trace)
            → TraceAlike qs between l' → Twin code sides qs s1 t1 → RanToo code sides qs s' new left t1 below' l')
            → RanToo code sides ps s' (Stepped (WasRead p (s.store p) u y args i' new)) left t st' old'
        go q f g =
            let z = no-read-too ps (take_read q.p' u y q.args' old') (subst (λ o. TookRead ps o (take_read q.p' u y q.args' old')) w (take-read-alike ps k.one q.places u y q.words h)) in
            ran-read-too ps s' t st' q.below' p q.p' (s.store p) u y args q.args' i' between new left old' s1 q.is z q.places (k.store p q.p' q.places) q.words
            (f q.p' q.args' q.places q.words) (λ qs t1 over wide kl k1. g qs t1 q.below' (stack-wider ps qs wide q.alike) over kl k1)
