-- Where some trace of the call is honest on the inputs, there is a repair of each trace of the call.
use Rattle.std.proofs.Common.{◌≡◌, ℕ, ◌+◌, ◌≤◌, Bool, true, false, ◌==◌, if◌then◌else◌, Option, Some, None, List, [], ◌∷◌, ◌++◌, refl, sym, ap, subst, arith}
use Rattle.ceal_base.specs.Block.{Block}
use Rattle.ceal_base.specs.Operators.{same_word}
use Rattle.ceal_base.specs.Trace.{Trace, Nothing, Stepped, Allocated, Wrote, WasRead, blocks_of}
use Rattle.ceal_base.specs.declared.forest.Key.{Key}
use Rattle.ceal_base.specs.declared.forest.UnitId.{UnitId}
use Rattle.ceal_base.specs.declared.typed.StructInfo.{StructInfo}
use Rattle.ceal_base.specs.declared.word.BlockId.{BlockId}
use Rattle.ceal_base.specs.declared.word.BlockId.TheVariants.{Input, Core}
use Rattle.ceal_base.specs.declared.word.Place.{Place}
use Rattle.ceal_base.specs.declared.word.Word.{Word}
use Rattle.ceal_code.proofs.Alike.AlikeSteps.{variables-wider, key-wider, stack-wider, set-alike, words_after_read-alike, pointer-alike, made-alike, next-alike}
use Rattle.ceal_code.proofs.Alike.AlikeStores.{cleared-alike, stored-alike, plain-with}
use Rattle.ceal_code.proofs.Words.StepLocality.{words_after_read-known}
use Rattle.ceal_code.proofs.Alike.BlockPairs.{one_if, lefts, rights, left-count, pairs-one, within-trans, more-pair}
use Rattle.ceal_code.proofs.Words.SameIsEqual.{word-same, word-refl}
use Rattle.ceal_code.specs.Alike.{Pairs, Tied, IdAlike, PlaceAlike, WordAlike, WordsAlike, KeyAlike, VariablesAlike}
use Rattle.ceal_code.specs.Alike.{StackAlike, ActAlike, BlockAlike, MaybeAlike, PlainAlike, StoreAlike, Within}
use Rattle.ceal_code.specs.Alike.{OneToOne}
use Rattle.ceal_code.specs.Init.{made, pointer}
use Rattle.ceal_code.specs.Known.{Holds, KnownAct}
use Rattle.ceal_code.specs.Program.{Code}
use Rattle.ceal_code.specs.Replay.{Store, Honest, learnt, count, cleared, stored}
use Rattle.ceal_code.specs.Step.{Stack, Empty, Run, Act, Quiet, Makes, Writes, Reads, next}
use Rattle.ceal_code.specs.Value.{Plain, Variables, set}
use Rattle.ceal_theory.proofs.Repair.DistinctBlocks.{times, one_at, past, times-append, next-past, alloc-uses, read-uses}
use Rattle.ceal_theory.proofs.Repair.RepairInvariant.{Extends, FreeFrom}
use Rattle.ceal_theory.proofs.Store.WordsGrow.{own-single, learnt-extends, learnt-here, learnt-free, Grown, mend-grows}
use Rattle.ceal_theory.proofs.Reuse.OldBlocksOnly.{knows, run-known, sure-more, later, sure-alloc, sure-read}
use Rattle.ceal_theory.specs.Known.{Told, Sure}
use Rattle.ceal_theory.specs.Repair.{own, State, clears, puts, works, grows, resumed, Fix, Mend, Reruns}
use Rattle.ceal_theory.specs.Take.{TakenAlloc, TakenRead, take_alloc, take_read}

-- a number that is learnt and occurs in no pair
not-learnt : (structs : List StructInfo) (x y : Plain) (f : ℕ) (new : Block) (ps : Pairs) → PlainAlike structs ps x y
    → times f [] + count f (lefts ps) ≡ 0 → PlainAlike structs ps (learnt x (Core f) new) y
unfolding learnt
not-learnt structs x y f new ps h z b c (IdAlike.input {i = i}) = h (Input i) (Input i) IdAlike.input
not-learnt structs x y f new ps h z b c (IdAlike.core {b = d} {c = e} t) = go (d == f) refl
  where
    go : (k : Bool) → (d == f) ≡ k → MaybeAlike structs ps (if k then Some new else x (Core d)) (y (Core e))
    go false k = h (Core d) (Core e) (IdAlike.core t)
    go true k = let df : d ≡ f = grind (arith, k) in absurd (omega (arith, rw (← df) at z, left-count ps d e t))

module _ (code : Code) (n : ℕ) (ds : List ℕ) (y : Plain) where
  -- A repair's state stands for the store t of the other run, up to the pairs ps; o and r count the blocks that others
  -- hold.
  pub record Like (ps : Pairs) (s : State) (t : Store) (old new : List BlockId) (o r : ℕ → ℕ) : Type 0 where
    pub plain : PlainAlike code.structs ps s.plain y
    pub store : StoreAlike ps s.store t
    pub holds : Holds n ds s.plain
    pub free : FreeFrom own s.plain s.number
    pub lefts' : (b : ℕ) → count b (lefts ps) + times b old + o b ≤ past s.number b
    pub rights' : (c : ℕ) → count c (rights ps) + times c new + r c ≤ 1

  like-one : (ps : Pairs) (s : State) (t : Store) (old new : List BlockId) (o r : ℕ → ℕ) → Like ps s t old new o r → OneToOne ps
  like-one ps s t old new o r k = pairs-one ps (λ b. omega (arith, k.lefts' b)) (λ c. omega (arith, k.rights' c))

  pub record FixTotal (ps : Pairs) (s : State) (l : Trace) (t' : Store) (o r : ℕ → ℕ) : Type 0 where
    pub state : State
    pub items : Trace
    pub fix : Fix code own s l state items
    pub after : Pairs
    pub wider : Within ps after
    pub like : Like after state t' [] [] o r

  pub record MendTotal (ps : Pairs) (s : State) (p : Place) (u : UnitId) (x : ℕ) (args : List Word) (v : Word) (l : Trace) (t' : Store) (o r : ℕ → ℕ) : Type 0 where
    pub state : State
    pub items : Trace
    pub mend : Mend code own s p u x args v l state items
    pub after : Pairs
    pub wider : Within ps after
    pub like : Like after state t' [] [] o r

  pub record AnewTotal (ps : Pairs) (s : State) (st : Stack) (l : Trace) (t' : Store) (o r : ℕ → ℕ) : Type 0 where
    pub state : State
    pub items : Trace
    pub left : Trace
    pub anew : Reruns code own s st l state items left
    pub after : Pairs
    pub wider : Within ps after
    pub like : Like after state t' (blocks_of left) [] o r
    pub sure : Sure code n ds state.plain left

  holds-wide : (x z : Plain) → Holds n ds x → Extends x z → Holds n ds z
  holds-wide x z h e b k = let g = h b k in record { block = g.block; there = e b g.block g.there; known = g.known }

  like-works : (ps : Pairs) (s : State) (t : Store) (old new : List BlockId) (o r : ℕ → ℕ) → Like ps s t old new o r → Like ps (works s) t old new o r
  like-works ps s t old new o r k = record { plain = k.plain; store = k.store; holds = k.holds; free = k.free; lefts' = k.lefts'; rights' = k.rights' }

  -- the same with other blocks held, where the counts say so
  like-moved : (ps : Pairs) (s : State) (t : Store) (old new old' new' : List BlockId) (o r o' r' : ℕ → ℕ) → Like ps s t old new o r
      → ((b : ℕ) → times b old' + o' b ≤ times b old + o b) → ((c : ℕ) → times c new' + r' c ≤ times c new + r c) → Like ps s t old' new' o' r'
  like-moved ps s t old new old' new' o r o' r' k f g = record {
    plain = k.plain;
    store = k.store;
    holds = k.holds;
    free = k.free;
    lefts' = λ b. omega (arith, k.lefts' b, f b);
    rights' = λ c. omega (arith, k.rights' c, g c);
  }

  like-puts : (ps : Pairs) (s : State) (t : Store) (old new : List BlockId) (o r : ℕ → ℕ) (p q : Place) (v w : Word) → PlaceAlike ps p q → WordAlike ps v w
      → Like ps s t old new o r → Like ps (puts s p v) (stored t q w) old new o r
  like-puts ps s t old new o r p q v w kp kv k = record {
    plain = k.plain;
    store = stored-alike ps (like-one ps s t old new o r k) s.store t p q v w k.store kp kv;
    holds = k.holds;
    free = k.free;
    lefts' = k.lefts';
    rights' = k.rights';
  }

  -- with a block that is old, and c for the other run
  like-pair : (ps : Pairs) (s : State) (t : Store) (old rest new : List BlockId) (o r : ℕ → ℕ) (b c : ℕ) (key key' : Key) (v w : Block)
      → s.plain (Core b) ≡ Some v → y (Core c) ≡ Some w → BlockAlike code.structs ps v w → KeyAlike ps key key'
      → ((a : ℕ) → one_if a b + times a rest ≤ times a old)
      → Like ps s t old (Core c ∷ new) o r → Like (record { left = b; right = c } ∷ ps) (clears code s (Core b) key) (cleared code t (Core c) key') rest new o r
  like-pair ps s t old rest new o r b c key key' v w e f kw kk g k =
      let qs : Pairs = record { left = b; right = c } ∷ ps in
      let l : (a : ℕ) → count a (lefts qs) + times a rest + o a ≤ past s.number a = λ a. omega (arith, k.lefts' a, g a) in
      let m : (a : ℕ) → count a (rights qs) + times a new + r a ≤ 1 = λ a. omega (arith, k.rights' a) in
      let one : OneToOne qs = pairs-one qs (λ a. omega (arith, l a)) (λ a. omega (arith, m a)) in
      record {
        plain = plain-with code.structs b c ps s.plain y v w k.plain e f kw;
        store = cleared-alike code b c ps one kk s.store t k.store;
        holds = k.holds;
        free = k.free;
        lefts' = l;
        rights' = m;
      }

  -- with a new block
  like-grown : (ps : Pairs) (s : State) (t : Store) (old new : List BlockId) (o r : ℕ → ℕ) (c : ℕ) (key key' : Key)
      → y (Core c) ≡ Some (made code y key') → KeyAlike ps key key'
      → Like ps s t old (Core c ∷ new) o r → Like (record { left = s.number; right = c } ∷ ps) (grows code own s key) (cleared code t (Core c) key') old new o r
  like-grown ps s t old new o r c key key' f kk k =
      let qs : Pairs = record { left = s.number; right = c } ∷ ps in
      let v = made code s.plain key in
      let l : (a : ℕ) → count a (lefts qs) + times a old + o a ≤ past (s.number + 1) a = λ a. omega (arith, k.lefts' a, next-past a s.number) in
      let m : (a : ℕ) → count a (rights qs) + times a new + r a ≤ 1 = λ a. omega (arith, k.rights' a) in
      let one : OneToOne qs = pairs-one qs (λ a. omega (arith, l a)) (λ a. omega (arith, m a)) in
      let out : times s.number [] + count s.number (lefts ps) ≡ 0 = omega (arith, k.lefts' s.number) in
      let kw = made-alike ps (like-one ps s t old (Core c ∷ new) o r k) code s.plain y k.plain kk in
      record {
        plain = plain-with code.structs s.number c ps (learnt s.plain (Core s.number) v) y v (made code y key')
            (not-learnt code.structs s.plain y s.number v ps k.plain out)
            (learnt-here s.plain (Core s.number) v) f kw;
        store = cleared-alike code s.number c ps one kk s.store t k.store;
        holds = holds-wide s.plain (learnt s.plain (Core s.number) v) k.holds (learnt-extends own s.plain s.number v k.free);
        free = learnt-free own own-single s.plain s.number v k.free;
        lefts' = l;
        rights' = m;
      }

  mend-choose : (ps : Pairs) (s : State) (p : Place) (u : UnitId) (x : ℕ) (args : List Word) (v : Word) (l : Trace) (t' : Store) (o r : ℕ → ℕ)
      → (s.store p ≡ v → FixTotal ps s l t' o r) → AnewTotal ps s (resumed code u x args (s.store p)) l t' o r
      → MendTotal ps s p u x args v l t' o r
  mend-choose ps s p u x args v l t' o r f a = go (same_word (s.store p) v) refl
    where
      go : (b : Bool) → same_word (s.store p) v ≡ b → MendTotal ps s p u x args v l t' o r
      go true e =
          let same = word-same (s.store p) v e in
          let q = f same in
          record { state = q.state; items = q.items; mend = Mend.kept same q.fix; after = q.after; wider = q.wider; like = q.like }
      go false e =
          record {
            state = a.state;
            items = a.items;
            mend = Mend.stale (λ same. grind (arith, rw same at e, word-refl v)) a.anew;
            after = a.after;
            wider = a.wider;
            like = like-moved a.after a.state t' (blocks_of a.left) [] [] [] o r o r a.like (λ b. omega arith) (λ c. omega arith);
          }

  alloc-choose : (key : Key) (old : Trace) {X : Type 0} → ((t : TakenAlloc) → take_alloc key old ≡ Some t → X) → (take_alloc key old ≡ None → X) → X
  alloc-choose key old {X} f g = go (take_alloc key old) refl
    where
      go : (q : Option TakenAlloc) → take_alloc key old ≡ q → X
      go (Some t) e = f t e
      go None e = g e

  read-choose : (p : Place) (u : UnitId) (x : ℕ) (args : List Word) (old : Trace) {X : Type 0} → ((t : TakenRead) → take_read p u x args old ≡ Some t → X) → (take_read p u x args old ≡ None → X) → X
  read-choose p u x args old {X} f g = go (take_read p u x args old) refl
    where
      go : (q : Option TakenRead) → take_read p u x args old ≡ q → X
      go (Some t) e = f t e
      go None e = g e

  -- the next step stands for the other run's
  pub acts : (ps : Pairs) (s : State) (t : Store) (old new : List BlockId) (o r : ℕ → ℕ) → Like ps s t old new o r → {st st' : Stack} → StackAlike ps st st'
      → ActAlike ps (next code s.plain st) (next code y st')
  acts ps s t old new o r k h = next-alike ps (like-one ps s t old new o r k) code s.plain y k.plain h

  ran-alike : (ps : Pairs) (key key' : Key) (b c v u i : ℕ) (env env' : Variables) (below below' : Stack) → KeyAlike ps key key' → VariablesAlike ps env env' → StackAlike ps below below'
      → StackAlike (record { left = b; right = c } ∷ ps) (Run u i (set env v (pointer key (Core b))) below) (Run u i (set env' v (pointer key' (Core c))) below')
  ran-alike ps key key' b c v u i env env' below below' kk kv ks =
      let qs : Pairs = record { left = b; right = c } ∷ ps in
      let more : Within ps qs = more-pair (record { left = b; right = c }) ps in
      StackAlike.run (set-alike qs (variables-wider ps qs more kv) v (pointer-alike qs (key-wider ps qs more kk) (IdAlike.core Tied.here))) (stack-wider ps qs more ks)

  fix-stepped : (ps : Pairs) (s : State) (l : Trace) (t' : Store) (o r : ℕ → ℕ) → FixTotal ps s l t' o r → FixTotal ps s (Stepped l) t' o r
  fix-stepped ps s l t' o r q = record { state = q.state; items = Stepped q.items; fix = Fix.step q.fix; after = q.after; wider = q.wider; like = q.like }

  fix-made : (ps : Pairs) (s : State) (b c : ℕ) (key : Key) (l : Trace) (t' : Store) (o r : ℕ → ℕ) → FixTotal (record { left = b; right = c } ∷ ps) (clears code s (Core b) key) l t' o r
      → FixTotal ps s (Stepped (Allocated (Core b) key l)) t' o r
  fix-made ps s b c key l t' o r q = record {
    state = q.state;
    items = Stepped (Allocated (Core b) key q.items);
    fix = Fix.step (Fix.alloc q.fix);
    after = q.after;
    wider = within-trans ps (record { left = b; right = c } ∷ ps) q.after (more-pair (record { left = b; right = c }) ps) q.wider;
    like = q.like;
  }

  fix-wrote : (ps : Pairs) (s : State) (p : Place) (v : Word) (l : Trace) (t' : Store) (o r : ℕ → ℕ) → FixTotal ps (puts s p v) l t' o r → FixTotal ps s (Stepped (Wrote p v l)) t' o r
  fix-wrote ps s p v l t' o r q = record { state = q.state; items = Stepped (Wrote p v q.items); fix = Fix.step (Fix.write q.fix); after = q.after; wider = q.wider; like = q.like }

  -- what follows a corrected read, from any later state
  Then : (ps : Pairs) (s : State) (t1 : Store) (l m : List BlockId) (o r : ℕ → ℕ) → (Pairs → State → Type 0) → Type 0
  Then ps s t1 l m o r F = (qs : Pairs) (s1 : State) → Within ps qs → Grown own s s1 → Like qs s1 t1 l m o r → F qs s1

  fix-was_read : (ps : Pairs) (s : State) (p : Place) (u : UnitId) (x : ℕ) (args : List Word) (v : Word) (i l : Trace) (m : List BlockId) (t1 t' : Store) (o r : ℕ → ℕ) → FreeFrom own s.plain s.number
      → MendTotal ps s p u x args v i t1 (λ b. o b + times b (blocks_of l)) (λ c. r c + times c m)
      → Then ps s t1 (blocks_of l) m o r (λ qs s1. FixTotal qs s1 l t' o r)
      → FixTotal ps s (Stepped (WasRead p v u x args i l)) t' o r
  unfolding Then
  fix-was_read ps s p u x args v i l m t1 t' o r free mend f = go (f mend.after mend.state mend.wider (mend-grows own-single mend.mend free)
      (like-moved mend.after mend.state t1 [] [] (blocks_of l) m (λ b. o b + times b (blocks_of l)) (λ c. r c + times c m) o r mend.like (λ b. omega arith) (λ c. omega arith)))
    where
      go : FixTotal mend.after mend.state l t' o r → FixTotal ps s (Stepped (WasRead p v u x args i l)) t' o r
      go q = record {
        state = q.state;
        items = Stepped (WasRead p (s.store p) u x args mend.items q.items);
        fix = Fix.step (Fix.read mend.mend q.fix);
        after = q.after;
        wider = within-trans ps mend.after q.after mend.wider q.wider;
        like = q.like;
      }

  anew-stepped : (ps : Pairs) (s : State) (st after : Stack) (l : Trace) (t' : Store) (o r : ℕ → ℕ)
      → next code s.plain st ≡ Quiet after → AnewTotal ps (works s) after l t' o r → AnewTotal ps s st l t' o r
  anew-stepped ps s st after l t' o r e q =
      record {
        state = q.state;
        items = Stepped q.items;
        left = q.left;
        anew = Reruns.quiet e q.anew;
        after = q.after;
        wider = q.wider;
        like = q.like;
        sure = q.sure;
      }

  anew-took : (ps : Pairs) (s : State) (st below : Stack) (key : Key) (v u i : ℕ) (env : Variables) (old : Trace) (x : TakenAlloc) (b c : ℕ) (t' : Store) (o r : ℕ → ℕ)
      → next code s.plain st ≡ Makes key v u i env below → take_alloc key old ≡ Some x
      → AnewTotal (record { left = b; right = c } ∷ ps) (clears code (works s) x.block key) (Run u i (set env v (pointer key x.block)) below) x.leftover t' o r → AnewTotal ps s st old t' o r
  anew-took ps s st below key v u i env old x b c t' o r e w q = record {
    state = q.state;
    items = Stepped (Allocated x.block key q.items);
    left = q.left;
    anew = Reruns.takes_alloc e w q.anew;
    after = q.after;
    wider = within-trans ps (record { left = b; right = c } ∷ ps) q.after (more-pair (record { left = b; right = c }) ps) q.wider;
    like = q.like;
    sure = q.sure;
  }

  anew-made : (ps : Pairs) (s : State) (st below : Stack) (key : Key) (v u i : ℕ) (env : Variables) (old : Trace) (c : ℕ) (t' : Store) (o r : ℕ → ℕ)
      → next code s.plain st ≡ Makes key v u i env below → take_alloc key old ≡ None
      → AnewTotal (record { left = s.number; right = c } ∷ ps) (grows code own (works s) key) (Run u i (set env v (pointer key (Core s.number))) below) old t' o r → AnewTotal ps s st old t' o r
  anew-made ps s st below key v u i env old c t' o r e w q = record {
    state = q.state;
    items = Stepped (Allocated (Core s.number) key q.items);
    left = q.left;
    anew = Reruns.makes e w q.anew;
    after = q.after;
    wider = within-trans ps (record { left = s.number; right = c } ∷ ps) q.after (more-pair (record { left = s.number; right = c }) ps) q.wider;
    like = q.like;
    sure = q.sure;
  }

  anew-wrote : (ps : Pairs) (s : State) (st after : Stack) (p : Place) (v : Word) (l : Trace) (t' : Store) (o r : ℕ → ℕ) → next code s.plain st ≡ Writes p v after
      → AnewTotal ps (puts (works s) p v) after l t' o r → AnewTotal ps s st l t' o r
  anew-wrote ps s st after p v l t' o r e q =
      record {
        state = q.state;
        items = Stepped (Wrote p v q.items);
        left = q.left;
        anew = Reruns.writes e q.anew;
        after = q.after;
        wider = q.wider;
        like = q.like;
        sure = q.sure;
      }

  anew-took_read : (ps : Pairs) (s : State) (st below : Stack) (p : Place) (u : UnitId) (z : ℕ) (args : List Word)
      (old : Trace) (x : TakenRead) (m : List BlockId) (t1 t' : Store) (o r : ℕ → ℕ) → FreeFrom own s.plain s.number
      → next code s.plain st ≡ Reads p u z args below → take_read p u z args old ≡ Some x
      → MendTotal ps (works s) p u z args x.value x.inside t1 (λ b. o b + times b (blocks_of x.leftover)) (λ c. r c + times c m)
      → Then ps s t1 (blocks_of x.leftover) m o r (λ qs s1. AnewTotal qs s1 below x.leftover t' o r)
      → AnewTotal ps s st old t' o r
  unfolding Then
  anew-took_read ps s st below p u z args old x m t1 t' o r free e w mend f = go (f mend.after mend.state mend.wider (grown (mend-grows own-single mend.mend free))
      (like-moved mend.after mend.state t1 [] [] (blocks_of x.leftover) m (λ b. o b + times b (blocks_of x.leftover)) (λ c. r c + times c m) o r mend.like (λ b. omega arith) (λ c. omega arith)))
    where
      grown : Grown own (works s) mend.state → Grown own s mend.state
      grown g = record { plain = g.plain; free = g.free }

      go : AnewTotal mend.after mend.state below x.leftover t' o r → AnewTotal ps s st old t' o r
      go q = record {
        state = q.state;
        items = Stepped (WasRead p (s.store p) u z args mend.items q.items);
        left = q.left;
        anew = Reruns.takes_read e w mend.mend q.anew;
        after = q.after;
        wider = within-trans ps mend.after q.after mend.wider q.wider;
        like = q.like;
        sure = q.sure;
      }

  anew-was_read : (ps : Pairs) (s : State) (st below : Stack) (p : Place) (u : UnitId) (z : ℕ) (args : List Word) (old : Trace) (m : List BlockId) (t1 t' : Store) (o r : ℕ → ℕ)
      → next code s.plain st ≡ Reads p u z args below → take_read p u z args old ≡ None
      → AnewTotal ps (works s) (resumed code u z args (s.store p)) old t1 o (λ c. r c + times c m)
      → ((qs : Pairs) (s1 : State) (left : Trace) → Within ps qs → Sure code n ds s1.plain left → Like qs s1 t1 (blocks_of left) m o r → AnewTotal qs s1 below left t' o r)
      → AnewTotal ps s st old t' o r
  anew-was_read ps s st below p u z args old m t1 t' o r e w q1 f = go (f q1.after q1.state q1.left q1.wider q1.sure
      (like-moved q1.after q1.state t1 (blocks_of q1.left) [] (blocks_of q1.left) m o (λ c. r c + times c m) o r q1.like (λ b. omega arith) (λ c. omega arith)))
    where
      go : AnewTotal q1.after q1.state below q1.left t' o r → AnewTotal ps s st old t' o r
      go q = record {
        state = q.state;
        items = Stepped (WasRead p (s.store p) u z args q1.items q.items);
        left = q.left;
        anew = Reruns.reads e w q1.anew q.anew;
        after = q.after;
        wider = within-trans ps q1.after q.after q1.wider q.wider;
        like = q.like;
        sure = q.sure;
      }

  like-inside : (ps : Pairs) (s : State) (t : Store) (i l j m : List BlockId) (o r : ℕ → ℕ) → Like ps s t (i ++ l) (j ++ m) o r → Like ps s t i j (λ b. o b + times b l) (λ c. r c + times c m)
  like-inside ps s t i l j m o r k = like-moved ps s t (i ++ l) (j ++ m) i j o r (λ b. o b + times b l) (λ c. r c + times c m) k
      (λ b. omega (arith, times-append b i l)) (λ c. omega (arith, times-append c j m))

  like-taken : (ps : Pairs) (s : State) (t : Store) (p : Place) (u : UnitId) (z : ℕ) (args : List Word) (old : Trace)
      (x : TakenRead) (j m : List BlockId) (o r : ℕ → ℕ) → take_read p u z args old ≡ Some x
      → Like ps s t (blocks_of old) (j ++ m) o r → Like ps (works s) t (blocks_of x.inside) j (λ b. o b + times b (blocks_of x.leftover)) (λ c. r c + times c m)
  like-taken ps s t p u z args old x j m o r w k = like-moved ps (works s) t (blocks_of old) (j ++ m) (blocks_of x.inside) j o r (λ b. o b + times b (blocks_of x.leftover)) (λ c. r c + times c m)
      (like-works ps s t (blocks_of old) (j ++ m) o r k) (λ b. omega (arith, read-uses b p u z args old x w)) (λ c. omega (arith, times-append c j m))

  like-running : (ps : Pairs) (s : State) (t : Store) (old j m : List BlockId) (o r : ℕ → ℕ) → Like ps s t old (j ++ m) o r → Like ps (works s) t old j o (λ c. r c + times c m)
  like-running ps s t old j m o r k = like-moved ps (works s) t old (j ++ m) old j o r o (λ c. r c + times c m) (like-works ps s t old (j ++ m) o r k)
      (λ b. omega arith) (λ c. omega (arith, times-append c j m))

  read-alike : (ps : Pairs) (s : State) (t : Store) (old new : List BlockId) (o r : ℕ → ℕ) (p q : Place) (w : Word) → Like ps s t old new o r → PlaceAlike ps p q → t q ≡ w → WordAlike ps (s.store p) w
  read-alike ps s t old new o r p q w k kp e = rw e at (k.store p q kp)

  given-run : (ps : Pairs) (u : UnitId) (x : ℕ) (args args' : List Word) (v w : Word) → WordsAlike ps args args' → WordAlike ps v w
      → StackAlike ps (resumed code u x args v) (resumed code u x args' w)
  given-run ps u x args args' v w ka kw = words_after_read-alike ps code u.0 x ka kw StackAlike.empty

  -- a taken block is a core block
  taken-uses : (key : Key) (old : Trace) (x : TakenAlloc) (b : ℕ) → x.block ≡ Core b → take_alloc key old ≡ Some x → (a : ℕ) → one_if a b + times a (blocks_of x.leftover) ≤ times a (blocks_of old)
  taken-uses key old x b is w a = let e : one_at a x.block ≡ one_if a b = ap (one_at a) is in omega (arith, alloc-uses a key old x w, e)

  like-at : (ps : Pairs) (s : State) (t : Store) (old new : List BlockId) (o r : ℕ → ℕ) (d : BlockId) (b : ℕ)
      (key : Key) → d ≡ Core b → Like ps (clears code s (Core b) key) t old new o r → Like ps
      (clears code s d key) t old new o r
  like-at ps s t old new o r d b key is k = subst (λ d. Like ps (clears code s d key) t old new o r) (sym is) k

  stack-at : (ps : Pairs) (key : Key) (v u i : ℕ) (env : Variables) (below st' : Stack) (d : BlockId) (b : ℕ) → d ≡ Core b → StackAlike ps (Run u i (set env v (pointer key (Core b))) below) st'
      → StackAlike ps (Run u i (set env v (pointer key d)) below) st'
  stack-at ps key v u i env below st' d b is k = subst (λ d. StackAlike ps (Run u i (set env v (pointer key d)) below) st') (sym is) k

  mutual
    unfolding Then

    pub fix-total : {a' : Act} {m : Trace} → Told code y a' m → (ps : Pairs) {a : Act} → ActAlike ps a a' → (s : State) {l : Trace} → Told code s.plain a l → Sure code n ds s.plain l → KnownAct n ds a
        → {t t' : Store} → Honest code t m t' → (o r : ℕ → ℕ) → Like ps s t (blocks_of l) (blocks_of m) o r → FixTotal ps s l t' o r
    fix-total Told.over ps ActAlike.over s Told.over sure k Honest.end o r like =
        record { state = s; items = Nothing; fix = Fix.end; after = ps; wider = λ b c t. t; like = like }
    fix-total (Told.quiet {rest = m} d) ps (ActAlike.quiet ks) s (Told.quiet {after = after} {rest = l} e) sure k {t} {t'} (Honest.step h) o r like =
        fix-stepped ps s l t' o r (fix-total d ps (acts ps s t (blocks_of l) (blocks_of m) o r like ks) s e sure (knows code n ds s.plain like.holds after k) h o r like)
    fix-total (Told.makes {key = key'} {b = c} {rest = m} f d) ps
        (ActAlike.makes {env' = env'} {st' = below'} kk kv ks) s
        (Told.makes {key = key} {v = v} {u = u} {i = i} {env = env} {below = below} {b = b} {rest =
        l} e told) sure k {t} {t'}
        (Honest.step (Honest.alloc h)) o r like =
        fix-made ps s b c key l t' o r (go (like-pair ps s t (Core b ∷ blocks_of l) (blocks_of l) (blocks_of m) o r b c key key' (made code s.plain key) (made code y key') e f
        (made-alike ps (like-one ps s t (Core b ∷ blocks_of l) (Core c ∷ blocks_of m) o r like) code s.plain y like.plain kk) kk (λ a. omega arith) like)
        (λ z like'. fix-total d (record { left = b; right = c } ∷ ps) z (clears code s (Core b) key) told sure.3
        (knows code n ds s.plain like.holds (Run u i (set env v (pointer key (Core b))) below) (run-known code n ds key b v u i env below sure.0 k.1 k.2)) h o r like'))
      where
        go : Like (record { left = b; right = c } ∷ ps) (clears code s (Core b) key) (cleared code t (Core c) key') (blocks_of l) (blocks_of m) o r
            → (ActAlike (record { left = b; right = c } ∷ ps) (next code s.plain (Run u i (set env v (pointer key (Core b))) below)) (next code y (Run u i (set env' v (pointer key' (Core c))) below'))
            → Like (record { left = b; right = c } ∷ ps) (clears code s (Core b) key) (cleared code t (Core c) key')
            (blocks_of l) (blocks_of m) o r → FixTotal (record { left = b; right = c } ∷ ps)
            (clears code s (Core b) key) l t' o r)
            → FixTotal (record { left = b; right = c } ∷ ps) (clears code s (Core b) key) l t' o r
        go like' g = g (acts (record { left = b; right = c } ∷ ps) (clears code s (Core b) key)
            (cleared code t (Core c) key') (blocks_of l) (blocks_of m) o r like'
            (ran-alike ps key key' b c v u i env env' below below' kk kv ks)) like'
    fix-total (Told.writes {p = p'} {value = v'} {rest = m} d) ps (ActAlike.writes kp kv ks) s
        (Told.writes {after = after} {p = p} {value = v} {rest = l} e) sure k {t} {t'}
        (Honest.step (Honest.write h)) o r like =
        fix-wrote ps s p v l t' o r (fix-total d ps (acts ps s t (blocks_of l) (blocks_of m) o r like ks) (puts s p v) e sure (knows code n ds s.plain like.holds after k.2)
        h o r (like-puts ps s t (blocks_of l) (blocks_of m) o r p p' v v' kp kv like))
    fix-total (Told.reads {args = args'} {value = w} {inside = j} {rest = m} d1 d2) ps
        (ActAlike.reads {q = p'} {st' = below'} kp ka ks) s
        (Told.reads {below = below} {p = p} {u = u} {v = x} {args = args} {value = v} {inside = i} {rest =
        l} e1 e2) sure k
        {t} {t'} (Honest.step (Honest.read {t = t1} f h1 h2)) o r like =
        fix-was_read ps s p u x args v i l (blocks_of m) t1 t' o r like.free
        (mend-choose ps s p u x args v i t1 (λ b. o b + times b (blocks_of l)) (λ c. r c + times c (blocks_of m))
        (λ same. fix-total d1 ps (acts ps s t (blocks_of i ++ blocks_of l) (blocks_of j ++ blocks_of m) o r like
        (given-run ps u x args args' v w ka (subst (λ z. WordAlike ps z w) same
        (read-alike ps s t (blocks_of i ++ blocks_of l)
        (blocks_of j ++ blocks_of m) o r p p' w like kp f)))) s e1 sure.3
        (knows code n ds s.plain like.holds (resumed code u x args v) (words_after_read-known n ds code u.0 x args v Empty k.1 sure.0 tt)) h1
        (λ b. o b + times b (blocks_of l)) (λ c. r c + times c (blocks_of m)) (like-inside ps s t (blocks_of i) (blocks_of l) (blocks_of j) (blocks_of m) o r like))
        (anew-total d1 ps (acts ps s t (blocks_of i ++ blocks_of l) (blocks_of j ++ blocks_of m) o r like
        (given-run ps u x args args' (s.store p) w ka
        (read-alike ps s t (blocks_of i ++ blocks_of l) (blocks_of j ++ blocks_of m) o r p p' w like kp f)))
        s (resumed code u x args (s.store p)) i sure.3 refl h1
        (λ b. o b + times b (blocks_of l)) (λ c. r c + times c (blocks_of m)) (like-inside ps s t (blocks_of i) (blocks_of l) (blocks_of j) (blocks_of m) o r like)))
        (λ qs s1 wide grown like2. fix-total d2 qs (acts qs s1 t1 (blocks_of l) (blocks_of m) o r like2 (stack-wider ps qs wide ks)) s1
        (later code n ds s.plain s1.plain like.holds grown.plain below l k.2 sure.4 e2) (sure-more code n ds s.plain s1.plain like.holds grown.plain l sure.4)
        (knows code n ds s1.plain like2.holds below k.2) h2 o r like2)

    pub anew-total : {a' : Act} {m : Trace} → Told code y a' m → (ps : Pairs) {a : Act} → ActAlike ps a a' → (s : State) (st : Stack) (old : Trace) → Sure code n ds s.plain old
        → next code s.plain st ≡ a → {t t' : Store} → Honest code t m t' → (o r : ℕ → ℕ) → Like ps s t (blocks_of old) (blocks_of m) o r → AnewTotal ps s st old t' o r
    anew-total Told.over ps ActAlike.over s st old sure e Honest.end o r like =
        record { state = s; items = Nothing; left = old; anew = Reruns.over e; after = ps; wider = λ b c t. t; like = like; sure = sure }
    anew-total (Told.quiet {rest = m} d) ps (ActAlike.quiet {st = after} ks) s st old sure e {t} {t'} (Honest.step h) o r like =
        anew-stepped ps s st after old t' o r e (anew-total d ps
        (acts ps s t (blocks_of old) (blocks_of m) o r like ks) (works s) after old sure refl h o r
        (like-works ps s t (blocks_of old) (blocks_of m) o r like))
    anew-total (Told.makes {key = key'} {b = c} {rest = m} f d) ps
        (ActAlike.makes {k = key} {v = v} {u = u} {i = i} {env = env} {env' = env'} {st = below} {st' =
        below'} kk kv ks) s st old sure e {t} {t'} (Honest.step (Honest.alloc h)) o r like =
        alloc-choose key old
        (λ x w. anew-took ps s st below key v u i env old x (sure-alloc code n ds s.plain key old sure x w).core c t' o r e w
        (took x w (λ z like'. anew-total d (record {
          left = (sure-alloc code n ds s.plain key old sure x w).core;
          right = c;
        } ∷ ps) z (clears code (works s) x.block key)
        (Run u i (set env v (pointer key x.block)) below) x.leftover
        (sure-alloc code n ds s.plain key old sure x w).left refl h o r like')))
        (λ w. anew-made ps s st below key v u i env old c t' o r e w
        (new (λ z like'. anew-total d (record { left = s.number; right = c } ∷ ps) z (grows code own (works s) key) (Run u i (set env v (pointer key (Core s.number))) below) old
        (sure-more code n ds s.plain (learnt s.plain (Core s.number) (made code s.plain key)) like.holds
        (learnt-extends own s.plain s.number (made code s.plain key) like.free) old sure) refl h o r like')))
      where
        took : (x : TakenAlloc) → (w : take_alloc key old ≡ Some x)
            → (ActAlike (record { left = (sure-alloc code n ds s.plain key old sure x w).core; right = c } ∷ ps)
            (next code s.plain (Run u i (set env v (pointer key x.block)) below))
            (next code y (Run u i (set env' v (pointer key' (Core c))) below'))
            → Like (record { left = (sure-alloc code n ds s.plain key old sure x w).core; right = c } ∷ ps)
            (clears code (works s) x.block key) (cleared code t (Core c) key') (blocks_of x.leftover)
            (blocks_of m) o r
            → AnewTotal (record { left = (sure-alloc code n ds s.plain key old sure x w).core; right = c } ∷ ps)
            (clears code (works s) x.block key) (Run u i
            (set env v (pointer key x.block)) below) x.leftover t' o r)
            → AnewTotal (record { left = (sure-alloc code n ds s.plain key old sure x w).core; right = c } ∷ ps)
            (clears code (works s) x.block key) (Run u i
            (set env v (pointer key x.block)) below) x.leftover t' o r
        took x w g =
            let a = sure-alloc code n ds s.plain key old sure x w in
            let like' = like-at (record { left = a.core; right = c } ∷ ps) (works s) (cleared code t (Core c) key') (blocks_of x.leftover) (blocks_of m) o r x.block a.core key a.is
            (like-pair ps (works s) t (blocks_of old) (blocks_of x.leftover) (blocks_of m) o r a.core c key key' (made code s.plain key) (made code y key')
            a.held f (made-alike ps (like-one ps s t (blocks_of old) (Core c ∷ blocks_of m) o r like) code s.plain y like.plain kk) kk
            (taken-uses key old x a.core a.is w) (like-works ps s t (blocks_of old) (Core c ∷ blocks_of m) o r like)) in
            g (acts (record { left = a.core; right = c } ∷ ps) (clears code (works s) x.block key) (cleared code t (Core c) key') (blocks_of x.leftover) (blocks_of m) o r like'
            (stack-at (record { left = a.core; right = c } ∷ ps) key v u i env below
            (Run u i (set env' v (pointer key' (Core c))) below') x.block a.core a.is
            (ran-alike ps key key' a.core c v u i env env' below below' kk kv ks))) like'

        new : (ActAlike (record { left = s.number; right = c } ∷ ps)
            (next code (learnt s.plain (Core s.number) (made code s.plain key))
            (Run u i (set env v (pointer key (Core s.number))) below))
            (next code y (Run u i (set env' v (pointer key' (Core c))) below'))
            → Like (record { left = s.number; right = c } ∷ ps) (grows code own (works s) key) (cleared code t (Core c) key') (blocks_of old) (blocks_of m) o r
            → AnewTotal (record { left = s.number; right = c } ∷ ps) (grows code own (works s) key) (Run u i (set env v (pointer key (Core s.number))) below) old t' o r)
            → AnewTotal (record { left = s.number; right = c } ∷ ps) (grows code own (works s) key) (Run u i (set env v (pointer key (Core s.number))) below) old t' o r
        new g =
            let like' = like-grown ps (works s) t (blocks_of old) (blocks_of m) o r c key key' f kk (like-works ps s t (blocks_of old) (Core c ∷ blocks_of m) o r like) in
            g (acts (record { left = s.number; right = c } ∷ ps) (grows code own (works s) key)
            (cleared code t (Core c) key') (blocks_of old) (blocks_of m) o r like'
            (ran-alike ps key key' s.number c v u i env env' below below' kk kv ks)) like'
    anew-total (Told.writes {p = p'} {value = v'} {rest = m} d) ps (ActAlike.writes {p = p} {v = v} {st = after} kp kv ks) s st old sure e {t} {t'} (Honest.step (Honest.write h)) o r like =
        anew-wrote ps s st after p v old t' o r e (anew-total d ps (acts ps s t (blocks_of old) (blocks_of m) o r like ks) (puts (works s) p v) after old sure refl h o r
        (like-puts ps (works s) t (blocks_of old) (blocks_of m) o r p p' v v' kp kv (like-works ps s t (blocks_of old) (blocks_of m) o r like)))
    anew-total (Told.reads {args = args'} {value = w} {inside = j} {rest = m} d1 d2) ps
        (ActAlike.reads {p = p} {q = p'} {u = u} {v = z} {vs = args} {st = below} {st' =
        below'} kp ka ks) s st old sure e {t} {t'}
        (Honest.step (Honest.read {t = t1} f h1 h2)) o r like =
        read-choose p u z args old
        (λ x i. anew-took_read ps s st below p u z args old x (blocks_of m) t1 t' o r like.free e i
        (mend-choose ps (works s) p u z args x.value x.inside t1 (λ b. o b + times b (blocks_of x.leftover)) (λ c. r c + times c (blocks_of m))
        (λ same. fix-total d1 ps (acts ps s t (blocks_of old) (blocks_of j ++ blocks_of m) o r like
        (given-run ps u z args args' x.value w ka
        (subst (λ z. WordAlike ps z w) same (read-alike ps s t (blocks_of old)
        (blocks_of j ++ blocks_of m) o r p p' w like kp f)))) (works s)
        (sure-read code n ds s.plain p u z args old sure x i).told (sure-read code n ds s.plain p u z args old sure x i).inside
        (knows code n ds s.plain like.holds (resumed code u z args x.value)
        (words_after_read-known n ds code u.0 z args x.value Empty (sure-read code n ds s.plain p u z args old sure x i).words (sure-read code n ds s.plain p u z args old sure x i).value tt)) h1
        (λ b. o b + times b (blocks_of x.leftover)) (λ c. r c + times c (blocks_of m)) (like-taken ps s t p u z args old x (blocks_of j) (blocks_of m) o r i like))
        (anew-total d1 ps (acts ps s t (blocks_of old) (blocks_of j ++ blocks_of m) o r like
        (given-run ps u z args args' (s.store p) w ka
        (read-alike ps s t (blocks_of old) (blocks_of j ++ blocks_of m) o r p p' w like kp f)))
        (works s) (resumed code u z args (s.store p)) x.inside (sure-read code n ds s.plain p u z args old sure x i).inside refl h1
        (λ b. o b + times b (blocks_of x.leftover)) (λ c. r c + times c (blocks_of m)) (like-taken ps s t p u z args old x (blocks_of j) (blocks_of m) o r i like)))
        (λ qs s1 wide grown like2. anew-total d2 qs (acts qs s1 t1 (blocks_of x.leftover) (blocks_of m) o r like2 (stack-wider ps qs wide ks)) s1 below x.leftover
        (sure-more code n ds s.plain s1.plain like.holds grown.plain x.leftover (sure-read code n ds s.plain p u z args old sure x i).left) refl h2 o r like2))
        (λ i. anew-was_read ps s st below p u z args old (blocks_of m) t1 t' o r e i
        (anew-total d1 ps (acts ps s t (blocks_of old) (blocks_of j ++ blocks_of m) o r like
        (given-run ps u z args args' (s.store p) w ka
        (read-alike ps s t (blocks_of old) (blocks_of j ++ blocks_of m) o r p p' w like kp f)))
        (works s) (resumed code u z args (s.store p)) old sure refl h1 o (λ c. r c + times c (blocks_of m)) (like-running ps s t (blocks_of old) (blocks_of j) (blocks_of m) o r like))
        (λ qs s1 left wide sure2 like2. anew-total d2 qs (acts qs s1 t1 (blocks_of left) (blocks_of m) o r like2 (stack-wider ps qs wide ks)) s1 below left sure2 refl h2 o r like2))
