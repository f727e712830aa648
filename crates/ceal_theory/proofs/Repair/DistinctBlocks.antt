-- A repair gives distinct blocks: the new items and what is left over have the old blocks at most, each as often, and
-- new numbers.
use Rattle.std.proofs.Common.{◌≡◌, ℕ, zero, suc, ◌+◌, ◌-◌, ◌<◌, ◌≤◌, min, Bool, true, false, ◌==◌, ◌&&◌, if◌then◌else◌}
use Rattle.std.proofs.Common.{Option, Some, None, List, [], ◌∷◌, ◌++◌, nat_le, refl, sym, ap, ◌∙◌, subst, arith}
use Rattle.ceal_base.specs.Operators.{same_place}
use Rattle.ceal_base.specs.Trace.{Trace, Nothing, Stepped, Allocated, Wrote, WasRead, trace_then, blocks_of}
use Rattle.ceal_base.specs.declared.forest.Key.{Key}
use Rattle.ceal_base.specs.declared.forest.UnitId.{UnitId}
use Rattle.ceal_base.specs.declared.word.BlockId.{BlockId}
use Rattle.ceal_base.specs.declared.word.BlockId.TheVariants.{Input, Core}
use Rattle.ceal_base.specs.declared.word.Place.{Place}
use Rattle.ceal_base.specs.declared.word.Word.{Word}
use Rattle.ceal_code.proofs.Alike.BlockPairs.{one_if}
use Rattle.ceal_code.proofs.Words.SameIsEqual.{some-same, none-some}
use Rattle.ceal_code.specs.Program.{Code}
use Rattle.ceal_code.specs.Replay.{count, Distinct, core_numbers}
use Rattle.ceal_code.specs.Step.{Stack}
use Rattle.ceal_theory.specs.Repair.{Single, State, Fix, Mend, Reruns}
use Rattle.ceal_theory.specs.Take.{TakenAlloc, TakenRead, same_words, same_key, alloc_then, read_then, take_alloc, take_read}

-- how often a core block occurs among the blocks, and in the items
abbrev pub times : ℕ → List BlockId → ℕ
times b bs = count b (core_numbers bs)

abbrev pub uses : ℕ → Trace → ℕ
uses b l = count b (core_numbers (blocks_of l))

-- 1 where it is the block
abbrev pub one_at : ℕ → BlockId → ℕ
one_at b (Core c) = one_if b c
one_at b (Input i) = 0

-- 1 where b is below n
abbrev pub past : ℕ → ℕ → ℕ
past n b = min 1 (n - b)

pub times-cons : (b : ℕ) (c : BlockId) (bs : List BlockId) → times b (c ∷ bs) ≡ one_at b c + times b bs
times-cons b (Core c) bs = refl
times-cons b (Input i) bs = omega arith

pub times-append : (b : ℕ) (bs cs : List BlockId) → times b (bs ++ cs) ≡ times b bs + times b cs
times-append b [] cs = omega arith
times-append b (c ∷ bs) cs = omega (arith, times-append b bs cs, times-cons b c (bs ++ cs), times-cons b c bs)

pub uses-followed : (b : ℕ) (f g : Trace) → uses b (trace_then f g) ≡ uses b f + uses b g
uses-followed b Nothing g = omega arith
uses-followed b (Stepped rest) g = uses-followed b rest g
uses-followed b (Allocated c key rest) g = omega (arith, uses-followed b rest g, times-cons b c (blocks_of (trace_then rest g)), times-cons b c (blocks_of rest))
uses-followed b (Wrote p v rest) g = uses-followed b rest g
uses-followed b (WasRead p v u y args inside rest) g =
    omega (arith, uses-followed b rest g, times-append b (blocks_of inside) (blocks_of (trace_then rest g)), times-append b (blocks_of inside) (blocks_of rest))

alloc-then : (b : ℕ) (inside rest : Trace) (first second : Option TakenAlloc) (t : TakenAlloc)
    → ((t : TakenAlloc) → first ≡ Some t → one_at b t.block + uses b t.leftover ≤ uses b inside)
    → ((t : TakenAlloc) → second ≡ Some t → one_at b t.block + uses b t.leftover ≤ uses b rest)
    → alloc_then rest first second ≡ Some t
    → one_at b t.block + uses b t.leftover ≤ uses b inside + uses b rest
alloc-then b inside rest None second t f g e = omega (arith, g t e)
alloc-then b inside rest (Some a) second t f g e =
    subst (λ t. one_at b t.block + uses b t.leftover ≤ uses b inside + uses b rest) (some-same (record a { leftover = trace_then a.leftover rest }) t e)
    (omega (arith, f a refl, uses-followed b a.leftover rest))

alloc-if : (b : ℕ) (c : BlockId) (test : Bool) (key : Key) (rest : Trace) (t : TakenAlloc)
    → ((t : TakenAlloc) → take_alloc key rest ≡ Some t → one_at b t.block + uses b t.leftover ≤ uses b rest)
    → (if test then Some (record { block = c; leftover = rest }) else take_alloc key rest) ≡ Some t
    → one_at b t.block + uses b t.leftover ≤ one_at b c + uses b rest
alloc-if b c false key rest t g e = omega (arith, g t e)
alloc-if b c true key rest t g e =
    subst (λ t. one_at b t.block + uses b t.leftover ≤ one_at b c + uses b rest) (some-same (record { block = c; leftover = rest }) t e) (omega arith)

pub alloc-uses : (b : ℕ) (key : Key) (old : Trace) (t : TakenAlloc) → take_alloc key old ≡ Some t
    → one_at b t.block + uses b t.leftover ≤ uses b old
unfolding take_alloc
alloc-uses b key Nothing t e = none-some t e
alloc-uses b key (Stepped rest) t e = alloc-uses b key rest t e
alloc-uses b key (Allocated c k rest) t e = omega (arith, alloc-if b c (same_key k key) key rest t (alloc-uses b key rest) e, times-cons b c (blocks_of rest))
alloc-uses b key (Wrote p v rest) t e = alloc-uses b key rest t e
alloc-uses b key (WasRead p v u y args inside rest) t e =
    omega (arith, alloc-then b inside rest (take_alloc key inside) (take_alloc key rest) t (alloc-uses b key inside) (alloc-uses b key rest) e, times-append b (blocks_of inside) (blocks_of rest))

read-then : (b : ℕ) (inside rest : Trace) (first second : Option TakenRead) (t : TakenRead)
    → ((t : TakenRead) → first ≡ Some t → uses b t.inside + uses b t.leftover ≤ uses b inside)
    → ((t : TakenRead) → second ≡ Some t → uses b t.inside + uses b t.leftover ≤ uses b rest)
    → read_then rest first second ≡ Some t
    → uses b t.inside + uses b t.leftover ≤ uses b inside + uses b rest
read-then b inside rest None second t f g e = omega (arith, g t e)
read-then b inside rest (Some a) second t f g e =
    subst (λ t. uses b t.inside + uses b t.leftover ≤ uses b inside + uses b rest) (some-same (record a { leftover = trace_then a.leftover rest }) t e)
    (omega (arith, f a refl, uses-followed b a.leftover rest))

read-if : (b : ℕ) (test : Bool) (v : Word) (inside rest : Trace) (other : Option TakenRead) (t : TakenRead)
    → ((t : TakenRead) → other ≡ Some t → uses b t.inside + uses b t.leftover ≤ uses b inside + uses b rest)
    → (if test then Some (record { value = v; inside = inside; leftover = rest }) else other) ≡ Some t
    → uses b t.inside + uses b t.leftover ≤ uses b inside + uses b rest
read-if b false v inside rest other t g e = g t e
read-if b true v inside rest other t g e =
    subst (λ t. uses b t.inside + uses b t.leftover ≤ uses b inside + uses b rest) (some-same (record { value = v; inside = inside; leftover = rest }) t e) (omega arith)

pub read-uses : (b : ℕ) (p : Place) (u : UnitId) (y : ℕ) (args : List Word) (old : Trace) (t : TakenRead) → take_read p u y args old ≡ Some t
    → uses b t.inside + uses b t.leftover ≤ uses b old
unfolding take_read
read-uses b p u y args Nothing t e = none-some t e
read-uses b p u y args (Stepped rest) t e = read-uses b p u y args rest t e
read-uses b p u y args (Allocated c k rest) t e = omega (arith, read-uses b p u y args rest t e, times-cons b c (blocks_of rest))
read-uses b p u y args (Wrote q v rest) t e = read-uses b p u y args rest t e
read-uses b p u y args (WasRead q v u' y' args' inside rest) t e =
    omega (
      arith,
      times-append b (blocks_of inside) (blocks_of rest),
      read-if b (same_place q p && u'.0 == u.0 && y' == y && same_words args' args) v inside rest
          (read_then rest (take_read p u y args inside) (take_read p u y args rest)) t
          (λ t. read-then b inside rest (take_read p u y args inside) (take_read p u y args rest) t (read-uses b p u y args inside) (read-uses b p u y args rest)) e,
    )

number-past : (b n : ℕ) (test : Bool) → (n == b) ≡ test → (if test then 1 else 0) + past n b ≤ past (n + 1) b
number-past b n false e = omega arith
number-past b n true e = let e' : n ≡ b = grind (arith, e) in omega (arith, e')

pub next-past : (b n : ℕ) → one_if b n + past n b ≤ past (n + 1) b
next-past b n = number-past b n (n == b) refl

-- how many of the first n numbers have this name
abbrev pub named : (ℕ → ℕ) → ℕ → ℕ → ℕ
named names zero b = 0
named names (suc n) b = one_if b (names n) + named names n b

pub next-named : (names : ℕ → ℕ) (n b : ℕ) → one_if b (names n) + named names n b ≡ named names (n + 1) b
next-named names n b = let e : suc n ≡ n + 1 = omega arith in ap (λ m. named names m b) e

one-at-most : (t : Bool) → (if t then 1 else 0) ≤ 1
one-at-most true = omega arith
one-at-most false = omega arith

pub one-is : (b c : ℕ) (t : Bool) → (c == b) ≡ t → 1 ≤ (if t then 1 else 0) → c ≡ b
one-is b c true e h = grind (arith, e)
one-is b c false e h = absurd (omega (arith, h))

one-none : (b c : ℕ) → ¬ (c ≡ b) → one_if b c ≡ 0
one-none b c h = go (c == b) refl
  where
    go : (t : Bool) → (c == b) ≡ t → ◌≡◌ {A = ℕ} (if t then 1 else 0) 0
    go true e = let same : c ≡ b = grind (arith, e) in absurd (h same)
    go false e = refl

-- the number that has the name
pub of-named : (names : ℕ → ℕ) (n b : ℕ) → 1 ≤ named names n b → (k : ℕ) × (k < n) × (b ≡ names k)
of-named names zero b h = absurd (omega (arith, h))
of-named names (suc n) b h = go (of-named names n b) (one_if b (names n)) refl
  where
    go : (1 ≤ named names n b → (k : ℕ) × (k < n) × (b ≡ names k)) → (m : ℕ) → one_if b (names n) ≡ m → (k : ℕ) × (k < suc n) × (b ≡ names k)
    go f zero e = let r = f (omega (arith, h, e)) in (r.0, omega (arith, r.1), r.2)
    go f (suc m) e = (n, omega arith, sym (one-is b (names n) (names n == b) refl (omega (arith, e))))

-- none of these numbers has the name
pub named-none : (names : ℕ → ℕ) (n b : ℕ) → ((k : ℕ) → k < n → ¬ (b ≡ names k)) → named names n b ≡ 0
named-none names zero b h = refl
named-none names (suc n) b h =
    omega (arith, one-none b (names n) (λ e. h n (omega arith) (sym e)), named-none names n b (λ k i. h k (omega (arith, i))))

module _ (names : ℕ → ℕ) (single : Single names) where
  -- each name is of one number
  pub named-most : (n b : ℕ) → named names n b ≤ 1
  named-most zero b = omega arith
  named-most (suc n) b = go (named-most n b) (one_if b (names n)) refl
    where
      go : named names n b ≤ 1 → (m : ℕ) → one_if b (names n) ≡ m → one_if b (names n) + named names n b ≤ 1
      go h zero e = omega (arith, e, h)
      go h (suc m) e =
          let same : names n ≡ b = one-is b (names n) (names n == b) refl (omega (arith, e)) in
          let none = named-none names n b (λ k i j. absurd (omega (arith, i, single n k (same ∙ j)))) in
          omega (arith, none, one-at-most (names n == b))

  pub named-one : (n k : ℕ) → k < n → named names n (names k) ≡ 1
  named-one zero k h = absurd (omega (arith, h))
  named-one (suc n) k h = go (named-one n k) (names n == names k) refl
    where
      go : (k < n → named names n (names k) ≡ 1) → (t : Bool) → (names n == names k) ≡ t → (if t then 1 else 0) + named names n (names k) ≡ 1
      go f true e =
          let same : names n ≡ names k = grind (arith, e) in
          let at : n ≡ k = single n k same in
          let none = named-none names n (names k) (λ j i w. absurd (omega (arith, i, at, single k j w))) in
          omega (arith, none)
      go f false e =
          let below : k < n = before (nat_le n k) refl in
          omega (arith, f below)
        where
          before : (t : Bool) → nat_le n k ≡ t → k < n
          before true i = let at : n ≡ k = grind (arith, i, h) in absurd (grind (arith, e, at))
          before false i = grind (arith, i)

  -- a name of a number from the one on is of none below it
  pub named-later : (n k : ℕ) → n ≤ k → named names n (names k) ≡ 0
  named-later n k h = named-none names n (names k) (λ j i w. absurd (omega (arith, h, i, single k j w)))

-- where no number from the one up to the other has the name it is as often among those below the other
pub named-same : (names : ℕ → ℕ) (from to b : ℕ) → from ≤ to → ((k : ℕ) → from ≤ k → k < to → ¬ (b ≡ names k)) → named names to b ≡ named names from b
named-same names from zero b h f = let e : from ≡ 0 = omega (arith, h) in rw e refl
named-same names from (suc to) b h f = go (named-same names from to b) (nat_le from to) refl
  where
    go : (from ≤ to → ((k : ℕ) → from ≤ k → k < to → ¬ (b ≡ names k)) → named names to b ≡ named names from b) →
        (t : Bool) → nat_le from to ≡ t → one_if b (names to) + named names to b ≡ named names from b
    go r true e =
        omega (arith, one-none b (names to) (λ i. f to (grind (arith, e)) (omega arith) (sym i)), r (grind (arith, e)) (λ k i j. f k i (omega (arith, j))))
    go r false e = let same : from ≡ suc to = grind (arith, e, h) in rw same refl

module _ (code : Code) {names : ℕ → ℕ} (b : ℕ) where
  mutual
    pub fix-uses : {s s' : State} {old new : Trace} → Fix code names s old s' new
        → uses b new + named names s.number b ≤ uses b old + named names s'.number b
    fix-uses Fix.end = omega arith
    fix-uses (Fix.step f) = fix-uses f
    fix-uses (Fix.alloc {b = c} {rest = rest} {rest' = rest'} f) = omega (arith, fix-uses f, times-cons b c (blocks_of rest), times-cons b c (blocks_of rest'))
    fix-uses (Fix.write f) = fix-uses f
    fix-uses (Fix.read {inside = inside} {inside' = inside'} {rest = rest} {rest' = rest'} m f) =
        omega (arith, mend-uses m, fix-uses f, times-append b (blocks_of inside) (blocks_of rest), times-append b (blocks_of inside') (blocks_of rest'))

    pub mend-uses : {s t : State} {p : Place} {u : UnitId} {v : ℕ} {args : List Word} {value : Word} {old new : Trace}
        → Mend code names s p u v args value old t new
        → uses b new + named names s.number b ≤ uses b old + named names t.number b
    mend-uses (Mend.kept e f) = fix-uses f
    mend-uses (Mend.stale e a) = omega (arith, anew-uses a)

    pub anew-uses : {s s' : State} {st : Stack} {old new left : Trace} → Reruns code names s st old s' new left
        → uses b new + uses b left + named names s.number b ≤ uses b old + named names s'.number b
    anew-uses (Reruns.over e) = omega arith
    anew-uses (Reruns.quiet e a) = anew-uses a
    anew-uses {s} {s'} {st} {old} (Reruns.takes_alloc {key = key} {new = new} {t = t} e w a) = omega (arith, anew-uses a, alloc-uses b key old t w, times-cons b t.block (blocks_of new))
    anew-uses {s} (Reruns.makes e w a) = omega (arith, anew-uses a, next-named names s.number b)
    anew-uses (Reruns.writes e a) = anew-uses a
    anew-uses {s} {s'} {st} {old} (Reruns.takes_read {p = p} {u = u} {v = v} {args = args} {inside' = inside'} {new = new} {r = r} e w m a) =
        omega (arith, mend-uses m, anew-uses a, read-uses b p u v args old r w, times-append b (blocks_of inside') (blocks_of new))
    anew-uses (Reruns.reads {inside' = inside'} {new = new} e w m a) =
        omega (arith, anew-uses m, anew-uses a, times-append b (blocks_of inside') (blocks_of new))

-- the new items' blocks are distinct, where the old ones' are, of which none has a name of a number from the next one
-- on
pub distinct-new : (names : ℕ → ℕ) → Single names → (from to b m n : ℕ) → m + named names from b ≤ n + named names to b → n ≤ 1 → ((k : ℕ) → from ≤ k → b ≡ names k → n ≡ 0) → m ≤ 1
distinct-new names single from to b m n h o new = go (named names to b) refl
  where
    at : (k : ℕ) → k < to → b ≡ names k → (t : Bool) → nat_le from k ≡ t → m ≤ 1
    at k i e true j = omega (arith, h, new k (grind (arith, j)) e, named-most names single to b)
    at k i e false j =
        let one : named names from b ≡ 1 = subst (λ z. named names from z ≡ 1) (sym e) (named-one names single from k (grind (arith, j))) in
        omega (arith, h, o, one, named-most names single to b)

    go : (c : ℕ) → named names to b ≡ c → m ≤ 1
    go zero e = omega (arith, h, o, e)
    go (suc c) e = let r = of-named names to b (omega (arith, e)) in at r.0 r.1 r.2 (nat_le from r.0) refl

pub fix-distinct : (code : Code) (names : ℕ → ℕ) → Single names → (s s' : State) (old new : Trace) → Fix code names s old s' new → Distinct (core_numbers (blocks_of old))
    → ((k : ℕ) → s.number ≤ k → uses (names k) old ≡ 0) → Distinct (core_numbers (blocks_of new))
fix-distinct code names single s s' old new f d low b = distinct-new names single s.number s'.number b (uses b new) (uses b old) (fix-uses code b f) (d b) (λ k i e. rw e (low k i))

-- and of the blocks with a name of a number below it the new items have no more than the old ones
pub fix-old : (code : Code) (names : ℕ → ℕ) → Single names → (s s' : State) (old new : Trace) → Fix code names s old s' new → (k : ℕ) → k < s.number → uses (names k) new ≤ uses (names k) old
fix-old code names single s s' old new f k h =
    omega (arith, fix-uses code (names k) f, named-one names single s.number k h, named-most names single s'.number (names k))
