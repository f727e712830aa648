-- Which blocks are kept, and where their jumps lead: laws of blocks that are put together.
use Rattle.std.proofs.Common.{◌≡◌, ◌⊎◌, inl, inr, ℕ, zero, suc, ◌+◌, ◌<◌, Bool, true, false, ◌||◌, Option, Some, List, [], ◌∷◌, ◌++◌, length, slice_get, replicate, Contains, refl, sym, subst, arith}
use Rattle.std.proofs.lemmas.List.Elements.{Contains-push, Contains-push_cases, Contains-append_cases, Contains-append_left, Contains-append_right}
use Rattle.ceal_base.specs.declared.typed.TypedExpr.{TypedExpr}
use Rattle.ceal_base.specs.declared.typed.TypedStmt.{TypedStmt}
use Rattle.ceal_flow.specs.Blocks.{in_loop}
use Rattle.ceal_flow.specs.Laws.{IsKept, IsSimple}
use Rattle.ceal_flow.specs.Paths.{stays, jumps_to, jumps, Leads}
use Rattle.ceal_flow.specs.declared.block.GraphBlock.{GraphBlock}
use Rattle.ceal_flow.specs.declared.exits.Exits.{Exits}
use Rattle.ceal_flow.specs.declared.block.GraphBlock.TheVariants.{Test, Act, Unreached}

contains-one : (x c : ℕ) → Contains (x ∷ []) c → x ≡ c
contains-one x c h = elim (Contains-push_cases [] x c h) [ inl k ↦ absurd (omega (arith, k.1)) | inr e ↦ e ]

contains-two : (x y c : ℕ) → Contains (x ∷ y ∷ []) c → (x ≡ c) ⊎ (y ≡ c)
contains-two x y c h = elim (Contains-append_cases (x ∷ []) (y ∷ []) c h) [ inl k ↦ inl (contains-one x c k) | inr k ↦ inr (contains-one y c k) ]

first-of-two : (x y : ℕ) → Contains (x ∷ y ∷ []) x
first-of-two x y = Contains-append_left (x ∷ []) (y ∷ []) x (Contains-push [] x)

second-of-two : (x y : ℕ) → Contains (x ∷ y ∷ []) y
second-of-two x y = Contains-append_right (x ∷ []) (y ∷ []) y (Contains-push [] y)

none-kept : (k i : ℕ) → IsKept (slice_get (replicate k Unreached) i) → ⊥
none-kept zero i h = h
none-kept (suc k) zero h = h
none-kept (suc k) (suc i) h = none-kept k i h

-- an item of a list, or of the list after it
pub parted : {X : Type 0} (P : Option X → Type 0) (xs ys : List X) (i : ℕ) → P (slice_get (xs ++ ys) i)
    → ((i < length xs) × P (slice_get xs i)) ⊎ ((j : ℕ) × (i ≡ length xs + j) × P (slice_get ys j))
parted P [] ys i h = inr (i, omega arith, h)
parted P (x ∷ xs) ys zero h = inl (omega arith, h)
parted P (x ∷ xs) ys (suc i) h = elim (parted P xs ys i h) [
  | inl k ↦ inl (let l = k.0 in omega (arith, l), k.1)
  | inr k ↦ inr (k.0, (let e = k.1 in omega (arith, e)), k.2)
]

-- a block to which a jump leads
abbrev pub IsExit : Exits → ℕ → Type 0
IsExit exits c = (exits.done ≡ c) ⊎ ((exits.behind ≡ c) ⊎ (exits.test ≡ c))

module _ (blocks : List GraphBlock) where
  pub lead-on : (a b c : ℕ) → Leads blocks a b → Leads blocks b c → Leads blocks a c
  lead-on a b c stays k = k
  lead-on a b c (jumps_to {b = x} {c = y} {d = z} t j h) k = jumps_to t j (lead-on y b c h k)

  pub jump : (a b c : ℕ) (block : GraphBlock) → slice_get blocks a ≡ Some block → Contains (jumps block) b → Leads blocks b c → Leads blocks a c
  jump a b c block e j h = jumps_to (rw e refl) (rw e j) h

  abbrev pub Kept : ℕ → Type 0
  Kept b = IsKept (slice_get blocks b)

  -- a path leads to one of them
  abbrev pub LeadsOut : ℕ → Exits → Type 0
  LeadsOut start exits = (c : ℕ) × IsExit exits c × Leads blocks start c

  pub record AllKept (exits : Exits) : Type 0 where
    pub done : Kept exits.done
    pub behind : Kept exits.behind
    pub test : Kept exits.test

  exit-kept : (exits : Exits) (c : ℕ) → AllKept exits → IsExit exits c → Kept c
  exit-kept exits c d (inl e) = subst (λ x. Kept x) e d.done
  exit-kept exits c d (inr (inl e)) = subst (λ x. Kept x) e d.behind
  exit-kept exits c d (inr (inr e)) = subst (λ x. Kept x) e d.test

  -- blocks of statements from block `n` on, which are entered at `start`, and after which a path continues to `after`,
  -- or where none does, one leads out
  pub record Laws (start : ℕ) (xs : List GraphBlock) (n after : ℕ) (exits : Exits) (on : Bool) : Type 0 where
    pub onward : on ≡ true → Leads blocks start after
    pub out : on ≡ false → LeadsOut start exits
    pub inside : (i : ℕ) → IsKept (slice_get xs i) → Leads blocks start (n + i)
    pub entry : AllKept exits → (on ≡ true → Kept after) → Kept start
    pub closed : AllKept exits → (on ≡ true → Kept after) → (i : ℕ) (block : GraphBlock) (c : ℕ) → slice_get xs i ≡ Some block → Contains (jumps block) c → Kept c
    pub acts : (i : ℕ) (s : TypedStmt) (next : ℕ) → slice_get xs i ≡ Some (Act s next) → IsSimple s

  pub nothing-laws : (n after : ℕ) (exits : Exits) → Laws after [] n after exits true
  nothing-laws n after exits = record {
    onward = λ t. stays;
    out = λ f. cc;
    inside = λ i k. absurd k;
    entry = λ d h. h refl;
    closed = λ d h i block c e j. cc;
    acts = λ i s next e. cc;
  }

  pub jump-laws : (n after : ℕ) (exits : Exits) (c : ℕ) → IsExit exits c → Laws c [] n after exits false
  jump-laws n after exits c is = record {
    onward = λ t. cc;
    out = λ f. (c, is, stays);
    inside = λ i k. absurd k;
    entry = λ d h. exit-kept exits c d is;
    closed = λ d h i block b e j. cc;
    acts = λ i s next e. cc;
  }

  act-inside : (n : ℕ) (b : GraphBlock) (i : ℕ) → IsKept (slice_get (b ∷ []) i) → Leads blocks n (n + i)
  act-inside n b zero k = let e : n ≡ n + 0 = omega arith in subst (λ m. Leads blocks n m) e stays
  act-inside n b (suc i) k = absurd k

  act-closed : (s : TypedStmt) (next : ℕ) (i : ℕ) (block : GraphBlock) (c : ℕ) → slice_get (Act s next ∷ []) i ≡ Some block → Contains (jumps block) c → next ≡ c
  act-closed s next zero block c e j = let same : Act s next ≡ block = cc in contains-one next c (rw (← same) at j)
  act-closed s next (suc i) block c e j = cc

  act-acts : (s : TypedStmt) (next : ℕ) → IsSimple s → (i : ℕ) (t : TypedStmt) (m : ℕ) → slice_get (Act s next ∷ []) i ≡ Some (Act t m) → IsSimple t
  act-acts s next simple zero t m e = let same : s ≡ t = cc in subst (λ x. IsSimple x) same simple
  act-acts s next simple (suc i) t m e = cc

  pub act-laws : (s : TypedStmt) (n after : ℕ) (exits : Exits) → slice_get blocks n ≡ Some (Act s after) → IsSimple s → Laws n (Act s after ∷ []) n after exits true
  act-laws s n after exits look simple = record {
    onward = λ t. jump n after after (Act s after) look (Contains-push [] after) stays;
    out = λ f. cc;
    inside = act-inside n (Act s after);
    entry = λ d h. rw look tt;
    closed = λ d h i block c e j. subst (λ x. Kept x) (act-closed s after i block c e j) (h refl);
    acts = act-acts s after simple;
  }

  -- one part after another
  module _ (start mid : ℕ) (xs ys : List GraphBlock) (n k after : ℕ) (exits : Exits) (on : Bool) (long : length xs ≡ k)
      (one : Laws start xs n mid exits true) (two : Laws mid ys (n + k) after exits on) where
    seq-inside : (i : ℕ) → IsKept (slice_get (xs ++ ys) i) → Leads blocks start (n + i)
    seq-inside i h = elim (parted IsKept xs ys i h) [
      | inl l ↦ one.inside i l.1
      | inr l ↦
          let e : (n + k) + l.0 ≡ n + i = let q = l.1 in omega (arith, q, long) in
          subst (λ m. Leads blocks start m) e (lead-on start mid ((n + k) + l.0) (one.onward refl) (two.inside l.0 l.2))
    ]

    seq-closed : AllKept exits → (on ≡ true → Kept after) → (i : ℕ) (block : GraphBlock) (c : ℕ) → slice_get (xs ++ ys) i ≡ Some block → Contains (jumps block) c → Kept c
    seq-closed d h i block c e j = elim (parted (λ o. o ≡ Some block) xs ys i e) [
      | inl l ↦ one.closed d (λ t. two.entry d h) i block c l.1 j
      | inr l ↦ two.closed d h l.0 block c l.2 j
    ]

    seq-acts : (i : ℕ) (s : TypedStmt) (next : ℕ) → slice_get (xs ++ ys) i ≡ Some (Act s next) → IsSimple s
    seq-acts i s next e = elim (parted (λ o. o ≡ Some (Act s next)) xs ys i e) [
      | inl l ↦ one.acts i s next l.1
      | inr l ↦ two.acts l.0 s next l.2
    ]

    pub seq-laws : Laws start (xs ++ ys) n after exits on
    seq-laws = record {
      onward = λ t. lead-on start mid after (one.onward refl) (two.onward t);
      out = λ f. let l = two.out f in (l.0, l.1, lead-on start mid l.0 (one.onward refl) l.2);
      inside = seq-inside;
      entry = λ d h. one.entry d (λ t. two.entry d h);
      closed = seq-closed;
      acts = seq-acts;
    }

  -- a part that does not continue, and what is left out after it
  module _ (start mid : ℕ) (xs : List GraphBlock) (n k after : ℕ) (exits : Exits) (one : Laws start xs n mid exits false) where
    last-inside : (i : ℕ) → IsKept (slice_get (xs ++ replicate k Unreached) i) → Leads blocks start (n + i)
    last-inside i h = elim (parted IsKept xs (replicate k Unreached) i h) [
      | inl l ↦ one.inside i l.1
      | inr l ↦ absurd (none-kept k l.0 l.2)
    ]

    left-out : (m i : ℕ) (block : GraphBlock) → slice_get (replicate m Unreached) i ≡ Some block → block ≡ Unreached
    left-out zero i block e = cc
    left-out (suc m) zero block e = cc
    left-out (suc m) (suc i) block e = left-out m i block e

    no-jumps : (block : GraphBlock) (c : ℕ) → block ≡ Unreached → Contains (jumps block) c → ⊥
    no-jumps block c e j = let h = subst (λ x. Contains (jumps x) c) e j in let l = h.1 in omega (arith, l)

    last-closed : AllKept exits → (i : ℕ) (block : GraphBlock) (c : ℕ) → slice_get (xs ++ replicate k Unreached) i ≡ Some block → Contains (jumps block) c → Kept c
    last-closed d i block c e j = elim (parted (λ o. o ≡ Some block) xs (replicate k Unreached) i e) [
      | inl l ↦ one.closed d (λ t. cc) i block c l.1 j
      | inr l ↦ absurd (no-jumps block c (left-out k l.0 block l.2) j)
    ]

    last-acts : (i : ℕ) (s : TypedStmt) (next : ℕ) → slice_get (xs ++ replicate k Unreached) i ≡ Some (Act s next) → IsSimple s
    last-acts i s next e = elim (parted (λ o. o ≡ Some (Act s next)) xs (replicate k Unreached) i e) [
      | inl l ↦ one.acts i s next l.1
      | inr l ↦ let q = left-out k l.0 (Act s next) l.2 in cc
    ]

    pub last-laws : Laws start (xs ++ replicate k Unreached) n after exits false
    last-laws = record {
      onward = λ t. cc;
      out = one.out;
      inside = last-inside;
      entry = λ d h. one.entry d (λ t. cc);
      closed = λ d h. last-closed d;
      acts = last-acts;
    }

  -- a test, and its two parts
  on-left : (a b : Bool) → a ≡ true → (a || b) ≡ true
  on-left true b h = refl
  on-left false b h = cc

  on-right : (a b : Bool) → b ≡ true → (a || b) ≡ true
  on-right true b h = refl
  on-right false b h = h

  module _ (test : TypedExpr) (a b : ℕ) (xs ys : List GraphBlock) (n k after : ℕ) (exits : Exits) (first_on second_on : Bool) (long : length xs ≡ k)
      (look : slice_get blocks n ≡ Some (Test test a b)) (one : Laws a xs (n + 1) after exits first_on) (two : Laws b ys (n + 1 + k) after exits second_on) where
    to-first : (c : ℕ) → Leads blocks a c → Leads blocks n c
    to-first c h = jump n a c (Test test a b) look (first-of-two a b) h

    to-second : (c : ℕ) → Leads blocks b c → Leads blocks n c
    to-second c h = jump n b c (Test test a b) look (second-of-two a b) h

    if-onward : (x y : Bool) → x ≡ first_on → y ≡ second_on → (x || y) ≡ true → Leads blocks n after
    if-onward true y p q t = to-first after (one.onward (sym p))
    if-onward false true p q t = to-second after (two.onward (sym q))
    if-onward false false p q t = cc

    if-out : (x y : Bool) → x ≡ first_on → y ≡ second_on → (x || y) ≡ false → LeadsOut n exits
    if-out true y p q f = cc
    if-out false true p q f = cc
    if-out false false p q f = let l = two.out (sym q) in (l.0, l.1, to-second l.0 l.2)

    if-inside : (i : ℕ) → IsKept (slice_get (Test test a b ∷ (xs ++ ys)) i) → Leads blocks n (n + i)
    if-inside zero h = let e : n ≡ n + 0 = omega arith in subst (λ m. Leads blocks n m) e stays
    if-inside (suc i) h = elim (parted IsKept xs ys i h) [
      | inl l ↦ let e : n + 1 + i ≡ n + suc i = omega arith in subst (λ m. Leads blocks n m) e (to-first (n + 1 + i) (one.inside i l.1))
      | inr l ↦
          let e : n + 1 + k + l.0 ≡ n + suc i = let q = l.1 in omega (arith, q, long) in
          subst (λ m. Leads blocks n m) e (to-second (n + 1 + k + l.0) (two.inside l.0 l.2))
    ]

    if-closed : AllKept exits → ((first_on || second_on) ≡ true → Kept after) → (i : ℕ) (block : GraphBlock) (c : ℕ)
        → slice_get (Test test a b ∷ (xs ++ ys)) i ≡ Some block → Contains (jumps block) c → Kept c
    if-closed d h zero block c e j =
        let same : Test test a b ≡ block = cc in
        elim (contains-two a b c (rw (← same) at j)) [
          | inl q ↦ subst (λ x. Kept x) q (one.entry d (λ t. h (on-left first_on second_on t)))
          | inr q ↦ subst (λ x. Kept x) q (two.entry d (λ t. h (on-right first_on second_on t)))
        ]
    if-closed d h (suc i) block c e j = elim (parted (λ o. o ≡ Some block) xs ys i e) [
      | inl l ↦ one.closed d (λ t. h (on-left first_on second_on t)) i block c l.1 j
      | inr l ↦ two.closed d (λ t. h (on-right first_on second_on t)) l.0 block c l.2 j
    ]

    if-acts : (i : ℕ) (s : TypedStmt) (next : ℕ) → slice_get (Test test a b ∷ (xs ++ ys)) i ≡ Some (Act s next) → IsSimple s
    if-acts zero s next e = cc
    if-acts (suc i) s next e = elim (parted (λ o. o ≡ Some (Act s next)) xs ys i e) [
      | inl l ↦ one.acts i s next l.1
      | inr l ↦ two.acts l.0 s next l.2
    ]

    pub if-laws : Laws n (Test test a b ∷ (xs ++ ys)) n after exits (first_on || second_on)
    if-laws = record {
      onward = if-onward first_on second_on refl refl;
      out = if-out first_on second_on refl refl;
      inside = if-inside;
      entry = λ d h. rw look tt;
      closed = if-closed;
      acts = if-acts;
    }

  -- a test, and the part from whose end a jump leads back to it
  module _ (test : TypedExpr) (a : ℕ) (xs : List GraphBlock) (n after : ℕ) (exits : Exits) (on : Bool)
      (look : slice_get blocks n ≡ Some (Test test a after)) (one : Laws a xs (n + 1) n (in_loop exits n after) on) where
    while-inside : (i : ℕ) → IsKept (slice_get (Test test a after ∷ xs) i) → Leads blocks n (n + i)
    while-inside zero h = let e : n ≡ n + 0 = omega arith in subst (λ m. Leads blocks n m) e stays
    while-inside (suc i) h =
        let e : n + 1 + i ≡ n + suc i = omega arith in
        subst (λ m. Leads blocks n m) e (jump n a (n + 1 + i) (Test test a after) look (first-of-two a after) (one.inside i h))

    kept-within : AllKept exits → Kept after → AllKept (in_loop exits n after)
    kept-within d h = record { done = d.done; behind = h; test = rw look tt }

    while-closed : AllKept exits → Kept after → (i : ℕ) (block : GraphBlock) (c : ℕ) → slice_get (Test test a after ∷ xs) i ≡ Some block → Contains (jumps block) c → Kept c
    while-closed d h zero block c e j =
        let same : Test test a after ≡ block = cc in
        elim (contains-two a after c (rw (← same) at j)) [
          | inl q ↦ subst (λ x. Kept x) q (one.entry (kept-within d h) (λ t. rw look tt))
          | inr q ↦ subst (λ x. Kept x) q h
        ]
    while-closed d h (suc i) block c e j = one.closed (kept-within d h) (λ t. rw look tt) i block c e j

    while-acts : (i : ℕ) (s : TypedStmt) (next : ℕ) → slice_get (Test test a after ∷ xs) i ≡ Some (Act s next) → IsSimple s
    while-acts zero s next e = cc
    while-acts (suc i) s next e = one.acts i s next e

    pub while-laws : Laws n (Test test a after ∷ xs) n after exits true
    while-laws = record {
      onward = λ t. jump n after after (Test test a after) look (second-of-two a after) stays;
      out = λ f. cc;
      inside = while-inside;
      entry = λ d h. rw look tt;
      closed = λ d h. while-closed d (h refl);
      acts = while-acts;
    }
