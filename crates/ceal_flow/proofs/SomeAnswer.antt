-- There are live sets of each graph.
use Rattle.std.proofs.Common.{◌≡◌, ◌⊎◌, inl, inr, ◌↔◌, ℕ, zero, suc, ◌+◌, ◌<◌, ◌≤◌, Bool, true, false, ◌||◌, ◌&&◌}
use Rattle.std.proofs.Common.{Option, Some, None, List, [], ◌∷◌, length, slice_get, slice_index_or, if◌then◌else◌, refl}
use Rattle.std.proofs.Common.{sym, ap, ◌∙◌, subst, arith}
use Rattle.std.specs.Prelude.{Contains}
use Rattle.std.proofs.lemmas.Bool.{cases_Bool, false≢true}
use Rattle.std.proofs.lemmas.Bool.Decides.{eqb_tells}
use Rattle.std.proofs.lemmas.List.Elements.{Contains-push, Contains-push_cases, Contains-append_cases, Contains-append_left, Contains-append_right}
use Rattle.ceal_flow.specs.Live.{uses, uses_at, keeps, Live, AreLiveSets}
use Rattle.ceal_flow.specs.Paths.{Path, stays, jumps_to, jumps, jumps_at, test_at}
use Rattle.ceal_flow.specs.Sets.{is_in, IsBelow, IsAscending, set_at}
use Rattle.ceal_flow.specs.declared.block.GraphBlock.{GraphBlock}

-- marks at blocks
abbrev Marks : Type 0
Marks = List Bool

abbrev mark_at : Marks → ℕ → Bool
mark_at m b = slice_index_or m b false

abbrev any_mark : Marks → List ℕ → Bool
any_mark m [] = false
any_mark m (c ∷ cs) = mark_at m c || any_mark m cs

or-cases : (a b : Bool) → (a || b) ≡ true → (a ≡ true) ⊎ (b ≡ true)
or-cases true b e = inl refl
or-cases false b e = inr e

or-left : (a b : Bool) → a ≡ true → (a || b) ≡ true
or-left true b e = refl
or-left false b e = cc

or-right : (a b : Bool) → b ≡ true → (a || b) ≡ true
or-right true b e = refl
or-right false b e = e

and-both : (a b : Bool) → a ≡ true → b ≡ true → (a && b) ≡ true
and-both true b h k = k
and-both false b h k = cc

and-left : (a b : Bool) → (a && b) ≡ true → a ≡ true
and-left true b e = refl
and-left false b e = cc

and-right : (a b : Bool) → (a && b) ≡ true → b ≡ true
and-right true b e = e
and-right false b e = cc

no-index : (c : ℕ) → Contains [] c → ⊥
no-index c h = let l = h.1 in omega (arith, l)

one-index : (x c : ℕ) → Contains (x ∷ []) c → x ≡ c
one-index x c h = elim (Contains-push_cases [] x c h) [ inl k ↦ absurd (no-index c k) | inr e ↦ e ]

-- a mark at a jump is one of the marks at jumps, and the other way round
marked-jump : (m : Marks) (cs : List ℕ) (c : ℕ) → Contains cs c → mark_at m c ≡ true → any_mark m cs ≡ true
marked-jump m [] c h e = absurd (no-index c h)
marked-jump m (x ∷ cs) c h e = elim (Contains-append_cases (x ∷ []) cs c h) [
  | inl k ↦ or-left (mark_at m x) (any_mark m cs) (ap (mark_at m) (one-index x c k) ∙ e)
  | inr k ↦ or-right (mark_at m x) (any_mark m cs) (marked-jump m cs c k e)
]

jump-marked : (m : Marks) (cs : List ℕ) → any_mark m cs ≡ true → (c : ℕ) × Contains cs c × (mark_at m c ≡ true)
jump-marked m [] e = absurd (false≢true e)
jump-marked m (x ∷ cs) e = elim (or-cases (mark_at m x) (any_mark m cs) e) [
  | inl h ↦ (x, Contains-append_left (x ∷ []) cs x (Contains-push [] x), h)
  | inr h ↦ let k = jump-marked m cs h in (k.0, Contains-append_right (x ∷ []) cs k.0 k.1, k.2)
]

-- how many marks there are
unfoldable marked : Marks → ℕ
marked [] = 0
marked (x ∷ xs) = (if x then 1 else 0) + marked xs

marked-few : (m : Marks) → marked m ≤ length m
unfolding marked
marked-few [] = omega arith
marked-few (true ∷ m) = let h = marked-few m in omega (arith, h)
marked-few (false ∷ m) = let h = marked-few m in omega (arith, h)

module _ (blocks : List GraphBlock) (v : ℕ) where
  -- a mark reaches a block that uses the variable, and one that keeps it and jumps to a mark
  abbrev new : Marks → GraphBlock → Bool
  new m block = is_in v (uses block) || (keeps v block && any_mark m (jumps block))

  unfoldable step : Marks → Marks → List GraphBlock → Marks
  step m [] bs = []
  step m (x ∷ xs) [] = x ∷ xs
  step m (x ∷ xs) (block ∷ bs) = (x || new m block) ∷ step m xs bs

  step-length : (m xs : Marks) (bs : List GraphBlock) → length (step m xs bs) ≡ length xs
  unfolding step
  step-length m [] bs = refl
  step-length m (x ∷ xs) [] = refl
  step-length m (x ∷ xs) (block ∷ bs) = ap suc (step-length m xs bs)

  -- a step leaves the marks, or there are more
  abbrev Moves : Marks → Marks → Type 0
  Moves xs ys = (ys ≡ xs) ⊎ (marked xs < marked ys)

  moves-one : (x y : Bool) (xs ys : Marks) → Moves xs ys → Moves (x ∷ xs) ((x || y) ∷ ys)
  unfolding marked
  moves-one true y xs ys (inl e) = inl (ap (λ zs. true ∷ zs) e)
  moves-one true y xs ys (inr l) = inr (omega (arith, l))
  moves-one false true xs ys (inl e) = inr (let n = ap marked e in omega (arith, n))
  moves-one false true xs ys (inr l) = inr (omega (arith, l))
  moves-one false false xs ys (inl e) = inl (ap (λ zs. false ∷ zs) e)
  moves-one false false xs ys (inr l) = inr (omega (arith, l))

  step-moves : (m xs : Marks) (bs : List GraphBlock) → Moves xs (step m xs bs)
  unfolding step
  step-moves m [] bs = inl refl
  step-moves m (x ∷ xs) [] = inl refl
  step-moves m (x ∷ xs) (block ∷ bs) = moves-one x (new m block) xs (step m xs bs) (step-moves m xs bs)

  step-at : (m xs : Marks) (bs : List GraphBlock) (b : ℕ) (block : GraphBlock) → length xs ≡ length bs → slice_get bs b ≡ Some block
      → mark_at (step m xs bs) b ≡ (mark_at xs b || new m block)
  unfolding step
  step-at m [] [] b block l e = cc
  step-at m [] (y ∷ bs) b block l e = absurd (omega (arith, l))
  step-at m (x ∷ xs) [] b block l e = absurd (omega (arith, l))
  step-at m (x ∷ xs) (y ∷ bs) zero block l e = let same : y ≡ block = cc e in ap (λ z. x || new m z) same
  step-at m (x ∷ xs) (y ∷ bs) (suc b) block l e = step-at m xs bs b block (omega (arith, l)) e

  step-none : (m xs : Marks) (bs : List GraphBlock) (b : ℕ) → length xs ≡ length bs → slice_get bs b ≡ None → mark_at (step m xs bs) b ≡ false
  unfolding step
  step-none m [] [] b l e = refl
  step-none m [] (y ∷ bs) b l e = absurd (omega (arith, l))
  step-none m (x ∷ xs) [] b l e = absurd (omega (arith, l))
  step-none m (x ∷ xs) (y ∷ bs) zero l e = absurd (cc e)
  step-none m (x ∷ xs) (y ∷ bs) (suc b) l e = step-none m xs bs b (omega (arith, l)) e

  abbrev Sound : Marks → Type 0
  Sound m = (b : ℕ) → mark_at m b ≡ true → Live blocks v b

  new-sound : (m : Marks) → Sound m → (b : ℕ) (block : GraphBlock) → slice_get blocks b ≡ Some block → new m block ≡ true → Live blocks v b
  new-sound m sound b block e h = elim (or-cases (is_in v (uses block)) (keeps v block && any_mark m (jumps block)) h) [
    | inl used ↦ (b, stays, rw e used)
    | inr onward ↦
        let keep = and-left (keeps v block) (any_mark m (jumps block)) onward in
        let jump = jump-marked m (jumps block) (and-right (keeps v block) (any_mark m (jumps block)) onward) in
        let live = sound jump.0 jump.2 in
        (live.0, jumps_to (rw e keep) (rw e jump.1) live.1, live.2)
  ]

  step-sound : (m : Marks) → length m ≡ length blocks → Sound m → Sound (step m m blocks)
  step-sound m l sound b h = by_block (slice_get blocks b) refl
    where
      by_block : (o : Option GraphBlock) → slice_get blocks b ≡ o → Live blocks v b
      by_block None e = absurd (false≢true (sym (step-none m m blocks b l e) ∙ h))
      by_block (Some block) e = elim (or-cases (mark_at m b) (new m block) (sym (step-at m m blocks b block l e) ∙ h)) [
        | inl old ↦ sound b old
        | inr now ↦ new-sound m sound b block e now
      ]

  -- marks that no step adds to
  record Full : Type 0 where
    marks : Marks
    each : length marks ≡ length blocks
    sound : Sound marks
    full : step marks marks blocks ≡ marks

  step-few : (m : Marks) → marked (step m m blocks) ≤ length m
  step-few m = let a = marked-few (step m m blocks) in let b = step-length m m blocks in omega (arith, a, b)

  filled : (k : ℕ) (m : Marks) → length m ≡ length blocks → Sound m → length m ≤ marked m + k → Full
  filled zero m l sound room = elim (step-moves m m blocks) [
    | inl e ↦ record { marks = m; each = l; sound = sound; full = e }
    | inr more ↦ let few = step-few m in absurd (omega (arith, room, more, few))
  ]
  filled (suc k) m l sound room = elim (step-moves m m blocks) [
    | inl e ↦ record { marks = m; each = l; sound = sound; full = e }
    | inr more ↦
        let e = step-length m m blocks in
        filled k (step m m blocks) (e ∙ l) (step-sound m l sound) (omega (arith, room, more, e))
  ]

  no_marks : List GraphBlock → Marks
  no_marks [] = []
  no_marks (block ∷ bs) = false ∷ no_marks bs

  no_marks-length : (bs : List GraphBlock) → length (no_marks bs) ≡ length bs
  unfolding no_marks
  no_marks-length [] = refl
  no_marks-length (block ∷ bs) = ap suc (no_marks-length bs)

  no_marks-at : (bs : List GraphBlock) (b : ℕ) → mark_at (no_marks bs) b ≡ false
  unfolding no_marks
  no_marks-at [] b = refl
  no_marks-at (block ∷ bs) zero = refl
  no_marks-at (block ∷ bs) (suc b) = no_marks-at bs b

  full : Full
  full =
      let m : Marks = no_marks blocks in
      filled (length m) m (no_marks-length blocks) (λ b h. absurd (false≢true (sym (no_marks-at blocks b) ∙ h))) (omega arith)

  abbrev is_live : ℕ → Bool
  is_live b = mark_at full.marks b

  closed : (b : ℕ) (block : GraphBlock) → slice_get blocks b ≡ Some block → new full.marks block ≡ true → is_live b ≡ true
  closed b block e h =
      sym (ap (λ m. mark_at m b) full.full) ∙ step-at full.marks full.marks blocks b block full.each e
      ∙ or-right (mark_at full.marks b) (new full.marks block) h

  -- marks are at all blocks where the variable is live
  path-marked : (b c : ℕ) → Path blocks (keeps v) b c → is_in v (uses_at (slice_get blocks c)) ≡ true → is_live b ≡ true
  path-marked b c stays used = by_block (slice_get blocks b) refl used
    where
      by_block : (o : Option GraphBlock) → slice_get blocks b ≡ o → is_in v (uses_at o) ≡ true → is_live b ≡ true
      by_block None e h = absurd (false≢true h)
      by_block (Some block) e h = closed b block e (or-left (is_in v (uses block)) (keeps v block && any_mark full.marks (jumps block)) h)
  path-marked b c (jumps_to {b = x} {c = y} {d = z} t j p) used = by_block (slice_get blocks x) refl t j (path-marked y z p used)
    where
      by_block : (o : Option GraphBlock) → slice_get blocks x ≡ o → test_at (keeps v) o → Contains (jumps_at o) y → is_live y ≡ true → is_live x ≡ true
      by_block None e keep jump there = absurd keep
      by_block (Some block) e keep jump there =
          let onward = and-both (keeps v block) (any_mark full.marks (jumps block)) keep (marked-jump full.marks (jumps block) y jump there) in
          closed x block e (or-right (is_in v (uses block)) (keeps v block && any_mark full.marks (jumps block)) onward)

  live-is : (b : ℕ) → (is_live b ≡ true) ↔ Live blocks v b
  live-is b = (full.sound b, λ h. path-marked b h.0 h.1 h.2)

-- the numbers from `low` on that pass a test, of as many as are given
unfoldable passing : (ℕ → Bool) → ℕ → ℕ → List ℕ
passing test low zero = []
passing test low (suc k) = if test low then low ∷ passing test (low + 1) k else passing test (low + 1) k

module _ (test : ℕ → Bool) where
  passing-below : (x low k : ℕ) → x < low → IsBelow x (passing test low k)
  unfolding passing
  passing-below x low zero l = tt
  passing-below x low (suc k) l = elim (cases_Bool (test low)) [
    | inl e ↦ rw e l
    | inr e ↦ rw e (passing-below x (low + 1) k (omega (arith, l)))
  ]

  passing-ascends : (low k : ℕ) → IsAscending (passing test low k)
  unfolding passing
  passing-ascends low zero = tt
  passing-ascends low (suc k) = elim (cases_Bool (test low)) [
    | inl e ↦ rw e (passing-below low (low + 1) k (omega arith), passing-ascends (low + 1) k)
    | inr e ↦ rw e (passing-ascends (low + 1) k)
  ]

  passing-passes : (low k v : ℕ) → is_in v (passing test low k) ≡ true → test v ≡ true
  unfolding passing
  passing-passes low zero v h = absurd (false≢true h)
  passing-passes low (suc k) v h = elim (cases_Bool (test low)) [
    | inl e ↦ elim (eqb_tells low v) [
      | inl same ↦ subst (λ n. test n ≡ true) same.1 e
      | inr other ↦ passing-passes (low + 1) k v (rw (e, other.0) at h)
    ]
    | inr e ↦ passing-passes (low + 1) k v (rw e at h)
  ]

  passing-has : (low k v : ℕ) → low ≤ v → v < low + k → test v ≡ true → is_in v (passing test low k) ≡ true
  unfolding passing
  passing-has low zero v a b h = absurd (omega (arith, a, b))
  passing-has low (suc k) v a b h = elim (eqb_tells low v) [
    | inl same ↦ rw (subst (λ n. test n ≡ true) (sym same.1) h, same.0) refl
    | inr other ↦
        let unlike = other.1 in
        let more = passing-has (low + 1) k v (omega (arith, a, unlike)) (omega (arith, b)) h in
        elim (cases_Bool (test low)) [ inl e ↦ rw (e, other.0) more | inr e ↦ rw e more ]
  ]

-- a number above all variables that blocks use
unfoldable above : List ℕ → ℕ
above [] = 0
above (x ∷ xs) = x + 1 + above xs

unfoldable above_all : List GraphBlock → ℕ
above_all [] = 0
above_all (block ∷ bs) = above (uses block) + above_all bs

in-above : (v : ℕ) (xs : List ℕ) → is_in v xs ≡ true → v < above xs
unfolding above
in-above v [] h = absurd (false≢true h)
in-above v (x ∷ xs) h = elim (eqb_tells x v) [
  | inl same ↦ let e = same.1 in omega (arith, e)
  | inr other ↦ let l = in-above v xs (rw other.0 at h) in omega (arith, l)
]

used-above : (v : ℕ) (bs : List GraphBlock) (c : ℕ) → is_in v (uses_at (slice_get bs c)) ≡ true → v < above_all bs
unfolding above_all
used-above v [] c h = absurd (false≢true h)
used-above v (block ∷ bs) zero h = let l = in-above v (uses block) h in omega (arith, l)
used-above v (block ∷ bs) (suc c) h = let l = used-above v bs c h in omega (arith, l)

module _ (blocks : List GraphBlock) where
  -- the variables that are live at a block
  live_set : ℕ → List ℕ
  live_set b = passing (λ v. is_live blocks v b) 0 (above_all blocks)

  live_set-ascends : (b : ℕ) → IsAscending (live_set b)
  unfolding live_set
  live_set-ascends b = passing-ascends (λ v. is_live blocks v b) 0 (above_all blocks)

  live_set-exact : (b v : ℕ) → (is_in v (live_set b) ≡ true) ↔ Live blocks v b
  unfolding live_set
  live_set-exact b v = (
    λ h. (live-is blocks v b).0 (passing-passes (λ v. is_live blocks v b) 0 (above_all blocks) v h),
    λ h. passing-has (λ v. is_live blocks v b) 0 (above_all blocks) v (omega arith) (let l = used-above v blocks h.0 h.2 in omega (arith, l)) ((live-is blocks v b).1 h),
  )

  unfoldable live_sets : ℕ → ℕ → List (List ℕ)
  live_sets low zero = []
  live_sets low (suc k) = live_set low ∷ live_sets (low + 1) k

  live_sets-length : (low k : ℕ) → length (live_sets low k) ≡ k
  unfolding live_sets
  live_sets-length low zero = refl
  live_sets-length low (suc k) = ap suc (live_sets-length (low + 1) k)

  live_sets-at : (low k b : ℕ) → b < k → set_at (live_sets low k) b ≡ live_set (low + b)
  unfolding live_sets
  live_sets-at low zero b l = absurd (omega (arith, l))
  live_sets-at low (suc k) zero l = ap live_set (omega arith)
  live_sets-at low (suc k) (suc b) l = live_sets-at (low + 1) k b (omega (arith, l)) ∙ ap live_set (omega arith)

  live_sets-ascend : (low k b : ℕ) → IsAscending (set_at (live_sets low k) b)
  unfolding live_sets
  live_sets-ascend low zero b = tt
  live_sets-ascend low (suc k) zero = live_set-ascends low
  live_sets-ascend low (suc k) (suc b) = live_sets-ascend (low + 1) k b

  pub some-answer : (sets : List (List ℕ)) × AreLiveSets blocks sets
  some-answer = (
    live_sets 0 (length blocks),
    record {
      each = live_sets-length 0 (length blocks);
      ascending = live_sets-ascend 0 (length blocks);
      exact = λ b v l.
          let same : set_at (live_sets 0 (length blocks)) b ≡ live_set b = live_sets-at 0 (length blocks) b l ∙ ap live_set (omega arith) in
          subst (λ s. (is_in v s ≡ true) ↔ Live blocks v b) (sym same) (live_set-exact b v);
    },
  )
