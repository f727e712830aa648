-- What one update of a set does.
use Rattle.std.proofs.Common.{◌≡◌, ◌≢◌, ◌⊎◌, inl, inr, ℕ, zero, suc, ◌-◌, ◌^◌, ◌<◌, ◌≤◌, Bool, true, false, ◌||◌, ◌&&◌}
use Rattle.std.proofs.Common.{not, Option, Some, None, List, [], ◌∷◌, length, slice_get, slice_set, Contains, refl, ap}
use Rattle.std.proofs.Common.{sym, ◌∙◌, subst, arith}
use Rattle.std.proofs.lemmas.Bool.Decides.{eqb_tells}
use Rattle.std.proofs.lemmas.List.Elements.{Contains-push, Contains-push_cases, Contains-append_cases, Contains-append_left, Contains-append_right}
use Rattle.ceal_flow.specs.Live.{uses_at, stmt_assigns, keeps, Live, AreLiveSets}
use Rattle.ceal_flow.specs.Paths.{Path, stays, jumps_to, jumps, jumps_at, test_at}
use Rattle.ceal_flow.specs.Sets.{is_in, is_that, IsAscending, set_at}
use Rattle.ceal_flow.specs.declared.block.GraphBlock.{GraphBlock}
use Rattle.ceal_flow.specs.declared.block.GraphBlock.TheVariants.{Done, Test, Act, Unreached}
use Rattle.ceal_live.specs.Rounds.{comes, IsClosed, Underway, room}

or-cases : (a b : Bool) → (a || b) ≡ true → (a ≡ true) ⊎ (b ≡ true)
or-cases true b e = inl refl
or-cases false b e = inr e

or-left : (a b : Bool) → a ≡ true → (a || b) ≡ true
or-left true b e = refl
or-left false b e = cc

or-right : (a b : Bool) → b ≡ true → (a || b) ≡ true
or-right true b e = refl
or-right false b e = e

and-left : (a b : Bool) → (a && b) ≡ true → a ≡ true
and-left true b e = refl
and-left false b e = cc

and-right : (a b : Bool) → (a && b) ≡ true → b ≡ true
and-right true b e = e
and-right false b e = cc

and-both : (a b : Bool) → a ≡ true → b ≡ true → (a && b) ≡ true
and-both true b h k = k
and-both false b h k = cc

-- lists of sets
abbrev Sets : Type 0
Sets = List (List ℕ)

set-same : (sets : Sets) (at : ℕ) (s : List ℕ) → at < length sets → set_at (slice_set sets at s) at ≡ s
set-same [] at s l = absurd (omega arith)
set-same (x ∷ xs) zero s l = refl
set-same (x ∷ xs) (suc at) s l = set-same xs at s (omega arith)

set-other : (sets : Sets) (at : ℕ) (s : List ℕ) (c : ℕ) → c ≢ at → set_at (slice_set sets at s) c ≡ set_at sets c
set-other [] at s c n = refl
set-other (x ∷ xs) zero s zero n = absurd (n refl)
set-other (x ∷ xs) zero s (suc c) n = refl
set-other (x ∷ xs) (suc at) s zero n = refl
set-other (x ∷ xs) (suc at) s (suc c) n = set-other xs at s c (λ e. n (ap suc e))

set-length : (sets : Sets) (at : ℕ) (s : List ℕ) → length (slice_set sets at s) ≡ length sets
set-length [] at s = refl
set-length (x ∷ xs) zero s = refl
set-length (x ∷ xs) (suc at) s = ap suc (set-length xs at s)

pub set-twice : (sets : Sets) (at : ℕ) (a b : List ℕ) → slice_set (slice_set sets at a) at b ≡ slice_set sets at b
set-twice [] at a b = refl
set-twice (x ∷ xs) zero a b = refl
set-twice (x ∷ xs) (suc at) a b = ap (λ ys. x ∷ ys) (set-twice xs at a b)

set-back : (sets : Sets) (at : ℕ) → at < length sets → slice_set sets at (set_at sets at) ≡ sets
set-back [] at l = absurd (omega arith)
set-back (x ∷ xs) zero l = refl
set-back (x ∷ xs) (suc at) l = ap (λ ys. x ∷ ys) (set-back xs at (omega arith))

room-set : (sets : Sets) (at : ℕ) (s : List ℕ) → at < length sets → length (set_at sets at) < length s → length s ≤ 2 ^ 32 → room (slice_set sets at s) < room sets
unfolding room
room-set [] at s l m few = absurd (omega arith)
room-set (x ∷ xs) zero s l m few = omega arith
room-set (x ∷ xs) (suc at) s l m few = let h = room-set xs at s (omega arith) m few in omega (arith, h)

module _ (w at : ℕ) (old : Sets) where
  -- the set that was taken out does not matter
  taken-less : (c : ℕ) → at < length old → is_in w (set_at (slice_set old at []) c) ≡ true → is_in w (set_at old c) ≡ true
  taken-less c l h = elim (eqb_tells c at) [
    | inl p ↦ let none : is_in w (set_at (slice_set old at []) c) ≡ false = rw (p.1, set-same old at [] l) refl in cc
    | inr p ↦ rw (set-other old at [] c p.1) at h
  ]

  taken-split : (c : ℕ) → is_in w (set_at old c) ≡ true → (is_in w (set_at (slice_set old at []) c) ≡ true) ⊎ (is_in w (set_at old at) ≡ true)
  taken-split c h = elim (eqb_tells c at) [
    | inl p ↦ inr (subst (λ x. is_in w (set_at old x) ≡ true) p.1 h)
    | inr p ↦ inl (rw (set-other old at [] c p.1) h)
  ]

  pub comes-less : (block : GraphBlock) → at < length old → comes (slice_set old at []) block w ≡ true → comes old block w ≡ true
  comes-less Done l h = h
  comes-less (Test test a b) l h = elim (or-cases (is_in w (set_at (slice_set old at []) a)) (is_in w (set_at (slice_set old at []) b)) h) [
    | inl e ↦ or-left (is_in w (set_at old a)) (is_in w (set_at old b)) (taken-less a l e)
    | inr e ↦ or-right (is_in w (set_at old a)) (is_in w (set_at old b)) (taken-less b l e)
  ]
  comes-less (Act s next) l h =
      let here = and-left (is_in w (set_at (slice_set old at []) next)) (not (is_that (stmt_assigns s) w)) h in
      let keep = and-right (is_in w (set_at (slice_set old at []) next)) (not (is_that (stmt_assigns s) w)) h in
      and-both (is_in w (set_at old next)) (not (is_that (stmt_assigns s) w)) (taken-less next l here) keep
  comes-less Unreached l h = h

  pub comes-split : (block : GraphBlock) → comes old block w ≡ true → (comes (slice_set old at []) block w ≡ true) ⊎ (is_in w (set_at old at) ≡ true)
  comes-split Done h = inl h
  comes-split (Test test a b) h = elim (or-cases (is_in w (set_at old a)) (is_in w (set_at old b)) h) [
    | inl e ↦ elim (taken-split a e) [
      | inl k ↦ inl (or-left (is_in w (set_at (slice_set old at []) a)) (is_in w (set_at (slice_set old at []) b)) k)
      | inr k ↦ inr k
    ]
    | inr e ↦ elim (taken-split b e) [
      | inl k ↦ inl (or-right (is_in w (set_at (slice_set old at []) a)) (is_in w (set_at (slice_set old at []) b)) k)
      | inr k ↦ inr k
    ]
  ]
  comes-split (Act s next) h =
      let keep = and-right (is_in w (set_at old next)) (not (is_that (stmt_assigns s) w)) h in
      elim (taken-split next (and-left (is_in w (set_at old next)) (not (is_that (stmt_assigns s) w)) h)) [
        | inl k ↦ inl (and-both (is_in w (set_at (slice_set old at []) next)) (not (is_that (stmt_assigns s) w)) k keep)
        | inr k ↦ inr k
      ]
  comes-split Unreached h = inl h

contains-one : (x c : ℕ) → Contains (x ∷ []) c → x ≡ c
contains-one x c h = elim (Contains-push_cases [] x c h) [ inl k ↦ absurd (let l = k.1 in omega (arith, l)) | inr e ↦ e ]

contains-two : (x y c : ℕ) → Contains (x ∷ y ∷ []) c → (x ≡ c) ⊎ (y ≡ c)
contains-two x y c h = elim (Contains-append_cases (x ∷ []) (y ∷ []) c h) [ inl k ↦ inl (contains-one x c k) | inr k ↦ inr (contains-one y c k) ]

module _ (blocks : List GraphBlock) (w : ℕ) where
  -- one jump more
  step-live : (at c : ℕ) (block : GraphBlock) → slice_get blocks at ≡ Some block → keeps w block ≡ true → Contains (jumps block) c → Live blocks w c → Live blocks w at
  step-live at c block look keep j h = (h.0, jumps_to (rw look keep) (rw look j) h.1, h.2)

  -- what reaches a block from sets of live variables is live there
  pub comes-live : (sets : Sets) → ((b v : ℕ) → is_in v (set_at sets b) ≡ true → Live blocks v b) → (at : ℕ) (block : GraphBlock) → slice_get blocks at ≡ Some block
      → comes sets block w ≡ true → Live blocks w at
  comes-live sets sound at Done look h = cc
  comes-live sets sound at (Test test a b) look h = elim (or-cases (is_in w (set_at sets a)) (is_in w (set_at sets b)) h) [
    | inl e ↦ step-live at a (Test test a b) look refl (Contains-append_left (a ∷ []) (b ∷ []) a (Contains-push [] a)) (sound a w e)
    | inr e ↦ step-live at b (Test test a b) look refl (Contains-append_right (a ∷ []) (b ∷ []) b (Contains-push [] b)) (sound b w e)
  ]
  comes-live sets sound at (Act s next) look h =
      let here = and-left (is_in w (set_at sets next)) (not (is_that (stmt_assigns s) w)) h in
      let keep = and-right (is_in w (set_at sets next)) (not (is_that (stmt_assigns s) w)) h in
      step-live at next (Act s next) look keep (Contains-push [] next) (sound next w here)
  comes-live sets sound at Unreached look h = cc

  -- what is in the set at the end of a jump reaches the block
  comes-from : (sets : Sets) (block : GraphBlock) (c : ℕ) → keeps w block ≡ true → Contains (jumps block) c → is_in w (set_at sets c) ≡ true → comes sets block w ≡ true
  comes-from sets Done c keep j h = let l = j.1 in absurd (omega (arith, l))
  comes-from sets (Test test a b) c keep j h = elim (contains-two a b c j) [
    | inl e ↦ or-left (is_in w (set_at sets a)) (is_in w (set_at sets b)) (subst (λ x. is_in w (set_at sets x) ≡ true) (sym e) h)
    | inr e ↦ or-right (is_in w (set_at sets a)) (is_in w (set_at sets b)) (subst (λ x. is_in w (set_at sets x) ≡ true) (sym e) h)
  ]
  comes-from sets (Act s next) c keep j h =
      let e = contains-one next c j in
      and-both (is_in w (set_at sets next)) (not (is_that (stmt_assigns s) w)) (subst (λ x. is_in w (set_at sets x) ≡ true) (sym e) h) keep
  comes-from sets Unreached c keep j h = let l = j.1 in absurd (omega (arith, l))

  closed-step : (sets : Sets) → ((b : ℕ) → IsClosed blocks sets b) → (b c : ℕ) (o : Option GraphBlock) → slice_get blocks b ≡ o → test_at (keeps w) o → Contains (jumps_at o) c
      → is_in w (set_at sets c) ≡ true → is_in w (set_at sets b) ≡ true
  closed-step sets closed b c None look t j h = absurd t
  closed-step sets closed b c (Some block) look t j h = closed b block w look (comes-from sets block c t j h)

  -- sets that are closed have all that is live
  path-in : (sets : Sets) → ((b : ℕ) → IsClosed blocks sets b) → ((b v : ℕ) → is_in v (uses_at (slice_get blocks b)) ≡ true → is_in v (set_at sets b) ≡ true)
      → (b c : ℕ) → Path blocks (keeps w) b c → is_in w (uses_at (slice_get blocks c)) ≡ true → is_in w (set_at sets b) ≡ true
  path-in sets closed used b c stays u = used b w u
  path-in sets closed used b c (jumps_to {b = x} {c = y} {d = z} t j p) u = closed-step sets closed x y (slice_get blocks x) refl t j (path-in sets closed used y c p u)

pub live-sets : (blocks : List GraphBlock) (sets : Sets) → Underway blocks sets → ((b : ℕ) → IsClosed blocks sets b) → AreLiveSets blocks sets
live-sets blocks sets u closed = record {
  each = u.each;
  ascending = u.ascending;
  exact = λ b v l. (u.sound b v, λ h. path-in blocks v sets closed u.used b h.0 h.1 h.2);
}

-- a set with what reaches its block is put in place of the old one
module _ (blocks : List GraphBlock) (old : Sets) (at : ℕ) (block : GraphBlock) (set : List ℕ) (u : Underway blocks old) (look : slice_get blocks at ≡ Some block)
    (within : at < length old) (ok : (w : ℕ) → is_in w set ≡ (is_in w (set_at old at) || comes (slice_set old at []) block w)) where
  put-used : (b v : ℕ) → is_in v (uses_at (slice_get blocks b)) ≡ true → is_in v (set_at (slice_set old at set) b) ≡ true
  put-used b v h = elim (eqb_tells b at) [
    | inl p ↦
        let was = subst (λ x. is_in v (set_at old x) ≡ true) p.1 (u.used b v h) in
        rw (p.1, set-same old at set within, ok v) (or-left (is_in v (set_at old at)) _ was)
    | inr p ↦ rw (set-other old at set b p.1) (u.used b v h)
  ]

  put-sound : (b v : ℕ) → is_in v (set_at (slice_set old at set) b) ≡ true → Live blocks v b
  put-sound b v h = elim (eqb_tells b at) [
    | inl p ↦
        let inside : is_in v set ≡ true = rw (p.1, set-same old at set within) at h in
        let here : Live blocks v at = elim (or-cases (is_in v (set_at old at)) (comes (slice_set old at []) block v) (sym (ok v) ∙ inside)) [
          | inl e ↦ u.sound at v e
          | inr e ↦ comes-live blocks v old u.sound at block look (comes-less v at old block within e)
        ] in
        subst (λ x. Live blocks v x) (sym p.1) here
    | inr p ↦ u.sound b v (rw (set-other old at set b p.1) at h)
  ]

  put-each : (P : List ℕ → Type 0) → P set → ((b : ℕ) → P (set_at old b)) → (b : ℕ) → P (set_at (slice_set old at set) b)
  put-each P here others b = elim (eqb_tells b at) [
    | inl p ↦ let same : set ≡ set_at (slice_set old at set) b = sym (rw (p.1, set-same old at set within) refl) in subst P same here
    | inr p ↦ let same : set_at old b ≡ set_at (slice_set old at set) b = sym (set-other old at set b p.1) in subst P same (others b)
  ]

  pub put-underway : IsAscending set → length set ≤ 2 ^ 32 → Underway blocks (slice_set old at set)
  put-underway ascending few = record {
    each = set-length old at set ∙ u.each;
    ascending = put-each (λ s. IsAscending s) ascending u.ascending;
    few = put-each (λ s. length s ≤ 2 ^ 32) few u.few;
    used = put-used;
    sound = put-sound;
  }

  pub put-same : set ≡ set_at old at → slice_set old at set ≡ old
  put-same e = rw e (set-back old at within)

  pub put-closed : set ≡ set_at old at → IsClosed blocks (slice_set old at set) at
  put-closed e other w other_is h =
      let same : block ≡ other = cc in
      let was : comes old block w ≡ true = rw (put-same e, ← same) at h in
      let inside : is_in w set ≡ true = elim (comes-split w at old block was) [
        | inl k ↦ ok w ∙ or-right (is_in w (set_at old at)) (comes (slice_set old at []) block w) k
        | inr k ↦ ok w ∙ or-left (is_in w (set_at old at)) (comes (slice_set old at []) block w) k
      ] in
      rw (set-same old at set within) inside

  pub put-more : length (set_at old at) < length set → length set ≤ 2 ^ 32 → room (slice_set old at set) < room old
  put-more l few = room-set old at set within l few

-- one update more in a round
neither : (a b : Bool) → (a || b) ≡ false → (a ≡ false) × (b ≡ false)
neither true b e = cc
neither false b e = (refl, e)

pub turn-same : (a b : Bool) (first cur new : Sets) → (a ≡ false → cur ≡ first) → (b ≡ false → new ≡ cur) → (a || b) ≡ false → new ≡ first
turn-same a b first cur new h k e = let n = neither a b e in k n.1 ∙ h n.0

pub turn-closed : (blocks : List GraphBlock) (a b : Bool) (cur new : Sets) (at : ℕ) → (a ≡ false → (k : ℕ) → at ≤ k → IsClosed blocks cur k)
    → (b ≡ false → new ≡ cur) → (b ≡ false → IsClosed blocks new (at - 1)) → (a || b) ≡ false → (k : ℕ) → at - 1 ≤ k → IsClosed blocks new k
turn-closed blocks a b cur new at before same here e k l =
    let n = neither a b e in
    elim (eqb_tells k (at - 1)) [
      | inl p ↦ subst (λ x. IsClosed blocks new x) (sym p.1) (here n.1)
      | inr p ↦
          let q = p.1 in
          let far : at ≤ k = omega (arith, q, l) in
          subst (λ x. IsClosed blocks x k) (sym (same n.1)) (before n.0 k far)
    ]

pub turn-more : (a b : Bool) (first cur new : Sets) → (a ≡ false → cur ≡ first) → (a ≡ true → room cur < room first) → (b ≡ false → new ≡ cur)
    → (b ≡ true → room new < room cur) → (a || b) ≡ true → room new < room first
turn-more true true first cur new same more still less e = let x = more refl in let y = less refl in omega (arith, x, y)
turn-more true false first cur new same more still less e = rw (still refl) (more refl)
turn-more false true first cur new same more still less e = rw (same refl) at (less refl)
turn-more false false first cur new same more still less e = cc
