-- A search breadth first: which blocks it has met, by which paths, and what it has still to look at.
use Rattle.std.proofs.Common.{◌≡◌, ℕ, ◌+◌, ◌<◌, ◌≤◌, Bool, true, false, ◌||◌, List, [], ◌∷◌, ◌++◌, Some, None, refl, sym, ap, ◌∙◌, subst, arith, inl, inr, append_assoc}
use Rattle.std.specs.Prelude.{◌⊎◌, IsSome}
use Rattle.std.proofs.lemmas.Bool.{false≢true, cases_lt}
use Rattle.ceal_base.specs.declared.word.BlockId.{BlockId}
use Rattle.ceal_show.specs.Paths.{same_block, is_in, target_at, IsPath, IsLess, IsBelow, AreRising}
use Rattle.ceal_show.specs.Shown.{Shown}
use Rattle.ceal_show.proofs.PathOrder.{IsAtMost, less_trans, less_append, less_last, less_more}
use Rattle.ceal_show.proofs.Same.{same_tells}

-- a block and the path by which it was met
pub record Visit : Type 0 where
  pub block : BlockId
  pub path : List ℕ

abbrev pub visit : BlockId → List ℕ → Visit
visit block path = record { block = block; path = path }

abbrev pub blocks_of : List Visit → List BlockId
blocks_of [] = []
blocks_of (v ∷ vs) = v.block ∷ blocks_of vs

abbrev pub paths_of : List Visit → List (List ℕ)
paths_of [] = []
paths_of (v ∷ vs) = v.path ∷ paths_of vs

abbrev pub Among : Visit → List Visit → Type 0
Among v [] = ⊥
Among v (w ∷ ws) = (v ≡ w) ⊎ Among v ws

-- the block was met by a path that is not larger
pub record Meets (all : List Visit) (b : BlockId) (path : List ℕ) : Type 0 where
  pub by : Visit
  pub among : Among by all
  pub same : by.block ≡ b
  pub least : IsAtMost by.path path

-- The blocks of `all` were met by rising paths, each of them once.
pub record Sound (memory : Shown) (root : BlockId) (all : List Visit) : Type 0 where
  pub start : Among (visit root []) all
  pub there : (v : Visit) → Among v all → IsSome (memory v.block)
  pub leads : (v : Visit) → Among v all → IsPath memory root v.path v.block
  pub rising : AreRising (paths_of all)
  pub once : (v w : Visit) → Among v all → Among w all → v.block ≡ w.block → v.path ≡ w.path

-- The fields of the visits that are done lead to blocks that were met; what waits is not looked at.
pub record Searched (memory : Shown) (root : BlockId) (done waiting : List Visit) : Type 0 where
  pub sound : Sound memory root (done ++ waiting)
  pub closed : (v : Visit) → Among v done → (field : ℕ) (b : BlockId) → target_at memory v.block field ≡ Some b → Meets (done ++ waiting) b (v.path ++ field ∷ [])
  pub ahead : (v : Visit) → Among v waiting → (w : Visit) → Among w (done ++ waiting) → (field : ℕ) → IsLess w.path (v.path ++ field ∷ [])

-- The same, where the fields below `at` of the visit `here` are looked at too.
pub record Visiting (memory : Shown) (root : BlockId) (done : List Visit) (here : Visit) (at : ℕ) (waiting : List Visit) : Type 0 where
  pub sound : Sound memory root (done ++ here ∷ waiting)
  pub closed : (v : Visit) → Among v done → (field : ℕ) (b : BlockId) → target_at memory v.block field ≡ Some b → Meets (done ++ here ∷ waiting) b (v.path ++ field ∷ [])
  pub closed_here : (field : ℕ) (b : BlockId) → field < at → target_at memory here.block field ≡ Some b → Meets (done ++ here ∷ waiting) b (here.path ++ field ∷ [])
  pub ahead : (v : Visit) → Among v waiting → (w : Visit) → Among w (done ++ here ∷ waiting) → (field : ℕ) → IsLess w.path (v.path ++ field ∷ [])
  pub ahead_here : (w : Visit) → Among w (done ++ here ∷ waiting) → (field : ℕ) → at ≤ field → IsLess w.path (here.path ++ field ∷ [])

below_or_at : (field at : ℕ) → field < at + 1 → (field < at) ⊎ (field ≡ at)
below_or_at field at h = elim (cases_lt field at) [ inl k ↦ inl k | inr k ↦ inr (omega (arith, h)) ]

-- Lists of visits.
pub among_left : (v : Visit) (a b : List Visit) → Among v a → Among v (a ++ b)
among_left v [] b h = absurd h
among_left v (w ∷ a) b (inl e) = inl e
among_left v (w ∷ a) b (inr h) = inr (among_left v a b h)

pub among_right : (v : Visit) (a b : List Visit) → Among v b → Among v (a ++ b)
among_right v [] b h = h
among_right v (w ∷ a) b h = inr (among_right v a b h)

among_parts : (v : Visit) (a b : List Visit) → Among v (a ++ b) → Among v a ⊎ Among v b
among_parts v [] b h = inr h
among_parts v (w ∷ a) b (inl e) = inl (inl e)
among_parts v (w ∷ a) b (inr h) = elim (among_parts v a b h) [ inl k ↦ inl (inr k) | inr k ↦ inr k ]

among_here : (v : Visit) (a b : List Visit) → Among v (a ++ v ∷ b)
among_here v a b = among_right v a (v ∷ b) (inl refl)

pub blocks_of-append : (a b : List Visit) → blocks_of (a ++ b) ≡ blocks_of a ++ blocks_of b
blocks_of-append [] b = refl
blocks_of-append (v ∷ a) b = ap (λ (l : List BlockId). v.block ∷ l) (blocks_of-append a b)

-- a block that is in the list was visited
pub visited : (all : List Visit) (b : BlockId) → is_in b (blocks_of all) ≡ true → (v : Visit) × Among v all × (v.block ≡ b)
visited [] b h = absurd (false≢true h)
visited (w ∷ all) b h = elim (same_tells b w.block) [
  | inl p ↦ (w, inl refl, sym p.1)
  | inr p ↦ let r = visited all b (rw p.0 at h) in (r.0, inr r.1, r.2)
]

pub is_in-visit : (all : List Visit) (v : Visit) → Among v all → is_in v.block (blocks_of all) ≡ true
is_in-visit [] v h = absurd h
is_in-visit (w ∷ all) v (inl e) = elim (same_tells v.block w.block) [
  | inl p ↦ rw p.0 refl
  | inr p ↦ absurd (p.1 (ap (λ (x : Visit). x.block) e))
]
is_in-visit (w ∷ all) v (inr h) = or_true (same_block v.block w.block) (is_in v.block (blocks_of all)) (is_in-visit all v h)
  where
    or_true : (x y : Bool) → y ≡ true → (x || y) ≡ true
    or_true true y e = refl
    or_true false y e = e

-- Rising paths.
rising_above : (p : List ℕ) (all : List Visit) → IsBelow p (paths_of all) → AreRising (paths_of all) → (v : Visit) → Among v all → IsLess p v.path
rising_above p [] h r v k = absurd k
rising_above p (w ∷ all) h r v (inl e) = subst (λ (x : Visit). IsLess p x.path) (sym e) h
rising_above p (w ∷ all) h r v (inr k) = less_trans p w.path v.path h (rising_above w.path all r.0 r.1 v k)

pub rising_behind : (a : List Visit) (v : Visit) (b : List Visit) → AreRising (paths_of (a ++ v ∷ b)) → (w : Visit) → Among w b → IsLess v.path w.path
rising_behind [] v b r w h = rising_above v.path b r.0 r.1 w h
rising_behind (x ∷ a) v b r w h = rising_behind a v b r.1 w h

rising_push : (all : List Visit) (v : Visit) → AreRising (paths_of all) → ((w : Visit) → Among w all → IsLess w.path v.path) → AreRising (paths_of (all ++ v ∷ []))
rising_push [] v r h = (tt, tt)
rising_push (w ∷ []) v r h = (h w (inl refl), (tt, tt))
rising_push (w ∷ x ∷ all) v r h = (r.0, rising_push (x ∷ all) v r.1 (λ y k. h y (inr k)))

-- Leading.
pub leads_more : (memory : Shown) (path : List ℕ) (a b c : BlockId) (field : ℕ) → IsPath memory a path b → target_at memory b field ≡ Some c → IsPath memory a (path ++ field ∷ []) c
unfolding IsPath
leads_more memory [] a b c field h e = (c, subst (λ (x : BlockId). target_at memory x field ≡ Some c) (sym h) e, refl)
leads_more memory (f ∷ path) a b c field h e = (h.0, h.1, leads_more memory path h.0 b c field h.2 e)

module _ (memory : Shown) (root : BlockId) where
  -- one more block is met
  sound_more : (all : List Visit) (v : Visit) → Sound memory root all → is_in v.block (blocks_of all) ≡ false → IsSome (memory v.block) → IsPath memory root v.path v.block
      → ((w : Visit) → Among w all → IsLess w.path v.path) → Sound memory root (all ++ v ∷ [])
  sound_more all v s out there leads below = record {
    start = among_left (visit root []) all (v ∷ []) s.start;
    there = λ w h. elim (among_parts w all (v ∷ []) h) [
      | inl k ↦ s.there w k
      | inr (inl e) ↦ subst (λ (x : Visit). IsSome (memory x.block)) (sym e) there
      | inr (inr k) ↦ absurd k
    ];
    leads = λ w h. elim (among_parts w all (v ∷ []) h) [
      | inl k ↦ s.leads w k
      | inr (inl e) ↦ subst (λ (x : Visit). IsPath memory root x.path x.block) (sym e) leads
      | inr (inr k) ↦ absurd k
    ];
    rising = rising_push all v s.rising below;
    once = once;
  }
    where
      new_block : (w : Visit) → Among w all → w.block ≡ v.block → ⊥
      new_block w h e = false≢true (sym out ∙ ap (λ (b : BlockId). is_in b (blocks_of all)) (sym e) ∙ is_in-visit all w h)

      once : (w x : Visit) → Among w (all ++ v ∷ []) → Among x (all ++ v ∷ []) → w.block ≡ x.block → w.path ≡ x.path
      once w x h k e = elim (among_parts w all (v ∷ []) h) [
        | inl p ↦ elim (among_parts x all (v ∷ []) k) [
          | inl q ↦ s.once w x p q e
          | inr (inl f) ↦ absurd (new_block w p (e ∙ ap (λ (y : Visit). y.block) f))
          | inr (inr q) ↦ absurd q
        ]
        | inr (inl g) ↦ elim (among_parts x all (v ∷ []) k) [
          | inl q ↦ absurd (new_block x q (sym e ∙ ap (λ (y : Visit). y.block) g))
          | inr (inl f) ↦ ap (λ (y : Visit). y.path) (g ∙ sym f)
          | inr (inr q) ↦ absurd q
        ]
        | inr (inr p) ↦ absurd p
      ]

  meets_more : (all more : List Visit) (b : BlockId) (path : List ℕ) → Meets all b path → Meets (all ++ more) b path
  meets_more all more b path m = record { by = m.by; among = among_left m.by all more m.among; same = m.same; least = m.least }

  pub begin : (done : List Visit) (here : Visit) (waiting : List Visit) → Searched memory root done (here ∷ waiting) → Visiting memory root done here 0 waiting
  begin done here waiting s = record {
    sound = s.sound;
    closed = s.closed;
    closed_here = λ field b h e. absurd (omega (arith, h));
    ahead = λ v h w k field. s.ahead v (inr h) w k field;
    ahead_here = λ w k field h. s.ahead here (inl refl) w k field;
  }

  module _ (done : List Visit) (here : Visit) (at : ℕ) (waiting : List Visit) (s : Visiting memory root done here at waiting) where
    -- the field leads nowhere
    pub skip : target_at memory here.block at ≡ None → Visiting memory root done here (at + 1) waiting
    skip e = record {
      sound = s.sound;
      closed = s.closed;
      closed_here = λ field b h f. elim (below_or_at field at h) [
        | inl k ↦ s.closed_here field b k f
        | inr k ↦ absurd (let g : Some b ≡ None = sym f ∙ ap (target_at memory here.block) k ∙ e in cc)
      ];
      ahead = s.ahead;
      ahead_here = λ w k field h. s.ahead_here w k field (omega (arith, h));
    }

    -- it leads to a block that was met
    pub pass : (b : BlockId) → target_at memory here.block at ≡ Some b → is_in b (blocks_of (done ++ here ∷ waiting)) ≡ true → Visiting memory root done here (at + 1) waiting
    pass b e known = record {
      sound = s.sound;
      closed = s.closed;
      closed_here = λ field c h f. elim (below_or_at field at h) [
        | inl k ↦ s.closed_here field c k f
        | inr k ↦
            let g : Some b ≡ Some c = sym e ∙ ap (target_at memory here.block) (sym k) ∙ f in
            let same : b ≡ c = cc in
            let v = visited (done ++ here ∷ waiting) b known in
            record { by = v.0; among = v.1; same = v.2 ∙ same; least = inr (s.ahead_here v.0 v.1 field (omega (arith, k))) }
      ];
      ahead = s.ahead;
      ahead_here = λ w k field h. s.ahead_here w k field (omega (arith, h));
    }

    -- it leads to a block that is met now
    pub meet : (b : BlockId) → target_at memory here.block at ≡ Some b → is_in b (blocks_of (done ++ here ∷ waiting)) ≡ false → IsSome (memory b)
        → Visiting memory root done here (at + 1) (waiting ++ visit b (here.path ++ at ∷ []) ∷ [])
    meet b e out there = record {
      sound = at_end (Sound memory root) (sound_more all new s.sound out there
          (leads_more memory here.path root here.block b at (s.sound.leads here here_in) e)
          (λ w h. s.ahead_here w h at (omega arith)));
      closed = λ v h field c f. at_end (λ (l : List Visit). Meets l c (v.path ++ field ∷ [])) (meets_more all (new ∷ []) c (v.path ++ field ∷ []) (s.closed v h field c f));
      closed_here = λ field c h f. at_end (λ (l : List Visit). Meets l c (here.path ++ field ∷ [])) (by_field field c h f);
      ahead = λ v h w k field. before_waiting v (among_parts v waiting (new ∷ []) h) w (among_parts w all (new ∷ []) (subst (Among w) (sym same_end) k)) field;
      ahead_here = λ w k field h. before_here w (among_parts w all (new ∷ []) (subst (Among w) (sym same_end) k)) field h;
    }
      where
        all : List Visit
        all = done ++ here ∷ waiting

        new : Visit
        new = visit b (here.path ++ at ∷ [])

        here_in : Among here all
        here_in = among_here here done waiting

        same_end : all ++ new ∷ [] ≡ done ++ here ∷ (waiting ++ new ∷ [])
        same_end = append_assoc done (here ∷ waiting) (new ∷ [])

        at_end : (P : List Visit → Type 0) → P (all ++ new ∷ []) → P (done ++ here ∷ (waiting ++ new ∷ []))
        at_end P h = subst P same_end h

        by_field : (field : ℕ) (c : BlockId) → field < at + 1 → target_at memory here.block field ≡ Some c → Meets (all ++ new ∷ []) c (here.path ++ field ∷ [])
        by_field field c h f = elim (below_or_at field at h) [
          | inl k ↦ meets_more all (new ∷ []) c (here.path ++ field ∷ []) (s.closed_here field c k f)
          | inr k ↦
              let g : Some b ≡ Some c = sym e ∙ ap (target_at memory here.block) (sym k) ∙ f in
              let same : b ≡ c = cc in
              record { by = new; among = among_right new all (new ∷ []) (inl refl); same = same; least = inl (ap (λ (n : ℕ). here.path ++ n ∷ []) (sym k)) }
        ]

        before_waiting : (v : Visit) → Among v waiting ⊎ Among v (new ∷ []) → (w : Visit) → Among w all ⊎ Among w (new ∷ []) → (field : ℕ) → IsLess w.path (v.path ++ field ∷ [])
        before_waiting v (inl h) w (inl k) field = s.ahead v h w k field
        before_waiting v (inl h) w (inr (inl k)) field =
            subst (λ (x : Visit). IsLess x.path (v.path ++ field ∷ [])) (sym k)
            (less_append here.path v.path (at ∷ []) (field ∷ []) refl (rising_behind done here waiting s.sound.rising v h))
        before_waiting v (inl h) w (inr (inr k)) field = absurd k
        before_waiting v (inr (inl h)) w (inl k) field =
            subst (λ (x : Visit). IsLess w.path (x.path ++ field ∷ [])) (sym h) (less_trans w.path new.path (new.path ++ field ∷ []) (s.ahead_here w k at (omega arith)) (less_more new.path field))
        before_waiting v (inr (inl h)) w (inr (inl k)) field =
            subst (λ (x : Visit). IsLess w.path (x.path ++ field ∷ [])) (sym h) (subst (λ (x : Visit). IsLess x.path (new.path ++ field ∷ [])) (sym k) (less_more new.path field))
        before_waiting v (inr (inl h)) w (inr (inr k)) field = absurd k
        before_waiting v (inr (inr h)) w k field = absurd h

        before_here : (w : Visit) → Among w all ⊎ Among w (new ∷ []) → (field : ℕ) → at + 1 ≤ field → IsLess w.path (here.path ++ field ∷ [])
        before_here w (inl k) field h = s.ahead_here w k field (omega (arith, h))
        before_here w (inr (inl k)) field h = subst (λ (x : Visit). IsLess x.path (here.path ++ field ∷ [])) (sym k) (less_last here.path at field (omega (arith, h)))
        before_here w (inr (inr k)) field h = absurd k

    -- all fields are looked at
    pub finish : ((field : ℕ) → at ≤ field → target_at memory here.block field ≡ None) → Searched memory root (done ++ here ∷ []) waiting
    finish none = record {
      sound = at_end (Sound memory root) s.sound;
      closed = λ v h field b e. at_end (λ (l : List Visit). Meets l b (v.path ++ field ∷ [])) (by_visit v (among_parts v done (here ∷ []) h) field b e);
      ahead = λ v h w k field. s.ahead v h w (subst (Among w) (sym same_end) k) field;
    }
      where
        same_end : done ++ here ∷ waiting ≡ (done ++ here ∷ []) ++ waiting
        same_end = sym (append_assoc done (here ∷ []) waiting)

        at_end : (P : List Visit → Type 0) → P (done ++ here ∷ waiting) → P ((done ++ here ∷ []) ++ waiting)
        at_end P h = subst P same_end h

        by_field : (field : ℕ) (b : BlockId) → target_at memory here.block field ≡ Some b → Meets (done ++ here ∷ waiting) b (here.path ++ field ∷ [])
        by_field field b e = elim (cases_lt field at) [
          | inl k ↦ s.closed_here field b k e
          | inr k ↦ absurd (let g : Some b ≡ None = sym e ∙ none field k in cc)
        ]

        by_visit : (v : Visit) → Among v done ⊎ Among v (here ∷ []) → (field : ℕ) (b : BlockId) → target_at memory v.block field ≡ Some b → Meets (done ++ here ∷ waiting) b (v.path ++ field ∷ [])
        by_visit v (inl h) field b e = s.closed v h field b e
        by_visit v (inr (inl h)) field b e = subst
            (λ (x : Visit). Meets (done ++ here ∷ waiting) b (x.path ++ field ∷ [])) (sym h)
            (by_field field b (subst (λ (x : Visit). target_at memory x.block field ≡ Some b) h e))
        by_visit v (inr (inr h)) field b e = absurd h
