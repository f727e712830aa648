-- What keeps the reads that are not honest covered by the queue.
use Rattle.std.proofs.Common.{◌≡◌, ℕ, ◌==◌, ◌||◌, Bool, true, false, if◌then◌else◌, Option, Some, None, List, ◌⊎◌, inl, inr, refl, sym, ◌∙◌, subst, arith}
use Rattle.std.specs.Prelude.{⊤}
use Rattle.ceal_base.specs.Operators.{same_place}
use Rattle.ceal_base.specs.declared.forest.Item.TheVariants.{Step, Alloc, Write, Read, End}
use Rattle.ceal_base.specs.declared.forest.Key.{Key}
use Rattle.ceal_base.specs.declared.word.BlockId.{BlockId}
use Rattle.ceal_base.specs.declared.word.Place.{Place}
use Rattle.ceal_base.specs.declared.word.Word.{Word}
use Rattle.ceal_code.proofs.Words.SameIsEqual.{place-same, place-refl, nat-refl}
use Rattle.ceal_code.specs.Program.{Code}
use Rattle.ceal_code.specs.Replay.{Store, cleared, stored}
use Rattle.ceal_theory.proofs.Store.EqualContents.{stored-equal, cleared-equal}
use Rattle.ceal_theory.specs.Cover.{waits_after, Queued, MoreOn, Nodes, Nil, Node, items_of, before, Queue, Waiting}
use Rattle.ceal_theory.specs.Cover.{none_waits, waiting_after_write, waiting_after_read, Covered, first_read, with_queued, without, NoneQueued}
use Rattle.ceal_theory.specs.Cover.{Absent}
use Rattle.ceal_theory.specs.Walk.{store_after, AgreesAll}

-- at each place the same content and no less waiting, or a queued read waits
abbrev pub Less : Store → Waiting → Store → Waiting → Type 0
Less s w s' w' = (r : Place) → ((s r ≡ s' r) × (w r ≡ true → w' r ≡ true)) ⊎ (w' r ≡ true)

or-left : (a b : Bool) → a ≡ true → (a || b) ≡ true
or-left true b e = refl
or-left false b e = absurd (grind (arith, e))

or-right : (a b : Bool) → b ≡ true → (a || b) ≡ true
or-right true b e = refl
or-right false b e = e

or-both : (a b c d : Bool) → (a ≡ true → c ≡ true) → (b ≡ true → d ≡ true) → (a || b) ≡ true → (c || d) ≡ true
or-both true b c d f g e = or-left c d (f refl)
or-both false b c d f g e = or-right c d (g e)

opened-at : (w : Waiting) (p : Place) (b : Bool) → waiting_after_read w p b p ≡ (w p || b)
unfolding waiting_after_read
opened-at w p b = rw (place-refl p) refl

opened-if : (t : Bool) (a b : Bool) → a ≡ true → (if t then a || b else a) ≡ true
opened-if true a b e = or-left a b e
opened-if false a b e = e

pub opened-keeps : (w : Waiting) (p : Place) (b : Bool) (r : Place) → w r ≡ true → waiting_after_read w p b r ≡ true
unfolding waiting_after_read
opened-keeps w p b r e = opened-if (same_place r p) (w r) b e

opened-more : (w w' : Waiting) (p : Place) (b b' : Bool) (r : Place) → (w r ≡ true → w' r ≡ true) → (b ≡ true → b' ≡ true) → waiting_after_read w p b r ≡ true → waiting_after_read w' p b' r ≡ true
unfolding waiting_after_read
opened-more w w' p b b' r f g e = go (same_place r p) e
  where
    go : (t : Bool) → (if t then w r || b else w r) ≡ true → (if t then w' r || b' else w' r) ≡ true
    go true e = or-both (w r) b (w' r) b' f g e
    go false e = f e

less-opened : (s s' : Store) (w w' : Waiting) (p : Place) (b b' : Bool) → Less s w s' w' → (b ≡ true → b' ≡ true) → Less s (waiting_after_read w p b) s' (waiting_after_read w' p b')
less-opened s s' w w' p b b' h g r = go (h r)
  where
    go : ((s r ≡ s' r) × (w r ≡ true → w' r ≡ true)) ⊎ (w' r ≡ true)
        → ((s r ≡ s' r) × (waiting_after_read w p b r ≡ true → waiting_after_read w' p b' r ≡ true)) ⊎ (waiting_after_read w' p b' r ≡ true)
    go (inl k) = inl (k.0, λ e. opened-more w w' p b b' r k.1 g e)
    go (inr e) = inr (opened-keeps w' p b' r e)

less-cleared : (code : Code) (s s' : Store) (w w' : Waiting) (b : BlockId) (key : Key) → Less s w s' w' → Less (cleared code s b key) w (cleared code s' b key) w'
less-cleared code s s' w w' b key h r = go (h r)
  where
    go : ((s r ≡ s' r) × (w r ≡ true → w' r ≡ true)) ⊎ (w' r ≡ true) → ((cleared code s b key r ≡ cleared code s' b key r) × (w r ≡ true → w' r ≡ true)) ⊎ (w' r ≡ true)
    go (inl k) = inl (cleared-equal code s s' b key r k.0, k.1)
    go (inr e) = inr e

less-stored : (s s' : Store) (w w' : Waiting) (p : Place) (value : Word) → ((r : Place) → same_place r p ≡ false → ((s r ≡ s' r) × (w r ≡ true → w' r ≡ true)) ⊎ (w' r ≡ true))
    → Less (stored s p value) (waiting_after_write w p) (stored s' p value) (waiting_after_write w' p)
unfolding stored waiting_after_write
less-stored s s' w w' p value h r = go (same_place r p) (h r)
  where
    go : (t : Bool) → (t ≡ false → ((s r ≡ s' r) × (w r ≡ true → w' r ≡ true)) ⊎ (w' r ≡ true))
        → (((if t then value else s r) ≡ (if t then value else s' r)) × ((if t then false else w r) ≡ true → (if t then false else w' r) ≡ true)) ⊎ ((if t then false else w' r) ≡ true)
    go true k = inl (refl, λ e. e)
    go false k = k refl

read-less : (s s' : Store) (w w' : Waiting) (p : Place) (value : Word) (b b' : Bool) → Less s w s' w' → (b ≡ true → b' ≡ true)
    → ((s p ≡ value) ⊎ (waiting_after_read w p b p ≡ true)) → ((s' p ≡ value) ⊎ (waiting_after_read w' p b' p ≡ true))
read-less s s' w w' p value b b' h g k = go (h p) k
  where
    go : ((s p ≡ s' p) × (w p ≡ true → w' p ≡ true)) ⊎ (w' p ≡ true) → ((s p ≡ value) ⊎ (waiting_after_read w p b p ≡ true)) → ((s' p ≡ value) ⊎ (waiting_after_read w' p b' p ≡ true))
    go (inl i) (inl e) = inl (sym i.0 ∙ e)
    go (inl i) (inr e) = inr (opened-more w w' p b b' p i.1 g e)
    go (inr i) k = inr (opened-keeps w' p b' p i)

module _ (code : Code) where
  pub covered-less : (q q' : Queue) (l : Nodes) → MoreOn q q' l → (s s' : Store) (w w' : Waiting) → Less s w s' w' → Covered code q s w l → Covered code q' s' w' l
  covered-less q q' Nil m s s' w w' h c = c
  covered-less q q' (Node n Step rest) m s s' w w' h c = covered-less q q' rest m.1 s s' w w' h c
  covered-less q q' (Node n (Alloc b key) rest) m s s' w w' h c = covered-less q q' rest m.1 (cleared code s b key) (cleared code s' b key) w w' (less-cleared code s s' w w' b key h) c
  covered-less q q' (Node n (Write p value) rest) m s s' w w' h c =
      covered-less q q' rest m.1 (stored s p value) (stored s' p value) (waiting_after_write w p) (waiting_after_write w' p) (less-stored s s' w w' p value (λ r e. h r)) c
  covered-less q q' (Node n (Read p value u v args) rest) m s s' w w' h c = (
    read-less s s' w w' p value (q n) (q' n) h m.0 c.0,
    covered-less q q' rest m.1 s s' (waiting_after_read w p (q n)) (waiting_after_read w' p (q' n))
        (less-opened s s' w w' p (q n) (q' n) h m.0) c.1,
  )
  covered-less q q' (Node n End rest) m s s' w w' h c = covered-less q q' rest m.1 s s' w w' h c

  queued-more : (q : Queue) (o : Option ℕ) (n : ℕ) → q n ≡ true → with_queued q o n ≡ true
  unfolding with_queued
  queued-more q None n e = e
  queued-more q (Some m) n e = or-left (q n) (n == m) e

  queued-on : (q : Queue) (o : Option ℕ) (l : Nodes) → MoreOn q (with_queued q o) l
  queued-on q o Nil = tt
  queued-on q o (Node n i rest) = (queued-more q o n, queued-on q o rest)

  queued-it : (q : Queue) (n : ℕ) → with_queued q (Some n) n ≡ true
  unfolding with_queued
  queued-it q n = or-right (q n) (n == n) (nat-refl n)

  -- at each other place the same content and no less waiting
  abbrev Off : Place → Store → Waiting → Store → Waiting → Type 0
  Off p s w s' w' = (r : Place) → same_place r p ≡ false → (s r ≡ s' r) × (w r ≡ true → w' r ≡ true)

  off-cleared : (p : Place) (s s' : Store) (w w' : Waiting) (b : BlockId) (key : Key) → Off p s w s' w' → Off p (cleared code s b key) w (cleared code s' b key) w'
  off-cleared p s s' w w' b key h r e = let k = h r e in (cleared-equal code s s' b key r k.0, k.1)

  off-stored : (p : Place) (s s' : Store) (w w' : Waiting) (x : Place) (value : Word) → Off p s w s' w'
      → Off p (stored s x value) (waiting_after_write w x) (stored s' x value) (waiting_after_write w' x)
  unfolding waiting_after_write
  off-stored p s s' w w' x value h r e = let k = h r e in (stored-equal s s' x value r k.0, go (same_place r x) k.1)
    where
      go : (t : Bool) → (w r ≡ true → w' r ≡ true) → (if t then false else w r) ≡ true → (if t then false else w' r) ≡ true
      go true f i = i
      go false f i = f i

  off-opened : (p : Place) (s s' : Store) (w w' : Waiting) (x : Place) (b b' : Bool) → Off p s w s' w' → (b ≡ true → b' ≡ true) → Off p s (waiting_after_read w x b) s' (waiting_after_read w' x b')
  off-opened p s s' w w' x b b' h g r e = let k = h r e in (k.0, λ i. opened-more w w' x b b' r k.1 g i)

  -- a read of the place itself: it is queued now
  off-here : (p x : Place) (s s' : Store) (w w' : Waiting) (b b' : Bool) → same_place x p ≡ true → Off p s w s' w' → (b ≡ true → b' ≡ true) → b' ≡ true
      → Less s (waiting_after_read w x b) s' (waiting_after_read w' x b')
  off-here p x s s' w w' b b' same h g now r = go (same_place r p) refl
    where
      go : (t : Bool) → same_place r p ≡ t → ((s r ≡ s' r) × (waiting_after_read w x b r ≡ true → waiting_after_read w' x b' r ≡ true)) ⊎ (waiting_after_read w' x b' r ≡ true)
      go false e = let k = h r e in inl (k.0, λ i. opened-more w w' x b b' r k.1 g i)
      go true e = inr (subst (λ z. waiting_after_read w' x b' z ≡ true) (place-same x p same ∙ sym (place-same r p e)) (opened-at w' x b' ∙ or-right (w' x) b' now))

  -- the content and the waiting at one place may be any others, where the first read of it is queued
  pub covered-change : (p : Place) (q : Queue) (l : Nodes) (s s' : Store) (w w' : Waiting) → Off p s w s' w' → Covered code q s w l → Covered code (with_queued q (first_read p l)) s' w' l
  covered-change p q Nil s s' w w' h c = c
  covered-change p q (Node n Step rest) s s' w w' h c = covered-change p q rest s s' w w' h c
  covered-change p q (Node n (Alloc b key) rest) s s' w w' h c = covered-change p q rest (cleared code s b key) (cleared code s' b key) w w' (off-cleared p s s' w w' b key h) c
  covered-change p q (Node n End rest) s s' w w' h c = covered-change p q rest s s' w w' h c
  covered-change p q (Node n (Write x value) rest) s s' w w' h c =
      go (same_place x p) refl (λ i. covered-change p q rest (stored s x value) (stored s' x value) (waiting_after_write w x) (waiting_after_write w' x) (off-stored p s s' w w' x value h) c)
    where
      go : (t : Bool) → same_place x p ≡ t → (⊤ → Covered code (with_queued q (first_read p rest)) (stored s' x value) (waiting_after_write w' x) rest)
          → Covered code (with_queued q (if t then None else first_read p rest)) (stored s' x value) (waiting_after_write w' x) rest
      go false e f = f tt
      go true e f = covered-less q (with_queued q None) rest (queued-on q None rest) (stored s x value) (stored s' x value) (waiting_after_write w x) (waiting_after_write w' x)
          (less-stored s s' w w' x value (λ r i. inl (h r (subst (λ z. same_place r z ≡ false) (place-same x p e) i)))) c
  covered-change p q (Node n (Read x value u v args) rest) s s' w w' h c =
      go (same_place x p) refl (λ o i. covered-change p q rest s s' (waiting_after_read w x (q n)) (waiting_after_read w' x (with_queued q o n))
      (off-opened p s s' w w' x (q n) (with_queued q o n) h (queued-more q o n)) c.1)
    where
      head : (o : Option ℕ) → same_place x p ≡ false → ((s x ≡ value) ⊎ (waiting_after_read w x (q n) x ≡ true)) → (s' x ≡ value) ⊎ (waiting_after_read w' x (with_queued q o n) x ≡ true)
      head o e (inl i) = inl (sym (h x e).0 ∙ i)
      head o e (inr i) = inr (opened-more w w' x (q n) (with_queued q o n) x (h x e).1 (queued-more q o n) i)

      go : (t : Bool) → same_place x p ≡ t → ((o : Option ℕ) → ⊤ → Covered code (with_queued q (first_read p rest)) s' (waiting_after_read w' x (with_queued q o n)) rest)
          → ((s' x ≡ value) ⊎ (waiting_after_read w' x (with_queued q (if t then Some n else first_read p rest) n) x ≡ true))
          × Covered code (with_queued q (if t then Some n else first_read p rest)) s' (waiting_after_read w' x (with_queued q (if t then Some n else first_read p rest) n)) rest
      go false e f = (head (first_read p rest) e c.0, f (first_read p rest) tt)
      go true e f = (
        inr (opened-at w' x (with_queued q (Some n) n) ∙ or-right (w' x) (with_queued q (Some n) n) (queued-it q n)),
        covered-less q (with_queued q (Some n)) rest (queued-on q (Some n) rest) s s' (waiting_after_read w x (q n)) (waiting_after_read w' x (with_queued q (Some n) n))
            (off-here p x s s' w w' (q n) (with_queued q (Some n) n) e h (queued-more q (Some n) n) (queued-it q n)) c.1,
      )

  pub none-waits : (r : Place) → none_waits r ≡ false
  unfolding none_waits
  none-waits r = refl

  closed-waits : (w : Waiting) (p r : Place) → w r ≡ false → waiting_after_write w p r ≡ false
  unfolding waiting_after_write
  closed-waits w p r e = go (same_place r p)
    where
      go : (t : Bool) → (if t then false else w r) ≡ false
      go true = refl
      go false = e

  opened-waits : (w : Waiting) (p r : Place) (b : Bool) → w r ≡ false → b ≡ false → waiting_after_read w p b r ≡ false
  unfolding waiting_after_read
  opened-waits w p r b e f = go (same_place r p)
    where
      go : (t : Bool) → (if t then w r || b else w r) ≡ false
      go true = rw (e, f) refl
      go false = e

  pub same-on : (q : Queue) (l : Nodes) → MoreOn q q l
  same-on q Nil = tt
  same-on q (Node n i rest) = (λ e. e, same-on q rest)

  -- where none waits it is as at the beginning
  nobody : (q : Queue) (l : Nodes) (s : Store) (w : Waiting) → ((r : Place) → w r ≡ false) → Covered code q s w l → Covered code q s none_waits l
  nobody q l s w h c = covered-less q q l (same-on q l) s s w none_waits (λ r. inl (refl, λ e. absurd (grind (arith, e, h r)))) c

  -- of the first nodes none is queued and none waits: they are honest
  pub covered-front : (q : Queue) (front l : Nodes) → NoneQueued q front → (s : Store) (w : Waiting) → ((r : Place) → w r ≡ false) → Covered code q s w (before front l)
      → AgreesAll code s (items_of front) × Covered code q (store_after code s (items_of front)) none_waits l
  covered-front q Nil l m s w h c = (tt, nobody q l s w h c)
  covered-front q (Node n Step rest) l m s w h c = let k = covered-front q rest l m.1 s w h c in ((tt, k.0), k.1)
  covered-front q (Node n (Alloc b key) rest) l m s w h c = let k = covered-front q rest l m.1 (cleared code s b key) w h c in ((tt, k.0), k.1)
  covered-front q (Node n (Write p value) rest) l m s w h c =
      let k = covered-front q rest l m.1 (stored s p value) (waiting_after_write w p) (λ r. closed-waits w p r (h r)) c in ((tt, k.0), k.1)
  covered-front q (Node n (Read p value u v args) rest) l m s w h c =
      let k = covered-front q rest l m.1 s (waiting_after_read w p (q n)) (λ r. opened-waits w p r (q n) (h r) m.0) c.1 in
      ((head c.0, k.0), k.1)
    where
      head : (s p ≡ value) ⊎ (waiting_after_read w p (q n) p ≡ true) → s p ≡ value
      head (inl e) = e
      head (inr e) = absurd (grind (arith, e, opened-waits w p p (q n) (h p) m.0))
  covered-front q (Node n End rest) l m s w h c = let k = covered-front q rest l m.1 s w h c in ((tt, k.0), k.1)

  without-if : (t a : Bool) → t ≡ false → a ≡ true → (if t then false else a) ≡ true
  without-if false a e f = f
  without-if true a e f = absurd (grind (arith, e))

  -- a queue without a stamp that none of these has
  without-on : (q : Queue) (n : ℕ) (l : Nodes) → Absent n l → MoreOn q (without q n) l
  unfolding without
  without-on q n Nil a = tt
  without-on q n (Node m i rest) a = (λ e. without-if (m == n) (q m) a.0 e, without-on q n rest a.1)

  opened-off : (p : Place) (s : Store) (b : Bool) → Off p s (waiting_after_read none_waits p b) s none_waits
  unfolding waiting_after_read
  opened-off p s b r e = (refl, λ i. rw e at i)

  -- a queued read that is honest goes, and the first read of its place after it comes in its stead
  pub covered-pop : (q : Queue) (n : ℕ) (p : Place) (l : Nodes) (s : Store) → Absent n l → Covered code q s
      (waiting_after_read none_waits p (q n)) l → Covered code (with_queued (without q n) (first_read p l)) s none_waits l
  covered-pop q n p l s a c =
      covered-change p (without q n) l s s (waiting_after_read none_waits p (q n)) none_waits (opened-off p s (q n))
      (covered-less q (without q n) l (without-on q n l a) s s (waiting_after_read none_waits p (q n)) (waiting_after_read none_waits p (q n)) (λ r. inl (refl, λ e. e)) c)

  -- flat items one after another
  -- honest nodes in front of covered ones, whoever waits
  pub honest-front : (q : Queue) (front l : Nodes) (s : Store) (w : Waiting) → AgreesAll code s (items_of front)
      → Covered code q (store_after code s (items_of front)) none_waits l → Covered code q s w (before front l)
  honest-front q Nil l s w h c = covered-less q q l (same-on q l) s s none_waits w (λ r. inl (refl, λ e. absurd (grind (arith, e, none-waits r)))) c
  honest-front q (Node n Step rest) l s w h c = honest-front q rest l s w h.1 c
  honest-front q (Node n (Alloc b key) rest) l s w h c = honest-front q rest l (cleared code s b key) w h.1 c
  honest-front q (Node n (Write p value) rest) l s w h c = honest-front q rest l (stored s p value) (waiting_after_write w p) h.1 c
  honest-front q (Node n (Read p value u v args) rest) l s w h c = (inl h.0, honest-front q rest l s (waiting_after_read w p (q n)) h.1 c)
  honest-front q (Node n End rest) l s w h c = honest-front q rest l s w h.1 c

  -- the first that is queued goes
  pub first-pop : (q : Queue) (s : Store) (front : Nodes) (n : ℕ) (p : Place) (value : Word) (u : _) (v : ℕ) (args : List Word) (l : Nodes)
      → NoneQueued q front → Absent n l → Covered code q s none_waits (before front (Node n (Read p value u v args) l)) → store_after code s (items_of front) p ≡ value
      → Covered code (with_queued (without q n) (first_read p l)) s none_waits (before front (Node n (Read p value u v args) l))
  first-pop q s front n p value u v args l m a c e =
      let k = covered-front q front (Node n (Read p value u v args) l) m s none_waits none-waits c in
      let t = store_after code s (items_of front) in
      let q' = with_queued (without q n) (first_read p l) in
      let c' : Covered code q' t none_waits l = covered-pop q n p l t a k.1.1 in
      honest-front q' front (Node n (Read p value u v args) l) s none_waits k.0
      (inl e, covered-less q' q' l (same-on q' l) t t none_waits (waiting_after_read none_waits p (q' n)) (λ r. inl (refl, λ i. absurd (grind (arith, i, none-waits r)))) c')

  -- at each place the same content and no less waiting, or a queued read waits, or the first read of it is queued
  abbrev Loose : Queue → Nodes → Store → Waiting → Store → Waiting → Type 0
  Loose q' l s w s' w' = (r : Place) → ((s r ≡ s' r) × (w r ≡ true → w' r ≡ true)) ⊎ ((w' r ≡ true) ⊎ Queued q' (first_read r l))

  loose-cleared : (q' : Queue) (rest : Nodes) (s s' : Store) (w w' : Waiting) (b : BlockId) (key : Key)
      → Loose q' rest s w s' w' → Loose q' rest (cleared code s b key) w (cleared code s' b key) w'
  loose-cleared q' rest s s' w w' b key h r = go (h r)
    where
      go : ((s r ≡ s' r) × (w r ≡ true → w' r ≡ true)) ⊎ ((w' r ≡ true) ⊎ Queued q' (first_read r rest))
          → ((cleared code s b key r ≡ cleared code s' b key r) × (w r ≡ true → w' r ≡ true)) ⊎ ((w' r ≡ true) ⊎ Queued q' (first_read r rest))
      go (inl k) = inl (cleared-equal code s s' b key r k.0, k.1)
      go (inr k) = inr k

  closed-at : (w : Waiting) (p r : Place) (t : Bool) → same_place r p ≡ t → waiting_after_write w p r ≡ (if t then false else w r)
  unfolding waiting_after_write
  closed-at w p r t e = rw e refl

  stored-at : (s : Store) (p : Place) (value : Word) (r : Place) (t : Bool) → same_place r p ≡ t → stored s p value r ≡ (if t then value else s r)
  unfolding stored
  stored-at s p value r t e = rw e refl

  sym-place : (p r : Place) → same_place r p ≡ false → same_place p r ≡ false
  sym-place p r e = go (same_place p r) refl
    where
      go : (t : Bool) → same_place p r ≡ t → t ≡ false
      go false i = refl
      go true i = let both : same_place r p ≡ true = subst (λ z. same_place r z ≡ true) (sym (place-same p r i)) (place-refl r) in absurd (grind (arith, e, both))

  loose-stored : (q' : Queue) (n : ℕ) (rest : Nodes) (s s' : Store) (w w' : Waiting) (x : Place) (value : Word) → Loose q' (Node n (Write x value) rest) s w s' w'
      → Loose q' rest (stored s x value) (waiting_after_write w x) (stored s' x value) (waiting_after_write w' x)
  loose-stored q' n rest s s' w w' x value h r = go (same_place r x) refl
    where
      far : same_place r x ≡ false → ((s r ≡ s' r) × (w r ≡ true → w' r ≡ true)) ⊎ ((w' r ≡ true) ⊎ Queued q' (if same_place x r then None else first_read r rest))
          → ((stored s x value r ≡ stored s' x value r) × (waiting_after_write w x r ≡ true → waiting_after_write w' x r ≡ true)) ⊎
          ((waiting_after_write w' x r ≡ true) ⊎ Queued q' (first_read r rest))
      far e (inl k) = inl (stored-equal s s' x value r k.0, λ i. closed-at w' x r false e ∙ k.1 (sym (closed-at w x r false e) ∙ i))
      far e (inr (inl i)) = inr (inl (closed-at w' x r false e ∙ i))
      far e (inr (inr i)) = inr (inr (subst (λ t. Queued q' (if t then None else first_read r rest)) (sym-place x r e) i))

      go : (t : Bool) → same_place r x ≡ t
          → ((stored s x value r ≡ stored s' x value r) × (waiting_after_write w x r ≡ true → waiting_after_write w' x r ≡ true)) ⊎
          ((waiting_after_write w' x r ≡ true) ⊎ Queued q' (first_read r rest))
      go true e = inl (stored-at s x value r true e ∙ sym (stored-at s' x value r true e), λ i. absurd (grind (arith, sym (closed-at w x r true e) ∙ i)))
      go false e = far e (h r)

  loose-opened : (q q' : Queue) (n : ℕ) (rest : Nodes) (s s' : Store) (w w' : Waiting) (x : Place) (value : Word) (u : _) (v : ℕ) (args : List Word) → (q n ≡ true → q' n ≡ true)
      → Loose q' (Node n (Read x value u v args) rest) s w s' w' → Loose q' rest s (waiting_after_read w x (q n)) s' (waiting_after_read w' x (q' n))
  loose-opened q q' n rest s s' w w' x value u v args g h r = go (same_place x r) refl (h r)
    where
      go : (t : Bool) → same_place x r ≡ t → ((s r ≡ s' r) × (w r ≡ true → w' r ≡ true)) ⊎ ((w' r ≡ true) ⊎ Queued q' (if same_place x r then Some n else first_read r rest))
          → ((s r ≡ s' r) × (waiting_after_read w x (q n) r ≡ true → waiting_after_read w' x (q' n) r ≡ true)) ⊎ ((waiting_after_read w' x (q' n) r ≡ true) ⊎ Queued q' (first_read r rest))
      go t e (inl k) = inl (k.0, λ i. opened-more w w' x (q n) (q' n) r k.1 g i)
      go t e (inr (inl i)) = inr (inl (opened-keeps w' x (q' n) r i))
      go false e (inr (inr i)) = inr (inr (subst (λ t. Queued q' (if t then Some n else first_read r rest)) e i))
      go true e (inr (inr i)) =
          let now : q' n ≡ true = subst (λ t. Queued q' (if t then Some n else first_read r rest)) e i in
          inr (inl (subst (λ z. waiting_after_read w' x (q' n) z ≡ true) (place-same x r e) (opened-at w' x (q' n) ∙ or-right (w' x) (q' n) now)))

  pub covered-any : (q q' : Queue) (l : Nodes) → MoreOn q q' l → (s s' : Store) (w w' : Waiting) → Loose q' l s w s' w' → Covered code q s w l → Covered code q' s' w' l
  covered-any q q' Nil m s s' w w' h c = c
  covered-any q q' (Node n Step rest) m s s' w w' h c = covered-any q q' rest m.1 s s' w w' h c
  covered-any q q' (Node n (Alloc b key) rest) m s s' w w' h c = covered-any q q' rest m.1 (cleared code s b key) (cleared code s' b key) w w' (loose-cleared q' rest s s' w w' b key h) c
  covered-any q q' (Node n (Write x value) rest) m s s' w w' h c =
      covered-any q q' rest m.1 (stored s x value) (stored s' x value) (waiting_after_write w x) (waiting_after_write w' x) (loose-stored q' n rest s s' w w' x value h) c
  covered-any q q' (Node n (Read x value u v args) rest) m s s' w w' h c =
      (head (h x) c.0, covered-any q q' rest m.1 s s' (waiting_after_read w x (q n)) (waiting_after_read w' x (q' n)) (loose-opened q q' n rest s s' w w' x value u v args m.0 h) c.1)
    where
      head : ((s x ≡ s' x) × (w x ≡ true → w' x ≡ true)) ⊎
          ((w' x ≡ true) ⊎ Queued q' (if same_place x x then Some n else first_read x rest)) →
          ((s x ≡ value) ⊎ (waiting_after_read w x (q n) x ≡ true)) → (s' x ≡ value) ⊎ (waiting_after_read w' x (q' n) x ≡ true)
      head (inl k) (inl e) = inl (sym k.0 ∙ e)
      head (inl k) (inr e) = inr (opened-more w w' x (q n) (q' n) x k.1 m.0 e)
      head (inr (inl e)) k = inr (opened-keeps w' x (q' n) x e)
      head (inr (inr e)) k =
          let now : q' n ≡ true = subst (λ t. Queued q' (if t then Some n else first_read x rest)) (place-refl x) e in
          inr (opened-at w' x (q' n) ∙ or-right (w' x) (q' n) now)
  covered-any q q' (Node n End rest) m s s' w w' h c = covered-any q q' rest m.1 s s' w w' h c

  -- what is covered after the first nodes
  pub covered-behind : (q : Queue) (a l : Nodes) (s : Store) (w : Waiting) → Covered code q s w (before a l) → Covered code q (store_after code s (items_of a)) (waits_after q w a) l
  covered-behind q Nil l s w c = c
  covered-behind q (Node n Step rest) l s w c = covered-behind q rest l s w c
  covered-behind q (Node n (Alloc b key) rest) l s w c = covered-behind q rest l (cleared code s b key) w c
  covered-behind q (Node n (Write p value) rest) l s w c = covered-behind q rest l (stored s p value) (waiting_after_write w p) c
  covered-behind q (Node n (Read p value u v args) rest) l s w c = covered-behind q rest l s (waiting_after_read w p (q n)) c.1
  covered-behind q (Node n End rest) l s w c = covered-behind q rest l s w c

  none-not : (w : Waiting) (r : Place) → w r ≡ false → w r ≡ true → none_waits r ≡ true
  none-not w r e i = absurd (grind (arith, e, i))

  pub cover : (q q' : Queue) (l : Nodes) → MoreOn q q' l → (s s' : Store) (w : Waiting) →
      ((p : Place) → ((s p ≡ s' p) × (w p ≡ false)) ⊎ Queued q' (first_read p l)) → Covered code q s w l
      → Covered code q' s' none_waits l
  cover q q' l m s s' w h c = covered-any q q' l m s s' w none_waits (λ r. go r (h r)) c
    where
      go : (r : Place) → ((s r ≡ s' r) × (w r ≡ false)) ⊎ Queued q' (first_read r l) → ((s r ≡ s' r) × (w r ≡ true → none_waits r ≡ true)) ⊎ ((none_waits r ≡ true) ⊎ Queued q' (first_read r l))
      go r (inl k) = inl (k.0, λ i. none-not w r k.1 i)
      go r (inr k) = inr (inr k)
