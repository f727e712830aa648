-- What each change of the nodes does to the chain.
use Rattle.std.proofs.Common.{◌≡◌, ℕ, true, false, ◌⊎◌, inl, inr, List, [], ◌∷◌, ◌++◌, refl, sym, ◌∙◌}
use Rattle.ceal_base.specs.declared.forest.UnitId.{UnitId}
use Rattle.ceal_base.specs.declared.word.Place.{Place}
use Rattle.ceal_base.specs.declared.word.Word.{Word}
use Rattle.ceal_code.specs.Replay.{Store, stored}
use Rattle.ceal_order.proofs.Places.{in_head, in_tail}
use Rattle.ceal_order.specs.Stamps.{is_in}
use Rattle.ceal_repair.proofs.QueueCover.Chain.{FirstQueued, Keeps, Alike, AlikeBut, keeps-own, stored-same, stored-idle, stored-away, chained-still, chained-first}
use Rattle.ceal_repair.specs.Chain.{recorded_after, recorded_last, IsChained, Chained}
use Rattle.ceal_repair.specs.Covered.{Queue, content_after, contents_after}
use Rattle.ceal_trace.specs.Nodes.{Entry, stamps_in}
use Rattle.ceal_trace.specs.declared.node.Node.{Node}
use Rattle.ceal_trace.specs.declared.node.Node.TheVariants.{Root, Alloc, Write, Read, End}

-- the nodes before a place in the list and those after it
pub chained-part : (q : Queue) (front back : List Entry) (t : Store) → Chained q t (front ++ back) → Chained q t front × Chained q (recorded_last t front) back
chained-part q [] back t c = (tt, c)
chained-part q (k ∷ ks) back t c = let r = chained-part q ks back (recorded_after t k.node) c.1 in ((c.0, r.0), r.1)

pub chained-join : (q : Queue) (front back : List Entry) (t : Store) → Chained q t front → Chained q (recorded_last t front) back → Chained q t (front ++ back)
chained-join q [] back t c d = d
chained-join q (k ∷ ks) back t c d = (c.0, chained-join q ks back (recorded_after t k.node) c.1 d)

-- ---- where nothing is queued, what was recorded last of a place is its content

held-node : (q : Queue) (n : ℕ) (i : Node) (t s : Store) → q n ≡ false → Alike t s → IsChained q t n i → Alike (recorded_after t i) (content_after s i)
held-node q n Root t s none h c = h
held-node q n (Alloc b key) t s none h c = h
held-node q n (End z) t s none h c = h
held-node q n (Write p v) t s none h c = λ x. stored-same t s p v x (h x)
held-node q n (Read p v u y args) t s none h c = λ x. stored-idle t p v own x ∙ h x
  where
    own : t p ≡ v
    own = elim c [ inl e ↦ e | inr i ↦ absurd (let no : true ≡ false = sym i ∙ none in cc) ]

pub held-last : (q : Queue) (es : List Entry) (t s : Store) → ((z : ℕ) → is_in z (stamps_in es) ≡ true → q z ≡ false) → Alike t s → Chained q t es → Alike (recorded_last t es) (contents_after s es)
held-last q [] t s none h c = h
held-last q (e ∷ es) t s none h c =
    held-last q es (recorded_after t e.node) (content_after s e.node) (λ z i. none z (in_tail z e.stamp (stamps_in es) i))
    (held-node q e.stamp e.node t s (none e.stamp (in_head e.stamp (stamps_in es))) h c.0) c.1

-- ---- changes

module _ (q q' : Queue) (t : Store) (front back : List Entry) where
  pub front-still : Keeps q q' front → Chained q t front → Chained q' t front
  front-still k c = chained-still q q' front k t t (λ x. refl) c

  -- a write is added
  pub write-added : (n m : ℕ) (p : Place) (v : Word) → Keeps q q' front → Keeps q q' back → FirstQueued q' p back
      → Chained q t (front ++ back) → Chained q' t (front ++ record { stamp = n; node = Write p v; steps = m } ∷ back)
  write-added n m p v kf kb f c =
      let d = chained-part q front back t c in
      chained-join q' front (record { stamp = n; node = Write p v; steps = m } ∷ back) t (front-still kf d.0)
      (tt, chained-first p q q' back kb (recorded_last t front) (stored (recorded_last t front) p v) (λ x e. sym (stored-away (recorded_last t front) p v x e)) f d.1)

  -- a write is taken out
  pub write-removed : (n m : ℕ) (p : Place) (v : Word) → Keeps q q' front → Keeps q q' back → FirstQueued q' p back
      → Chained q t (front ++ record { stamp = n; node = Write p v; steps = m } ∷ back) → Chained q' t (front ++ back)
  write-removed n m p v kf kb f c =
      let d = chained-part q front (record { stamp = n; node = Write p v; steps = m } ∷ back) t c in
      chained-join q' front back t (front-still kf d.0)
      (chained-first p q q' back kb (stored (recorded_last t front) p v) (recorded_last t front) (stored-away (recorded_last t front) p v) f d.1.1)

  -- a write is taken out that records what was recorded last
  pub write-idle : (n m : ℕ) (p : Place) (v : Word) → Keeps q q' front → Keeps q q' back → recorded_last t front p ≡ v
      → Chained q t (front ++ record { stamp = n; node = Write p v; steps = m } ∷ back) → Chained q' t (front ++ back)
  write-idle n m p v kf kb e c =
      let d = chained-part q front (record { stamp = n; node = Write p v; steps = m } ∷ back) t c in
      chained-join q' front back t (front-still kf d.0)
      (chained-still q q' back kb (stored (recorded_last t front) p v) (recorded_last t front) (stored-idle (recorded_last t front) p v e) d.1.1)

  -- a read is taken out whose next one is queued
  pub read-removed : (n m : ℕ) (p : Place) (v : Word) (u : UnitId) (y : ℕ) (args : List Word) → Keeps q q' front → Keeps q q' back → FirstQueued q' p back
      → Chained q t (front ++ record { stamp = n; node = Read p v u y args; steps = m } ∷ back) → Chained q' t (front ++ back)
  read-removed n m p v u y args kf kb f c =
      let d = chained-part q front (record { stamp = n; node = Read p v u y args; steps = m } ∷ back) t c in
      chained-join q' front back t (front-still kf d.0)
      (chained-first p q q' back kb (stored (recorded_last t front) p v) (recorded_last t front) (stored-away (recorded_last t front) p v) f d.1.1)

  -- a read is taken out that was not queued
  pub read-cut : (n m : ℕ) (p : Place) (v : Word) (u : UnitId) (y : ℕ) (args : List Word) → Keeps q q' front → Keeps q q' back → q n ≡ false
      → Chained q t (front ++ record { stamp = n; node = Read p v u y args; steps = m } ∷ back) → Chained q' t (front ++ back)
  read-cut n m p v u y args kf kb none c =
      let d = chained-part q front (record { stamp = n; node = Read p v u y args; steps = m } ∷ back) t c in
      chained-join q' front back t (front-still kf d.0)
      (chained-still q q' back kb (stored (recorded_last t front) p v) (recorded_last t front) (stored-idle (recorded_last t front) p v (own d.1.0)) d.1.1)
    where
      own : (recorded_last t front p ≡ v) ⊎ (q n ≡ true) → recorded_last t front p ≡ v
      own (inl e) = e
      own (inr i) = absurd (let no : true ≡ false = sym i ∙ none in cc)

  -- a read that was popped records what was recorded last
  pub read-stays : (n m : ℕ) (p : Place) (v : Word) (u : UnitId) (y : ℕ) (args : List Word) → Keeps q q' front → Keeps q q' back → recorded_last t front p ≡ v
      → Chained q t (front ++ record { stamp = n; node = Read p v u y args; steps = m } ∷ back)
      → Chained q' t (front ++ record { stamp = n; node = Read p v u y args; steps = m } ∷ back)
  read-stays n m p v u y args kf kb e c =
      let d = chained-part q front (record { stamp = n; node = Read p v u y args; steps = m } ∷ back) t c in
      chained-join q' front (record { stamp = n; node = Read p v u y args; steps = m } ∷ back) t (front-still kf d.0)
      (inl e, chained-still q q' back kb (stored (recorded_last t front) p v) (stored (recorded_last t front) p v) (λ x. refl) d.1.1)

  -- it gets this, whatever its value was, and the next one is queued
  pub read-settled : (n m m' : ℕ) (p : Place) (v w : Word) (u : UnitId) (y : ℕ) (args : List Word) → Keeps q q' front → Keeps q q' back → FirstQueued q' p back
      → recorded_last t front p ≡ w
      → Chained q t (front ++ record { stamp = n; node = Read p v u y args; steps = m } ∷ back)
      → Chained q' t (front ++ record { stamp = n; node = Read p w u y args; steps = m' } ∷ back)
  read-settled n m m' p v w u y args kf kb f e c =
      let d = chained-part q front (record { stamp = n; node = Read p v u y args; steps = m } ∷ back) t c in
      chained-join q' front (record { stamp = n; node = Read p w u y args; steps = m' } ∷ back) t (front-still kf d.0) (
        inl e,
        chained-first p q q' back kb (stored (recorded_last t front) p v) (stored (recorded_last t front) p w)
            (λ x a. stored-away (recorded_last t front) p v x a ∙ sym (stored-away (recorded_last t front) p w x a)) f d.1.1,
      )

-- a node that is neither a write nor a read
abbrev pub IsQuiet : Node → Type 0
IsQuiet n = (t : Store) (q : Queue) (st : ℕ) (back : List Entry) → (Chained q t back → IsChained q t st n × Chained q (recorded_after t n) back)
    × (IsChained q t st n × Chained q (recorded_after t n) back → Chained q t back)

-- such a node does not matter
pub quiet-put : (q : Queue) (t : Store) (front : List Entry) (e : Entry) (back : List Entry) → IsQuiet e.node → Chained q t (front ++ back) → Chained q t (front ++ e ∷ back)
quiet-put q t front e back quiet c =
    let d = chained-part q front back t c in
    chained-join q front (e ∷ back) t d.0 ((quiet (recorded_last t front) q e.stamp back).0 d.1)

pub quiet-cut : (q : Queue) (t : Store) (front : List Entry) (e : Entry) (back : List Entry) → IsQuiet e.node → Chained q t (front ++ e ∷ back) → Chained q t (front ++ back)
quiet-cut q t front e back quiet c =
    let d = chained-part q front (e ∷ back) t c in
    chained-join q front back t d.0 ((quiet (recorded_last t front) q e.stamp back).1 d.1)

-- a new read of what was recorded last
pub read-put : (q : Queue) (t : Store) (front back : List Entry) (n m : ℕ) (p : Place) (v : Word) (u : UnitId) (y : ℕ) (args : List Word) → recorded_last t front p ≡ v
    → Chained q t (front ++ back) → Chained q t (front ++ record { stamp = n; node = Read p v u y args; steps = m } ∷ back)
read-put q t front back n m p v u y args is c =
    let d = chained-part q front back t c in
    chained-join q front (record { stamp = n; node = Read p v u y args; steps = m } ∷ back) t d.0
    (inl is, chained-still q q back (keeps-own q back) (recorded_last t front) (stored (recorded_last t front) p v) (λ x. sym (stored-idle (recorded_last t front) p v is x)) d.1)

-- where nothing up to a read is queued it is honest
pub read-honest : (q : Queue) (t : Store) (front : List Entry) (n m : ℕ) (p : Place) (v : Word) (u : UnitId) (y : ℕ) (args : List Word) (back : List Entry)
    → ((z : ℕ) → is_in z (stamps_in front) ≡ true → q z ≡ false) → q n ≡ false
    → Chained q t (front ++ record { stamp = n; node = Read p v u y args; steps = m } ∷ back) → contents_after t front p ≡ v
read-honest q t front n m p v u y args back none own c =
    let d = chained-part q front (record { stamp = n; node = Read p v u y args; steps = m } ∷ back) t c in
    sym (held-last q front t t none (λ x. refl) d.0 p) ∙ value d.1.0
  where
    value : (recorded_last t front p ≡ v) ⊎ (q n ≡ true) → recorded_last t front p ≡ v
    value (inl e) = e
    value (inr i) = absurd (let no : true ≡ false = sym i ∙ own in cc)

-- where nothing in front is queued, what was recorded last there is the content
pub front-held : (q : Queue) (t : Store) (front back : List Entry) → ((z : ℕ) → is_in z (stamps_in front) ≡ true → q z ≡ false) → Chained q t (front ++ back) → (p : Place)
    → recorded_last t front p ≡ contents_after t front p
front-held q t front back none c p = held-last q front t t none (λ x. refl) (chained-part q front back t c).0 p

-- a base is edited
pub base-edited : (q q' : Queue) (nodes : List Entry) (t t' : Store) (p : Place) → AlikeBut p t t' → Keeps q q' nodes → FirstQueued q' p nodes → Chained q t nodes → Chained q' t' nodes
base-edited q q' nodes t t' p h k f c = chained-first p q q' nodes k t t' h f c
