-- The chain of what is recorded, as nodes and what was recorded before them change.
use Rattle.std.proofs.Common.{◌≡◌, ℕ, Bool, true, false, if◌then◌else◌, ◌⊎◌, inl, inr, List, [], ◌∷◌, refl, sym, ap, ◌∙◌}
use Rattle.std.specs.Prelude.{⊤}
use Rattle.ceal_base.specs.Operators.{same_place}
use Rattle.ceal_base.specs.declared.word.Place.{Place}
use Rattle.ceal_base.specs.declared.word.Word.{Word}
use Rattle.ceal_code.proofs.Words.SameIsEqual.{place-same, place-refl}
use Rattle.ceal_code.specs.Replay.{Store, stored}
use Rattle.ceal_repair.specs.Chain.{recorded_after, IsChained, Chained}
use Rattle.ceal_repair.specs.Covered.{Queue}
use Rattle.ceal_trace.specs.Nodes.{Entry}
use Rattle.ceal_trace.specs.declared.node.Node.{Node}
use Rattle.ceal_trace.specs.declared.node.Node.TheVariants.{Root, Alloc, Write, Read, End}

-- the first node of the place, if it is a read, is queued
abbrev pub FirstQueuedIf : Bool → Type 0 → Type 0 → Type 0
FirstQueuedIf true here later = here
FirstQueuedIf false here later = later

abbrev pub FirstQueuedBy : Queue → Place → ℕ → Node → Type 0 → Type 0
FirstQueuedBy q p n (Write r value) later = FirstQueuedIf (same_place r p) ⊤ later
FirstQueuedBy q p n (Read r value u v args) later = FirstQueuedIf (same_place r p) (q n ≡ true) later
FirstQueuedBy q p n Root later = later
FirstQueuedBy q p n (Alloc b key) later = later
FirstQueuedBy q p n (End z) later = later

abbrev pub FirstQueued : Queue → Place → List Entry → Type 0
FirstQueued q p [] = ⊤
FirstQueued q p (k ∷ ks) = FirstQueuedBy q p k.stamp k.node (FirstQueued q p ks)

-- what one queue has of these nodes the other has
abbrev pub Keeps : Queue → Queue → List Entry → Type 0
Keeps q q' [] = ⊤
Keeps q q' (k ∷ ks) = (q k.stamp ≡ true → q' k.stamp ≡ true) × Keeps q q' ks

pub keeps-own : (q : Queue) (es : List Entry) → Keeps q q es
keeps-own q [] = tt
keeps-own q (e ∷ es) = (λ i. i, keeps-own q es)

pub place-sym : (p q : Place) → same_place p q ≡ false → same_place q p ≡ false
place-sym p q e = go (same_place q p) refl
  where
    go : (b : Bool) → same_place q p ≡ b → b ≡ false
    go false k = refl
    go true k = absurd (let no : true ≡ false = rw (place-same q p k, place-refl p) at e in cc)

-- the same of each place, and of each but one
abbrev pub Alike : Store → Store → Type 0
Alike t t' = (x : Place) → t x ≡ t' x

abbrev pub AlikeBut : Place → Store → Store → Type 0
AlikeBut p t t' = (x : Place) → same_place x p ≡ false → t x ≡ t' x

pub stored-same : (s s' : Store) (p : Place) (v : Word) (x : Place) → s x ≡ s' x → stored s p v x ≡ stored s' p v x
unfolding stored
stored-same s s' p v x e = rw e refl

pub stored-idle : (s : Store) (p : Place) (v : Word) → s p ≡ v → (x : Place) → stored s p v x ≡ s x
unfolding stored
stored-idle s p v e x = go (same_place x p) refl
  where
    go : (b : Bool) → same_place x p ≡ b → (if b then v else s x) ≡ s x
    go true k = sym e ∙ ap s (sym (place-same x p k))
    go false k = refl

pub stored-away : (s : Store) (p : Place) (v : Word) → AlikeBut p (stored s p v) s
unfolding stored
stored-away s p v x e = rw e refl

-- a read
linked : (q q' : Queue) (n : ℕ) (t t' : Store) (p : Place) (v : Word) → (q n ≡ true → q' n ≡ true) → t p ≡ t' p → (t p ≡ v) ⊎ (q n ≡ true) → (t' p ≡ v) ⊎ (q' n ≡ true)
linked q q' n t t' p v k e c = elim c [ inl h ↦ inl (sym e ∙ h) | inr h ↦ inr (k h) ]

-- what must be shown of the nodes after one
abbrev pub Onward : Queue → Queue → List Entry → Type 0
Onward q q' ks = (t t' : Store) → Alike t t' → Chained q t ks → Chained q' t' ks

-- a node, and those after it
abbrev pub ChainedAt : Queue → Store → ℕ → Node → List Entry → Type 0
ChainedAt q t n i ks = IsChained q t n i × Chained q (recorded_after t i) ks

still-node : (q q' : Queue) (n : ℕ) (ks : List Entry) → (q n ≡ true → q' n ≡ true) → Onward q q' ks → (i : Node) (t t' : Store) → Alike t t' → ChainedAt q t n i ks → ChainedAt q' t' n i ks
still-node q q' n ks k on Root t t' h c = (tt, on t t' h c.1)
still-node q q' n ks k on (Alloc b key) t t' h c = (tt, on t t' h c.1)
still-node q q' n ks k on (End z) t t' h c = (tt, on t t' h c.1)
still-node q q' n ks k on (Write p v) t t' h c = (tt, on (stored t p v) (stored t' p v) (λ x. stored-same t t' p v x (h x)) c.1)
still-node q q' n ks k on (Read p v u y args) t t' h c =
    (linked q q' n t t' p v k (h p) c.0, on (stored t p v) (stored t' p v) (λ x. stored-same t t' p v x (h x)) c.1)

-- nothing else changes
pub chained-still : (q q' : Queue) (ks : List Entry) → Keeps q q' ks → Onward q q' ks
chained-still q q' [] k t t' h c = tt
chained-still q q' (e ∷ ks) k t t' h c = still-node q q' e.stamp ks k.0 (chained-still q q' ks k.1) e.node t t' h c

-- a record of the place ends what changed
record-ends : (p r : Place) (v : Word) (t t' : Store) → same_place r p ≡ true → AlikeBut p t t' → Alike (stored t r v) (stored t' r v)
unfolding stored
record-ends p r v t t' e h x = go (same_place x r) refl
  where
    go : (b : Bool) → same_place x r ≡ b → (if b then v else t x) ≡ (if b then v else t' x)
    go true k = refl
    go false k = h x (rw (place-same r p e) at k)

-- one of another place leaves it
record-other : (p r : Place) (v : Word) (t t' : Store) → AlikeBut p t t' → AlikeBut p (stored t r v) (stored t' r v)
record-other p r v t t' h x e = stored-same t t' r v x (h x e)

abbrev pub OnwardFirst : Place → Queue → Queue → List Entry → Type 0
OnwardFirst p q q' ks = (t t' : Store) → AlikeBut p t t' → FirstQueued q' p ks → Chained q t ks → Chained q' t' ks

first-node : (p : Place) (q q' : Queue) (n : ℕ) (ks : List Entry) → (q n ≡ true → q' n ≡ true) → Onward q q' ks → OnwardFirst p q q' ks
    → (i : Node) (t t' : Store) → AlikeBut p t t' → FirstQueuedBy q' p n i (FirstQueued q' p ks) → ChainedAt q t n i ks → ChainedAt q' t' n i ks
first-node p q q' n ks k on first Root t t' h f c = (tt, first t t' h f c.1)
first-node p q q' n ks k on first (Alloc b key) t t' h f c = (tt, first t t' h f c.1)
first-node p q q' n ks k on first (End z) t t' h f c = (tt, first t t' h f c.1)
first-node p q q' n ks k on first (Write r v) t t' h f c = go (same_place r p) refl f
  where
    go : (b : Bool) → same_place r p ≡ b → FirstQueuedIf b ⊤ (FirstQueued q' p ks) → ChainedAt q' t' n (Write r v) ks
    go true e f = (tt, on (stored t r v) (stored t' r v) (record-ends p r v t t' e h) c.1)
    go false e f = (tt, first (stored t r v) (stored t' r v) (record-other p r v t t' h) f c.1)
first-node p q q' n ks k on first (Read r v u y args) t t' h f c = go (same_place r p) refl f
  where
    go : (b : Bool) → same_place r p ≡ b → FirstQueuedIf b (q' n ≡ true) (FirstQueued q' p ks) → ChainedAt q' t' n (Read r v u y args) ks
    go true e f = (inr f, on (stored t r v) (stored t' r v) (record-ends p r v t t' e h) c.1)
    go false e f = (linked q q' n t t' r v k (h r e) c.0, first (stored t r v) (stored t' r v) (record-other p r v t t' h) f c.1)

-- only what was recorded of one place changes, whose first read is queued
pub chained-first : (p : Place) (q q' : Queue) (ks : List Entry) → Keeps q q' ks → OnwardFirst p q q' ks
chained-first p q q' [] k t t' h f c = tt
chained-first p q q' (e ∷ ks) k t t' h f c = first-node p q q' e.stamp ks k.0 (chained-still q q' ks k.1) (chained-first p q q' ks k.1) e.node t t' h f c
