-- Where each read is chained or queued, each stale one is covered by a queued one.
use Rattle.std.proofs.Common.{◌≡◌, ℕ, Bool, true, false, if◌then◌else◌, ◌⊎◌, inl, inr, List, [], ◌∷◌, refl, sym, ◌∙◌}
use Rattle.ceal_base.specs.Operators.{same_place}
use Rattle.ceal_base.specs.declared.word.Place.{Place}
use Rattle.ceal_base.specs.declared.word.Word.{Word}
use Rattle.ceal_code.proofs.Words.SameIsEqual.{place-refl}
use Rattle.ceal_code.specs.Replay.{Store, stored}
use Rattle.ceal_repair.proofs.QueueCover.Chain.{stored-idle}
use Rattle.ceal_repair.specs.Chain.{recorded_after, IsChained, Chained}
use Rattle.ceal_repair.specs.Covered.{Queue, Seen, queue_of, content_after, with_seen, seen_after, IsCovered, Covers}
use Rattle.ceal_repair.specs.Kept.{Kept, CoveredBy, base_in}
use Rattle.ceal_repair.specs.declared.tables.Tables.{Tables}
use Rattle.ceal_trace.specs.Nodes.{Entry}
use Rattle.ceal_trace.specs.declared.node.Node.{Node}
use Rattle.ceal_trace.specs.declared.node.Node.TheVariants.{Root, Alloc, Write, Read, End}

-- a place holds what was recorded last of it, or a queued read of it was seen
abbrev HoldsOrSeen : Store → Store → Seen → Type 0
HoldsOrSeen s t g = (x : Place) → (s x ≡ t x) ⊎ (g x ≡ true)

after-write : (s t : Store) (g : Seen) (p : Place) (v : Word) → HoldsOrSeen s t g → HoldsOrSeen (stored s p v) (stored t p v) (with_seen g p false)
unfolding stored with_seen
after-write s t g p v h x = go (same_place x p)
  where
    go : (b : Bool) → ((if b then v else s x) ≡ (if b then v else t x)) ⊎ ((if b then false else g x) ≡ true)
    go true = inl refl
    go false = h x

after-queued : (s t : Store) (g : Seen) (p : Place) (v : Word) → HoldsOrSeen s t g → HoldsOrSeen s (stored t p v) (with_seen g p true)
unfolding stored with_seen
after-queued s t g p v h x = go (same_place x p)
  where
    go : (b : Bool) → (s x ≡ (if b then v else t x)) ⊎ ((if b then true else g x) ≡ true)
    go true = inr refl
    go false = h x

after-read : (s t : Store) (g : Seen) (p : Place) (v : Word) → t p ≡ v → HoldsOrSeen s t g → HoldsOrSeen s (stored t p v) g
after-read s t g p v e h x = elim (h x) [ inl k ↦ inl (k ∙ sym (stored-idle t p v e x)) | inr k ↦ inr k ]

seen-own : (g : Seen) (p : Place) → with_seen g p true p ≡ true
unfolding with_seen
seen-own g p = rw (place-refl p) refl

abbrev CoversOn : Queue → List Entry → Type 0
CoversOn q ks = (s t : Store) (g : Seen) → HoldsOrSeen s t g → Chained q t ks → Covers q s g ks

covers-node : (q : Queue) (n : ℕ) (ks : List Entry) → CoversOn q ks → (i : Node) (s t : Store) (g : Seen) → HoldsOrSeen s t g → IsChained q t n i × Chained q (recorded_after t i) ks
    → IsCovered s (seen_after q g n i) i × Covers q (content_after s i) (seen_after q g n i) ks
covers-node q n ks on Root s t g h c = (tt, on s t g h c.1)
covers-node q n ks on (Alloc b key) s t g h c = (tt, on s t g h c.1)
covers-node q n ks on (End z) s t g h c = (tt, on s t g h c.1)
covers-node q n ks on (Write p v) s t g h c = (tt, on (stored s p v) (stored t p v) (with_seen g p false) (after-write s t g p v h) c.1)
covers-node q n ks on (Read p v u y args) s t g h c = go (q n) c.0
  where
    go : (b : Bool) → (t p ≡ v) ⊎ (b ≡ true)
        → ((s p ≡ v) ⊎ ((if b then with_seen g p true else g) p ≡ true)) × Covers q s (if b then with_seen g p true else g) ks
    go true k = (inr (seen-own g p), on s (stored t p v) (with_seen g p true) (after-queued s t g p v h) c.1)
    go false (inl e) = (elim (h p) [ inl k ↦ inl (k ∙ e) | inr k ↦ inr k ], on s (stored t p v) g (after-read s t g p v e h) c.1)
    go false (inr i) = absurd (let no : false ≡ true = i in cc)

pub chained-covers : (q : Queue) (ks : List Entry) → CoversOn q ks
chained-covers q [] s t g h c = tt
chained-covers q (e ∷ ks) s t g h c = covers-node q e.stamp ks (chained-covers q ks) e.node s t g h c

pub kept-covers : (t : Tables) → Kept t → CoveredBy (queue_of t.stale.stamps) t
kept-covers t k = chained-covers (queue_of t.stale.stamps) t.trace.nodes (base_in t.mods) (base_in t.mods) (λ p. false) (λ x. inl refl) k.chained
