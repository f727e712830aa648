-- What the tables' queue covers is covered in the theory's words.
use Rattle.std.proofs.Common.{◌≡◌, Bool, true, false, if◌then◌else◌, ◌⊎◌, ◌||◌, inl, inr, List, [], ◌∷◌, refl, sym, ◌∙◌, subst}
use Rattle.ceal_base.specs.Operators.{same_block, same_place}
use Rattle.ceal_base.specs.declared.forest.Key.{Key}
use Rattle.ceal_base.specs.declared.word.BlockId.{BlockId}
use Rattle.ceal_base.specs.declared.word.Place.{Place}
use Rattle.ceal_base.specs.declared.word.Word.{Word}
use Rattle.ceal_code.specs.Program.{Code}
use Rattle.ceal_code.specs.Replay.{Store, cleared, stored}
use Rattle.ceal_repair.proofs.QueueCover.Chain.{stored-same}
use Rattle.ceal_repair.specs.AsItems.{nodes_of, StartsAt, StartsAll}
use Rattle.ceal_repair.specs.Covered.{Queue, Seen, content_after, with_seen, seen_after, Covers}
use Rattle.ceal_theory.specs.Cover.{Covered, Waiting, none_waits, waiting_after_write, waiting_after_read}
use Rattle.ceal_trace.specs.Nodes.{Entry}
use Rattle.ceal_trace.specs.declared.node.Node.{Node}
use Rattle.ceal_trace.specs.declared.node.Node.TheVariants.{Root, Alloc, Write, Read, End}

picked : (t : Bool) (d x y : Word) → (if t then d else x) ≡ x → x ≡ y → x ≡ (if t then d else y)
picked true d x y e h = sym e
picked false d x y e h = h

cleared-same : (code : Code) (s s' : Store) (b : BlockId) (key : Key) → ((p : Place) → s p ≡ s' p) → ((p : Place) → cleared code s b key p ≡ s p) → (p : Place) → s p ≡ cleared code s' b key p
unfolding cleared
cleared-same code s s' b key h k p = picked (same_block p.block b) _ (s p) (s' p) (k p) (h p)

closed-more : (g : Seen) (w : Waiting) (p : Place) → ((x : Place) → g x ≡ true → w x ≡ true) → (x : Place) → with_seen g p false x ≡ true → waiting_after_write w p x ≡ true
unfolding with_seen waiting_after_write
closed-more g w p k x e = go (same_place x p) e
  where
    go : (t : Bool) → (if t then false else g x) ≡ true → (if t then false else w x) ≡ true
    go true e = e
    go false e = k x e

opened-more : (g : Seen) (w : Waiting) (p : Place) (b : Bool) → ((x : Place) → g x ≡ true → w x ≡ true) → (x : Place) → (if b then with_seen g p true else g) x ≡ true → waiting_after_read w p b x
    ≡ true
unfolding with_seen waiting_after_read
opened-more g w p true k x e = go (same_place x p) (w x) (k x) e
  where
    go : (t v : Bool) → (g x ≡ true → v ≡ true) → (if t then true else g x) ≡ true → (if t then v || true else v) ≡ true
    go true true h e = refl
    go true false h e = refl
    go false v h e = h e
opened-more g w p false k x e = go (same_place x p) (w x) (k x e)
  where
    go : (t v : Bool) → v ≡ true → (if t then v || false else v) ≡ true
    go true true h = refl
    go false true h = refl
    go t false h = absurd (let no : false ≡ true = h in cc)

abbrev Too : Code → Queue → List Entry → Type 0
Too code q es =
    (s s' : Store) (g : Seen) (w : Waiting) → ((p : Place) → s p ≡ s' p) → ((p : Place) → g p ≡ true → w p ≡ true) → StartsAll code s es → Covers q s g es → Covered code q s' w (nodes_of es)

node-too : (code : Code) (q : Queue) (e : Entry) (es : List Entry) → Too code q es → Too code q (e ∷ es)
node-too code q e es on s s' g w h k a c = go e.node refl
  where
    starts : (i : Node) → e.node ≡ i → StartsAt code s i
    starts i is = subst (λ n. StartsAt code s n) is a.0

    rest : (i : Node) → e.node ≡ i → StartsAll code (content_after s i) es × Covers q (content_after s i) (seen_after q g e.stamp i) es
    rest i is = subst (λ n. StartsAll code (content_after s n) es × Covers q (content_after s n) (seen_after q g e.stamp n) es) is (a.1, c.1)

    go : (i : Node) → e.node ≡ i → Covered code q s' w (nodes_of (e ∷ es))
    go Root is = let r = rest Root is in rw is (on s s' g w h k r.0 r.1)
    go (End z) is = let r = rest (End z) is in rw is (on s s' g w h k r.0 r.1)
    go (Alloc b key) is = let r = rest (Alloc b key) is in rw is (on s (cleared code s' b key) g w (cleared-same code s s' b key h (starts (Alloc b key) is)) k r.0 r.1)
    go (Write p v) is =
        let r = rest (Write p v) is in
        rw is (on (stored s p v) (stored s' p v) (with_seen g p false) (waiting_after_write w p) (λ x. stored-same s s' p v x (h x)) (closed-more g w p k) r.0 r.1)
    go (Read p v u y args) is =
        let r = rest (Read p v u y args) is in
        let own : (s p ≡ v) ⊎ ((if q e.stamp then with_seen g p true else g) p ≡ true) = rw is at c.0 in
        rw is (
          elim own [ inl x ↦ inl (sym (h p) ∙ x) | inr x ↦ inr (opened-more g w p (q e.stamp) k p x) ],
          on s s' (if q e.stamp then with_seen g p true else g) (waiting_after_read w p (q e.stamp)) h (opened-more g w p (q e.stamp) k) r.0 r.1,
        )

pub covered-too : (code : Code) (q : Queue) (es : List Entry) → Too code q es
covered-too code q [] s s' g w h k a c = tt
covered-too code q (e ∷ es) s s' g w h k a c = node-too code q e es (covered-too code q es) s s' g w h k a c

pub covered-as-items : (code : Code) (q : Queue) (s : Store) (es : List Entry) → StartsAll code s es → Covers q s (λ p. false) es → Covered code q s none_waits (nodes_of es)
covered-as-items code q s es a c = covered-too code q es s s (λ p. false) none_waits (λ p. refl) (λ p e. absurd (let no : false ≡ true = e in cc)) a c
