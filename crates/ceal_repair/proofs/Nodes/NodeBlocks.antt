-- What steps and new nodes leave as it was.
use Rattle.std.proofs.Common.{◌≡◌, ℕ, zero, suc, inl, inr, List, [], ◌∷◌, ◌++◌, refl, ap, ◌∙◌}
use Rattle.std.proofs.lemmas.Bool.Decides.{eqb_tells}
use Rattle.ceal_base.specs.declared.forest.Item.{Item}
use Rattle.ceal_base.specs.declared.word.BlockId.TheVariants.{Input, Core}
use Rattle.ceal_repair.specs.Moment.{Unfinished}
use Rattle.ceal_repair.specs.Frames.{Frame, Begun, Taken, Kept}
use Rattle.ceal_theory.specs.KnownContent.{allocs}
use Rattle.ceal_trace.specs.Items.{ticks, item_of, forest_of}
use Rattle.ceal_trace.specs.Nodes.{Entry, node_at, end_in, new_entry, with_entry_after, with_steps}
use Rattle.ceal_trace.specs.declared.node.Node.{Node}
use Rattle.ceal_trace.specs.declared.node.Node.TheVariants.{Root, Alloc, Write, Read, End}

-- the core blocks that a node allocates, before those of later ones
abbrev pub node_blocks : Node → List ℕ → List ℕ
node_blocks (Alloc (Core b) key) bs = b ∷ bs
node_blocks (Alloc (Input i) key) bs = bs
node_blocks Root bs = bs
node_blocks (Write p v) bs = bs
node_blocks (Read p v u x args) bs = bs
node_blocks (End r) bs = bs

abbrev pub blocks_at : List Entry → List ℕ
blocks_at [] = []
blocks_at (e ∷ es) = node_blocks e.node (blocks_at es)

allocs-ticks : (n : ℕ) (is : List Item) → allocs (ticks n ++ is) ≡ allocs is
allocs-ticks zero is = refl
allocs-ticks (suc n) is = allocs-ticks n is

pub allocs-nodes : (es : List Entry) → allocs (forest_of es) ≡ blocks_at es
allocs-nodes [] = refl
allocs-nodes (e ∷ es) = go e.node ∙ ap (node_blocks e.node) (allocs-ticks e.steps (forest_of es) ∙ allocs-nodes es)
  where
    go : (node : Node) → allocs (item_of node ++ (ticks e.steps ++ forest_of es)) ≡ node_blocks node (allocs (ticks e.steps ++ forest_of es))
    go Root = refl
    go (Alloc (Core b) key) = refl
    go (Alloc (Input i) key) = refl
    go (Write p v) = refl
    go (Read p v u x args) = refl
    go (End r) = refl

pub blocks-step : (s n : ℕ) (es : List Entry) → blocks_at (with_steps s n es) ≡ blocks_at es
blocks-step s n [] = refl
blocks-step s n (e ∷ es) = elim (eqb_tells e.stamp s) [ inl p ↦ rw p.0 refl | inr p ↦ rw p.0 (ap (node_blocks e.node) (blocks-step s n es)) ]

pub blocks-put : (after s : ℕ) (node : Node) → ((bs : List ℕ) → node_blocks node bs ≡ bs) → (es : List Entry) → blocks_at (with_entry_after after (new_entry s node) es) ≡ blocks_at es
blocks-put after s node h [] = refl
blocks-put after s node h (e ∷ es) = elim (eqb_tells e.stamp after) [
  | inl p ↦ rw p.0 (ap (node_blocks e.node) (h (blocks_at es)))
  | inr p ↦ rw p.0 (ap (node_blocks e.node) (blocks-put after s node h es))
]

pub node-step : (u s n : ℕ) (es : List Entry) → node_at u (with_steps s n es) ≡ node_at u es
node-step u s n [] = refl
node-step u s n (e ∷ es) = elim (eqb_tells e.stamp s) [
  | inl p ↦ rw p.0 (elim (eqb_tells e.stamp u) [ inl q ↦ rw q.0 refl | inr q ↦ rw q.0 refl ])
  | inr p ↦ rw p.0 (elim (eqb_tells e.stamp u) [ inl q ↦ rw q.0 refl | inr q ↦ rw q.0 (node-step u s n es) ])
]

pub unfinished-ends : (fs : List Frame) (old new : List Entry) → ((r : ℕ) → end_in r new ≡ end_in r old) → Unfinished fs old → Unfinished fs new
unfinished-ends [] old new h u = tt
unfinished-ends (Begun below read ∷ fs) old new h u = (h read.0 ∙ u.0, unfinished-ends fs old new h u.1)
unfinished-ends (Taken below limit ∷ fs) old new h u = unfinished-ends fs old new h u
unfinished-ends (Kept until ∷ fs) old new h u = unfinished-ends fs old new h u
