-- The flat items of nodes, node by node.
use Rattle.std.proofs.Common.{◌≡◌, ℕ, Option, Some, None, IfSome, IfNone, inl, inr, true, false, List, [], ◌∷◌, ◌++◌, refl, sym, ap, subst, ◌∙◌, append_assoc, append-nil}
use Rattle.std.specs.Option.{option_map}
use Rattle.std.proofs.lemmas.Bool.Decides.{eqb_tells}
use Rattle.ceal_base.specs.declared.forest.Item.{Item}
use Rattle.ceal_code.proofs.Words.SameIsEqual.{some-same, none-some}
use Rattle.ceal_order.specs.Stamps.{Distinct, head_of, successor}
use Rattle.ceal_order.specs.declared.stamp.Stamp.{Stamp}
use Rattle.ceal_trace.proofs.Parts.{entry-part, not_before, forest-append}
use Rattle.ceal_trace.specs.Items.{ticks, item_of, forest_of}
use Rattle.ceal_trace.specs.Nodes.{Entry, has_node, held_by, node_at, stamps_in, steps_at, steps_on}
use Rattle.ceal_trace.specs.declared.node.Node.{Node}

-- the items of the nodes in front of the next one
pub record Walking (nodes : List Entry) (items : List Item) (next : Option Stamp) : Type 0 where
  pub front : List Entry
  pub back : List Entry
  pub whole : nodes ≡ front ++ back
  pub items_are : items ≡ forest_of front
  pub here : option_map (λ (s : Stamp). s.0) next ≡ head_of (stamps_in back)

pub walk-first : (nodes : List Entry) (root : Stamp) → head_of (stamps_in nodes) ≡ Some root.0 → Walking nodes [] (Some root)
walk-first nodes root h = record { front = []; back = nodes; whole = refl; items_are = refl; here = sym h }

-- the one after a node
after-front : (front : List Entry) (e : Entry) (es : List Entry) → has_node e.stamp front ≡ false → successor e.stamp (stamps_in (front ++ e ∷ es)) ≡ head_of (stamps_in es)
after-front [] e es h = elim (eqb_tells e.stamp e.stamp) [ inl p ↦ rw p.0 refl | inr p ↦ absurd (p.1 refl) ]
after-front (x ∷ xs) e es h = elim (eqb_tells x.stamp e.stamp) [
  | inl p ↦ absurd (let no : true ≡ false = rw p.0 at h in cc)
  | inr p ↦ rw p.0 (after-front xs e es (rw p.0 at h))
]

-- the next node is there
there-in : (front : List Entry) (e : Entry) (es : List Entry) → has_node e.stamp (front ++ e ∷ es) ≡ true
there-in [] e es = elim (eqb_tells e.stamp e.stamp) [ inl p ↦ rw p.0 refl | inr p ↦ absurd (p.1 refl) ]
there-in (x ∷ xs) e es = elim (eqb_tells x.stamp e.stamp) [ inl p ↦ rw p.0 refl | inr p ↦ rw p.0 (there-in xs e es) ]

pub walk-there : (nodes : List Entry) (items : List Item) (stamp : Stamp) → Walking nodes items (Some stamp) → has_node stamp.0 nodes ≡ true
walk-there nodes items stamp w = go w.back w.whole w.here
  where
    go : (back : List Entry) → nodes ≡ w.front ++ back → option_map (λ (s : Stamp). s.0) (Some stamp) ≡ head_of (stamps_in back) → has_node stamp.0 nodes ≡ true
    go [] e h = none-some stamp.0 (sym h)
    go (x ∷ xs) e h = ap (has_node stamp.0) e ∙ (ap (λ s. has_node s (w.front ++ x ∷ xs)) (some-same stamp.0 x.stamp h) ∙ there-in w.front x xs)

next-is : (next : Option Stamp) (o : Option ℕ) → IfSome next (λ n. o ≡ Some n.0) → IfNone next (o ≡ None) → option_map (λ (s : Stamp). s.0) next ≡ o
next-is None o some none = sym none
next-is (Some n) o some none = sym some

pub walk-more : (nodes : List Entry) → Distinct (stamps_in nodes) → (items : List Item) (stamp : Stamp) → Walking nodes items (Some stamp) → (node : Node) → node_at stamp.0 nodes ≡ Some node
    → (steps : ℕ) → steps ≡ steps_at stamp.0 nodes
    → (next : Option Stamp) → IfSome next (λ n. successor stamp.0 (stamps_in nodes) ≡ Some n.0) → IfNone next (successor stamp.0 (stamps_in nodes) ≡ None)
    → (items1 items2 : List Item) → items1 ≡ items ++ item_of node → items2 ≡ items1 ++ ticks steps → Walking nodes items2 next
walk-more nodes d items stamp w node is steps counted next some none items1 items2 more ticked = go w.back w.whole w.here
  where
    go : (back : List Entry) → nodes ≡ w.front ++ back → option_map (λ (s : Stamp). s.0) (Some stamp) ≡ head_of (stamps_in back) → Walking nodes items2 next
    go [] e h = none-some stamp.0 (sym h)
    go (x ∷ xs) e h =
        let own : stamp.0 ≡ x.stamp = some-same stamp.0 x.stamp h in
        let fresh : has_node x.stamp w.front ≡ false = not_before w.front x xs (subst (λ es. Distinct (stamps_in es)) e d) in
        let held = ap held_by (ap (Rattle.ceal_trace.specs.Nodes.entry_at x.stamp) e ∙ entry-part x xs w.front fresh) in
        let count = ap steps_on (ap (Rattle.ceal_trace.specs.Nodes.entry_at x.stamp) e ∙ entry-part x xs w.front fresh) in
        let node-is : node ≡ x.node = some-same node x.node (sym is ∙ (ap (λ s. node_at s nodes) own ∙ held)) in
        let steps-is : steps ≡ x.steps = counted ∙ (ap (λ s. steps_at s nodes) own ∙ count) in
        record {
          front = w.front ++ x ∷ [];
          back = xs;
          whole = e ∙ sym (append_assoc w.front (x ∷ []) xs);
          items_are =
              ticked
              ∙ (ap (λ is. is ++ ticks steps) (more ∙ ap (λ is. is ++ item_of node) w.items_are)
              ∙ (rw (node-is, steps-is)
              (append_assoc (forest_of w.front) (item_of x.node) (ticks x.steps)
              ∙ (ap (λ is. forest_of w.front ++ (item_of x.node ++ is)) (sym (append-nil (ticks x.steps))) ∙ sym (forest-append w.front (x ∷ []))))));
          here = next-is next (successor stamp.0 (stamps_in nodes)) some none
              ∙ (ap (λ s. successor s (stamps_in nodes)) own ∙ (ap (λ es. successor x.stamp (stamps_in es)) e ∙ after-front w.front x xs fresh));
        }

pub walk-last : (nodes : List Entry) (items : List Item) → Walking nodes items None → items ≡ forest_of nodes
walk-last nodes items w = go w.back w.whole w.here
  where
    go : (back : List Entry) → nodes ≡ w.front ++ back → None ≡ head_of (stamps_in back) → items ≡ forest_of nodes
    go [] e h = w.items_are ∙ ap forest_of (sym (e ∙ append-nil w.front))
    go (x ∷ xs) e h = none-some x.stamp h
