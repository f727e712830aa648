-- Nodes before and after one of them.
use Rattle.std.proofs.Common.{◌≡◌, ◌≢◌, ℕ, inl, inr, ◌+◌, true, false, List, [], ◌∷◌, ◌++◌, length, append_assoc, refl, sym, ap, ◌∙◌, subst, arith, Some}
use Rattle.std.proofs.lemmas.Bool.Decides.{eqb_tells}
use Rattle.std.proofs.lemmas.Bool.{eq-eqb}
use Rattle.ceal_base.specs.declared.forest.Item.{Item}
use Rattle.ceal_order.specs.Stamps.{NotIn, Distinct}
use Rattle.ceal_trace.specs.Nodes.{Entry, stamps_in, has_node, position, entry_at, steps_sum, with_entry_after, without_entry, changed_at}
use Rattle.ceal_trace.specs.Items.{ticks, item_of, forest_of}

pub stamps-append : (front back : List Entry) → stamps_in (front ++ back) ≡ stamps_in front ++ stamps_in back
stamps-append [] back = refl
stamps-append (e ∷ es) back = ap (λ (l : List ℕ). e.stamp ∷ l) (stamps-append es back)

pub sum-append : (front back : List Entry) → steps_sum (front ++ back) ≡ steps_sum front + steps_sum back
sum-append [] back = omega arith
sum-append (e ∷ es) back = let rest = sum-append es back in omega arith

pub forest-append : (front back : List Entry) → forest_of (front ++ back) ≡ forest_of front ++ forest_of back
forest-append [] back = refl
forest-append (e ∷ es) back =
    ap (λ (l : List Item). item_of e.node ++ (ticks e.steps ++ l)) (forest-append es back)
    ∙ (ap (λ (l : List Item). item_of e.node ++ l) (sym (append_assoc (ticks e.steps) (forest_of es) (forest_of back)))
    ∙ sym (append_assoc (item_of e.node) (ticks e.steps ++ forest_of es) (forest_of back)))

-- the place of a node
pub split_at : (s : ℕ) (nodes : List Entry) → has_node s nodes ≡ true
    → (front : List Entry) × (e : Entry) × (back : List Entry) × (nodes ≡ front ++ e ∷ back) × (e.stamp ≡ s) × (has_node s front ≡ false)
split_at s [] found = absurd (cc)
split_at s (e ∷ es) found = elim (eqb_tells e.stamp s) [
  | inl p ↦ ([], e, es, refl, p.1, refl)
  | inr p ↦
      let rest = split_at s es (rw p.0 at found) in
      (e ∷ rest.0, rest.1, rest.2, ap (λ (l : List Entry). e ∷ l) rest.3, rest.4, rw p.0 rest.5)
]

NotIn-has : (s : ℕ) (es back : List Entry) → NotIn s (stamps_in (es ++ back)) → has_node s es ≡ false
NotIn-has s [] back none = refl
NotIn-has s (e ∷ es) back none = elim (eqb_tells e.stamp s) [
  | inl p ↦ absurd (none.0 (sym p.1))
  | inr p ↦ rw p.0 (NotIn-has s es back none.1)
]

NotIn-mid : (s : ℕ) (front : List Entry) (e : Entry) (back : List Entry) → NotIn s (stamps_in (front ++ e ∷ back)) → s ≢ e.stamp
NotIn-mid s [] e back none = none.0
NotIn-mid s (x ∷ xs) e back none = NotIn-mid s xs e back none.1

-- a node's stamp is that of no node before it, and of none after it
pub not_before : (front : List Entry) (e : Entry) (back : List Entry) → Distinct (stamps_in (front ++ e ∷ back)) → has_node e.stamp front ≡ false
not_before [] e back distinct = refl
not_before (x ∷ xs) e back distinct = elim (eqb_tells x.stamp e.stamp) [
  | inl p ↦ absurd (NotIn-mid x.stamp xs e back distinct.0 p.1)
  | inr p ↦ rw p.0 (not_before xs e back distinct.1)
]

append-none : (es : List Entry) → es ++ [] ≡ es
append-none [] = refl
append-none (e ∷ es) = ap (λ (l : List Entry). e ∷ l) (append-none es)

pub not_behind : (front : List Entry) (e : Entry) (back : List Entry) → Distinct (stamps_in (front ++ e ∷ back)) → has_node e.stamp back ≡ false
not_behind [] e back distinct = NotIn-has e.stamp back [] (subst (λ (l : List Entry). NotIn e.stamp (stamps_in l)) (sym (append-none back)) distinct.0)
not_behind (x ∷ xs) e back distinct = not_behind xs e back distinct.1

module _ (e : Entry) (back : List Entry) where
  pub entry-part : (front : List Entry) → has_node e.stamp front ≡ false → entry_at e.stamp (front ++ e ∷ back) ≡ Some e
  entry-part [] none = rw (eq-eqb e.stamp e.stamp refl) refl
  entry-part (x ∷ xs) none = elim (eqb_tells x.stamp e.stamp) [
    | inl p ↦ absurd (let no : true ≡ false = rw p.0 at none in cc)
    | inr p ↦ rw p.0 (entry-part xs (rw p.0 at none))
  ]

  pub position-part : (front : List Entry) → has_node e.stamp front ≡ false → position e.stamp (front ++ e ∷ back) ≡ length front
  position-part [] none = rw (eq-eqb e.stamp e.stamp refl) refl
  position-part (x ∷ xs) none = elim (eqb_tells x.stamp e.stamp) [
    | inl p ↦ absurd (let no : true ≡ false = rw p.0 at none in cc)
    | inr p ↦ rw p.0 (let rest = position-part xs (rw p.0 at none) in omega arith)
  ]

  pub after-part : (new : Entry) (front : List Entry) → has_node e.stamp front ≡ false → with_entry_after e.stamp new (front ++ e ∷ back) ≡ front ++ e ∷ new ∷ back
  after-part new [] none = rw (eq-eqb e.stamp e.stamp refl) refl
  after-part new (x ∷ xs) none = elim (eqb_tells x.stamp e.stamp) [
    | inl p ↦ absurd (let no : true ≡ false = rw p.0 at none in cc)
    | inr p ↦ rw p.0 (ap (λ (l : List Entry). x ∷ l) (after-part new xs (rw p.0 at none)))
  ]

  pub without-part : (front : List Entry) → has_node e.stamp front ≡ false → without_entry e.stamp (front ++ e ∷ back) ≡ front ++ back
  without-part [] none = rw (eq-eqb e.stamp e.stamp refl) refl
  without-part (x ∷ xs) none = elim (eqb_tells x.stamp e.stamp) [
    | inl p ↦ absurd (let no : true ≡ false = rw p.0 at none in cc)
    | inr p ↦ rw p.0 (ap (λ (l : List Entry). x ∷ l) (without-part xs (rw p.0 at none)))
  ]

  pub changed-part : (change : Entry → Entry) (front : List Entry) → has_node e.stamp front ≡ false → changed_at e.stamp change (front ++ e ∷ back) ≡ front ++ change e ∷ back
  changed-part change [] none = rw (eq-eqb e.stamp e.stamp refl) refl
  changed-part change (x ∷ xs) none = elim (eqb_tells x.stamp e.stamp) [
    | inl p ↦ absurd (let no : true ≡ false = rw p.0 at none in cc)
    | inr p ↦ rw p.0 (ap (λ (l : List Entry). x ∷ l) (changed-part change xs (rw p.0 at none)))
  ]
