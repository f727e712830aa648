-- A table keeps a trace while nodes are put into it and taken out.
use Rattle.std.proofs.Common.{◌≡◌, ◌≢◌, ℕ, suc, inl, inr, ◌+◌, ◌<◌, true, List, length, refl, sym, ap, ◌∙◌, arith, Some}
use Rattle.std.proofs.lemmas.Bool.Decides.{eqb_tells}
use Rattle.ceal_order.specs.Stamps.{Listing, IsOrder, OneMore, is_in, with_after}
use Rattle.ceal_trace.specs.declared.node.Node.{Node}
use Rattle.ceal_trace.specs.Nodes.{Entry, Timeline, IsTrace, stamps_in, has_node, entry_at, with_entry_after, new_entry}
use Rattle.ceal_trace.specs.Rows.{Row, Table, row_of, no_stamp}
use Rattle.ceal_trace.specs.Keeping.{held_at, steps_of, node_of, entry_of, listed, timeline, noted, HasNodes, PutAt}
use Rattle.ceal_trace.proofs.Stamped.{apart, below_of, length-after}
use Rattle.ceal_trace.proofs.Listings.{stamps_listed, entry_listed, listed_after}

-- ---- what a table keeps of a stamp

abbrev made : ℕ → Node → ℕ → Entry
made s node steps = record { stamp = s; node = node; steps = steps }

pub entry_eq : (t t' : Table) (s : ℕ) → node_of t' s ≡ node_of t s → steps_of t' s ≡ steps_of t s → entry_of t' s ≡ entry_of t s
entry_eq t t' s same_node same_steps = ap (λ (n : Node). made s n (steps_of t' s)) same_node ∙ ap (λ (k : ℕ). made s (node_of t s) k) same_steps

pub entry_is : (t : Table) (s : ℕ) (node : Node) → node_of t s ≡ node → steps_of t s ≡ 0 → entry_of t s ≡ new_entry s node
entry_is t s node is none = ap (λ (n : Node). made s n (steps_of t s)) is ∙ ap (λ (k : ℕ). made s node k) none

module _ (order : Listing) (t : Table) where
  pub stamps_are : stamps_in (timeline order t).nodes ≡ order.stamps
  stamps_are = stamps_listed (entry_of t) (λ s. refl) order.stamps

  pub there_is : (s : ℕ) → has_node s (timeline order t).nodes ≡ true → is_in s order.stamps ≡ true
  there_is s there = ap (λ (l : List ℕ). is_in s l) (sym stamps_are) ∙ there

  pub is_there : (s : ℕ) → is_in s order.stamps ≡ true → has_node s (timeline order t).nodes ≡ true
  is_there s found = ap (λ (l : List ℕ). is_in s l) stamps_are ∙ found

  pub entry_found : (s : ℕ) → is_in s order.stamps ≡ true → entry_at s (timeline order t).nodes ≡ Some (entry_of t s)
  entry_found s found = entry_listed (entry_of t) (λ k. refl) s order.stamps found

-- a stamp of an order is not the number that stands for none
pub noted_stamp : (order : Listing) (s : ℕ) → IsOrder order → is_in s order.stamps ≡ true → noted s ≡ Some s
noted_stamp order s is_order found =
    let low : s < length order.stamps + order.spare = below_of s (length order.stamps + order.spare) order.stamps found is_order.below in
    let few = is_order.few in
    elim (eqb_tells s no_stamp) [ inl p ↦ absurd (let same = p.1 in omega arith) | inr p ↦ rw p.0 refl ]

-- each stamp has a row
pub row_bound : (order : Listing) (t : Table) (s : ℕ) → IsOrder order → HasNodes order t → is_in s order.stamps ≡ true → s < length t.rows
row_bound order t s is_order has found =
    let low : s < length order.stamps + order.spare = below_of s (length order.stamps + order.spare) order.stamps found is_order.below in
    let rows = has.rows in
    omega arith

-- a new stamp has a row
pub new_row : (order order' : Listing) (t : Table) (s f : ℕ) → HasNodes order t → is_in s order.stamps ≡ true → order'.stamps ≡ with_after s f order.stamps
    → order'.spare + 1 ≡ order.spare → f < length order'.stamps + order'.spare → f < length t.rows
new_row order order' t s f has here stamps spare below =
    let longer : length order'.stamps ≡ suc (length order.stamps) = ap (λ (l : List ℕ). length l) stamps ∙ length-after s f order.stamps here in
    let rows = has.rows in
    omega arith

-- there are fewer nodes than rows, where a new one comes
pub new_count : (order order' : Listing) (t : Table) → HasNodes order t → order'.spare + 1 ≡ order.spare → t.count < length t.rows
new_count order order' t has spare =
    let rows = has.rows in
    let count = has.count in
    omega arith

-- ---- a node more

module _ (order order' : Listing) (t t' : Table) (s f : ℕ) (node : Node)
    (has : HasNodes order t) (here : is_in s order.stamps ≡ true)
    (stamps : order'.stamps ≡ with_after s f order.stamps)
    (spare : order'.spare + 1 ≡ order.spare)
    (one : OneMore f order.stamps order'.stamps)
    (put : PutAt f node t t') where
  old_apart : (u : ℕ) → is_in u order.stamps ≡ true → u ≢ f
  old_apart u found = apart u f order.stamps found one.absent

  node_put : (u : ℕ) → is_in u order.stamps ≡ true → node_of t' u ≡ node_of t u
  node_put u found = ap (λ (r : Row). r.node) (put.rows u (old_apart u found))

  row_put : (u : ℕ) → is_in u order.stamps ≡ true → row_of t'.rows u ≡ row_of t.rows u
  row_put u found = put.rows u (old_apart u found)

  entry_put : (u : ℕ) → is_in u order.stamps ≡ true → entry_of t' u ≡ entry_of t u
  entry_put u found = entry_eq t t' u (node_put u found) (ap (λ (r : Row). r.steps) (row_put u found))

  pub nodes_put : (timeline order' t').nodes ≡ with_entry_after s (new_entry f node) (timeline order t).nodes
  nodes_put =
      ap (λ (l : List ℕ). listed (entry_of t') l) stamps
      ∙ (listed_after (entry_of t) (entry_of t') (λ k. refl) s f order.stamps entry_put
      ∙ ap (λ (e : Entry). with_entry_after s e (listed (entry_of t) order.stamps)) (entry_is t' f node put.there put.steps))

  longer : length order'.stamps ≡ suc (length order.stamps)
  longer = ap (λ (l : List ℕ). length l) stamps ∙ length-after s f order.stamps here

  pub has_put : HasNodes order' t'
  has_put = record {
    rows = let long = put.long in let rows = has.rows in omega (arith, longer, spare, long, rows);
    count = let more = put.count in let count = has.count in omega (arith, longer, more, count);
    held = λ u found. elim (eqb_tells u f) [
      | inl p ↦ ap (λ (k : ℕ). held_at t' k) p.1 ∙ put.held
      | inr p ↦ let old = one.only u found p.1 in ap (λ (r : Row). r.held) (row_put u old) ∙ has.held u old
    ];
    low = λ u found. elim (eqb_tells u f) [
      | inl p ↦ let none : steps_of t' u ≡ 0 = ap (λ (k : ℕ). steps_of t' k) p.1 ∙ put.steps in omega arith
      | inr p ↦
          let old = one.only u found p.1 in
          let low = has.low u old in
          let same : steps_of t' u ≡ steps_of t u = ap (λ (r : Row). r.steps) (row_put u old) in
          omega arith
    ];
  }

-- how often nodes were touched is no matter
pub trace-touched : (n : ℕ) (t : Timeline) → IsTrace t → IsTrace (record t { touched = n })
trace-touched n t h = record {
  order = h.order;
  first_root = h.first_root;
  only_root = h.only_root;
  one_end = h.one_end;
  end_node = h.end_node;
  of_read = h.of_read;
  behind = h.behind;
}
