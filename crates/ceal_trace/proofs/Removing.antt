-- A trace with one node less.
use Rattle.std.proofs.Common.{◌≡◌, ◌≢◌, ℕ, suc, inl, inr, ◌+◌, ◌-◌, ◌<◌, ◌≤◌, true, false, List, length, refl, sym, ap, subst, ◌∙◌, arith, Option, Some, None}
use Rattle.std.proofs.lemmas.Bool.{cases_Bool}
use Rattle.ceal_order.specs.Stamps.{Listing, IsOrder, OneMore, is_in, head_of, without}
use Rattle.ceal_trace.specs.declared.node.Node.{Node}
use Rattle.ceal_trace.specs.Nodes.{Entry, stamps_in, held_by, steps_on, node_at, steps_at, steps_sum, ends, end_in, without_entry, IsTrace, NoLooseEnd, LooseEndOf, OneMoreNode}
use Rattle.ceal_trace.specs.Rows.{Table}
use Rattle.ceal_trace.specs.Keeping.{steps_of, node_of, entry_of, listed, timeline, noted, HasNodes, KnowsEnds, Sound, TakenFrom}
use Rattle.ceal_trace.proofs.Stamped.{apart, length-without}
use Rattle.ceal_trace.proofs.Entries.{ends_is, stamps-without, sum-without}
use Rattle.ceal_trace.proofs.Listings.{listed_without}
use Rattle.ceal_trace.proofs.Shapes.{one_less_node, ends_but, end_gone, end_left, less_trace, less_loose, less_closed, less_still, less_mended}
use Rattle.ceal_trace.proofs.Keeps.{entry_eq, stamps_are, is_there, entry_found}

-- the node that a table keeps is that of the trace
pub held_is : (order : Listing) (t : Table) (s : ℕ) → is_in s order.stamps ≡ true → node_at s (timeline order t).nodes ≡ Some (node_of t s)
held_is order t s found = ap held_by (entry_found order t s found)

pub steps_are : (order : Listing) (t : Table) (s : ℕ) → is_in s order.stamps ≡ true → steps_at s (timeline order t).nodes ≡ steps_of t s
steps_are order t s found = ap steps_on (entry_found order t s found)

-- at a stamp there is one node
pub some_same : (a b : Node) (o : Option Node) → o ≡ Some a → o ≡ Some b → a ≡ b
some_same a b o first second = cc

-- the read that a node ends has a row
pub end_row : (order : Listing) (t : Table) (s steps : ℕ) → Sound order t steps → is_in s order.stamps ≡ true
    → (read : ℕ) → ends read (node_of t s) ≡ true → read < length t.rows
end_row order t s steps sound found read does =
    let end = sound.is_trace.one_end s (record { 0 = read }) (held_is order t s found ∙ ap (λ (n : Node). Some n) (ends_is read (node_of t s) does)) in
    (sound.knows_ends.end_noted s read end).0

-- what a call says that took the node at s out
pub record Shrank (order order' : Listing) (t t' : Table) (s steps : ℕ) (gone : Node) : Type 0 where
  pub sound : Sound order' t' (steps - steps_of t s)
  pub nodes : (timeline order' t').nodes ≡ without_entry s (timeline order t).nodes
  pub node : node_at s (timeline order t).nodes ≡ Some gone
  pub others : OneMoreNode s (timeline order' t').nodes (timeline order t).nodes
  pub opened : (read : ℕ) → ends read gone ≡ true → end_in read (timeline order' t').nodes ≡ None
  pub other_ends : (read : ℕ) → ends read gone ≡ false → end_in read (timeline order' t').nodes ≡ end_in read (timeline order t).nodes
  pub loose : NoLooseEnd (timeline order t).nodes → LooseEndOf s (timeline order' t').nodes
  pub closed : NoLooseEnd (timeline order t).nodes → end_in s (timeline order t).nodes ≡ None → NoLooseEnd (timeline order' t').nodes
  pub still : (read : ℕ) → LooseEndOf read (timeline order t).nodes → end_in s (timeline order t).nodes ≡ None → LooseEndOf read (timeline order' t').nodes
  pub mended : (read : ℕ) → LooseEndOf read (timeline order t).nodes → ends read gone ≡ true → NoLooseEnd (timeline order' t').nodes

module _ (order order' : Listing) (t t' : Table) (s steps : ℕ) (node : Node)
    (sound : Sound order t steps)
    (here : is_in s order.stamps ≡ true)
    (not_root : head_of (stamps_in (timeline order t).nodes) ≢ Some s)
    (stamps : order'.stamps ≡ without s order.stamps)
    (spare : order'.spare ≡ order.spare + 1)
    (one : OneMore s order'.stamps order.stamps)
    (whole : IsOrder order')
    (taken : TakenFrom s node t t') where
  abbrev es : List Entry
  es = (timeline order t).nodes

  abbrev rest : List Entry
  rest = without_entry s (timeline order t).nodes

  stamps_rest : stamps_in rest ≡ order'.stamps
  stamps_rest = stamps-without s es ∙ (ap (λ (l : List ℕ). without s l) (stamps_are order t) ∙ sym stamps)

  one_es : OneMore s (stamps_in rest) (stamps_in es)
  one_es = subst (λ (l : List ℕ). OneMore s l (stamps_in es)) (sym stamps_rest) (subst (λ (l : List ℕ). OneMore s order'.stamps l) (sym (stamps_are order t)) one)

  order_es : IsOrder (record { stamps = stamps_in rest; spare = order'.spare })
  order_es = subst (λ (l : List ℕ). IsOrder (record { stamps = l; spare = order'.spare })) (sym stamps_rest) whole

  held : node_at s es ≡ Some node
  held = held_is order t s here ∙ ap (λ (n : Node). Some n) taken.was

  nodes_are : (timeline order' t').nodes ≡ rest
  nodes_are =
      ap (λ (l : List ℕ). listed (entry_of t') l) stamps
      ∙ listed_without (entry_of t) (entry_of t') (λ k. refl) s order.stamps sound.is_order.distinct (λ u found other. entry_eq t t' u (taken.others u other) (taken.steps u))

  shorter : suc (length order'.stamps) ≡ length order.stamps
  shorter = ap (λ (l : List ℕ). suc (length l)) stamps ∙ length-without s order.stamps here

  -- a stamp that is left was there
  was_there : (u : ℕ) → is_in u order'.stamps ≡ true → (is_in u order.stamps ≡ true) × (u ≢ s)
  was_there u found = (one.others u found, apart u s order'.stamps found one.absent)

  has : HasNodes order' t'
  has = record {
    rows = let rows = sound.has_nodes.rows in let long = taken.long in omega (arith, shorter, spare);
    count = let less = taken.count in let count = sound.has_nodes.count in omega (arith, shorter);
    held = λ u found. taken.held u (was_there u found).1 ∙ sound.has_nodes.held u (was_there u found).0;
    low = λ u found. let low = sound.has_nodes.low u (was_there u found).0 in let same = taken.steps u in omega arith;
  }

  ends_same : (read : ℕ) → ends read node ≡ false → end_in read rest ≡ end_in read es
  ends_same = ends_but es order.spare order'.spare s node sound.is_trace held one_es order_es

  ends_gone : (read : ℕ) → ends read node ≡ true → end_in read rest ≡ None
  ends_gone = end_gone es order.spare order'.spare s node sound.is_trace held one_es order_es

  knows : KnowsEnds t' rest
  knows = record {
    noted_end = λ u there. elim (cases_Bool (ends u node)) [
      | inl p ↦ ap noted (taken.opened u p) ∙ sym (ends_gone u p)
      | inr p ↦ ap noted (taken.ends u p) ∙ (sound.knows_ends.noted_end u (one_es.others u there) ∙ sym (ends_same u p))
    ];
    end_noted = λ x read found.
        let was = sound.knows_ends.end_noted x read (end_left es order.spare order'.spare s node sound.is_trace held one_es order_es x read found) in
        let low = was.0 in
        let long = taken.long in (
          omega arith,
          elim (cases_Bool (ends read node)) [
            | inl p ↦ absurd (let no : Some x ≡ None = sym found ∙ ends_gone read p in cc)
            | inr p ↦ taken.ends read p ∙ was.1
          ],
        );
  }

  pub shrank : Shrank order order' t t' s steps node
  shrank = record {
    sound = record {
      is_order = whole;
      is_trace = subst (λ (l : List Entry). IsTrace (record { nodes = l; spare = order'.spare; touched = 0 })) (sym nodes_are)
          (less_trace es order.spare order'.spare s node sound.is_trace held one_es order_es not_root);
      has_nodes = has;
      knows_ends = subst (λ (l : List Entry). KnowsEnds t' l) (sym nodes_are) knows;
      sum =
          let less = sum-without s es (is_there order t s here) in
          let sum = sound.sum in
          let own = steps_are order t s here in
          let left : steps - steps_of t s ≡ steps_sum rest = omega arith in
          left ∙ ap steps_sum (sym nodes_are);
    };
    nodes = nodes_are;
    node = held;
    others = subst (λ (l : List Entry). OneMoreNode s l es) (sym nodes_are) (one_less_node es order.spare order'.spare s node sound.is_trace held one_es order_es not_root);
    opened = λ read does. ap (λ (l : List Entry). end_in read l) nodes_are ∙ ends_gone read does;
    other_ends = λ read other. ap (λ (l : List Entry). end_in read l) nodes_are ∙ ends_same read other;
    loose = λ closed. subst (λ (l : List Entry). LooseEndOf s l) (sym nodes_are) (less_loose es order.spare order'.spare s node sound.is_trace held one_es order_es closed);
    closed = λ closed unfinished. subst (λ (l : List Entry). NoLooseEnd l) (sym nodes_are) (less_closed es order.spare order'.spare s node sound.is_trace held one_es order_es closed unfinished);
    still = λ read loose unfinished. subst (λ (l : List Entry). LooseEndOf read l) (sym nodes_are)
        (less_still es order.spare order'.spare s node sound.is_trace held one_es order_es read loose unfinished);
    mended = λ read loose does. subst (λ (l : List Entry). NoLooseEnd l) (sym nodes_are) (less_mended es order.spare order'.spare s node sound.is_trace held one_es order_es read loose does);
  }

pub steps_within : (order : Listing) (t : Table) (s steps : ℕ) → Sound order t steps → is_in s order.stamps ≡ true → steps_of t s ≤ steps
steps_within order t s steps sound here =
    let less = sum-without s (timeline order t).nodes (is_there order t s here) in
    let sum = sound.sum in
    let own = steps_are order t s here in
    omega arith
