-- A trace with one node more.
use Rattle.std.proofs.Common.{◌≡◌, ◌≢◌, ℕ, inl, inr, ◌+◌, ◌<◌, ◌≤◌, true, List, length, sym, ap, subst, ◌∙◌, arith, Some, None}
use Rattle.std.proofs.lemmas.Bool.Decides.{eqb_tells}
use Rattle.ceal_order.specs.declared.stamp.Stamp.{Stamp}
use Rattle.ceal_order.specs.Stamps.{Listing, IsOrder, OneMore, is_in, place, with_after}
use Rattle.ceal_trace.specs.declared.node.Node.{Node}
use Rattle.ceal_trace.specs.declared.node.Node.TheVariants.{End}
use Rattle.ceal_trace.specs.Nodes.{Entry, stamps_in, has_node, position, node_at, steps_sum, is_plain, is_read, end_in, with_entry_after, new_entry, IsTrace, NoLooseEnd, Inserted}
use Rattle.ceal_trace.specs.Rows.{Row, Table, row_of}
use Rattle.ceal_trace.specs.Keeping.{end_of, entry_of, timeline, noted, HasNodes, KnowsEnds, Sound, PutAt, EndSet}
use Rattle.ceal_trace.proofs.Entries.{has-read, is_some_of, stamps-after, sum-after}
use Rattle.ceal_trace.proofs.Listings.{listed_same}
use Rattle.ceal_trace.proofs.Shapes.{inserted_as, other_than_new, new_open, ends_same, plain_trace, plain_closed, end_now, ends_others, end_trace, end_closed}
use Rattle.ceal_trace.proofs.Keeps.{entry_eq, stamps_are, there_is, is_there, noted_stamp, row_bound, nodes_put, has_put}

module _ (order order' : Listing) (t : Table) (s f : ℕ) (node : Node)
    (here : is_in s order.stamps ≡ true)
    (stamps : order'.stamps ≡ with_after s f order.stamps)
    (one : OneMore f order.stamps order'.stamps)
    (after : place f order'.stamps ≡ place s order'.stamps + 1)
    (whole : IsOrder order') where
  abbrev old : List Entry
  old = (timeline order t).nodes

  abbrev all : List Entry
  all = with_entry_after s (new_entry f node) (timeline order t).nodes

  stamps_all : stamps_in all ≡ order'.stamps
  stamps_all = stamps-after s (new_entry f node) old ∙ (ap (λ (l : List ℕ). with_after s f l) (stamps_are order t) ∙ sym stamps)

  here_old : has_node s old ≡ true
  here_old = is_there order t s here

  one_all : OneMore f (stamps_in old) (stamps_in all)
  one_all = subst (λ (l : List ℕ). OneMore f l (stamps_in all)) (sym (stamps_are order t)) (subst (λ (l : List ℕ). OneMore f order.stamps l) (sym stamps_all) one)

  order_all : IsOrder (record { stamps = stamps_in all; spare = order'.spare })
  order_all = subst (λ (l : List ℕ). IsOrder (record { stamps = l; spare = order'.spare })) (sym stamps_all) whole

  after_all : place f (stamps_in all) ≡ place s (stamps_in all) + 1
  after_all = subst (λ (l : List ℕ). place f l ≡ place s l + 1) (sym stamps_all) after

-- what a call says that put a node without steps directly after s
pub record Grew (order order' : Listing) (t t' : Table) (s f steps : ℕ) (node : Node) : Type 0 where
  pub sound : Sound order' t' steps
  pub nodes : (timeline order' t').nodes ≡ with_entry_after s (new_entry f node) (timeline order t).nodes
  pub inserted : Inserted s f node (timeline order t).nodes (timeline order' t').nodes
  pub closed : NoLooseEnd (timeline order' t').nodes

module _ (order order' : Listing) (t t' : Table) (s f steps : ℕ) (node : Node)
    (sound : Sound order t steps) (closed : NoLooseEnd (timeline order t).nodes)
    (here : is_in s order.stamps ≡ true)
    (stamps : order'.stamps ≡ with_after s f order.stamps)
    (spare : order'.spare + 1 ≡ order.spare)
    (one : OneMore f order.stamps order'.stamps)
    (after : place f order'.stamps ≡ place s order'.stamps + 1)
    (whole : IsOrder order')
    (put : PutAt f node t t') where
  abbrev es : List Entry
  es = (timeline order t).nodes

  abbrev now : List Entry
  now = with_entry_after s (new_entry f node) (timeline order t).nodes

  here_es : has_node s es ≡ true
  here_es = here_old order order' t s f node here stamps one after whole

  one_es : OneMore f (stamps_in es) (stamps_in now)
  one_es = one_all order order' t s f node here stamps one after whole

  order_es : IsOrder (record { stamps = stamps_in now; spare = order'.spare })
  order_es = order_all order order' t s f node here stamps one after whole

  after_es : place f (stamps_in now) ≡ place s (stamps_in now) + 1
  after_es = after_all order order' t s f node here stamps one after whole

  nodes_are : (timeline order' t').nodes ≡ now
  nodes_are = nodes_put order order' t t' s f node sound.has_nodes here stamps spare one put

  has : HasNodes order' t'
  has = has_put order order' t t' s f node sound.has_nodes here stamps spare one put

  is_inserted : Inserted s f node es now
  is_inserted = inserted_as es order.spare order'.spare s f node sound.is_trace here_es one_es order_es closed after_es

  none_new : end_in f es ≡ None
  none_new = new_open es order.spare order'.spare s f node sound.is_trace here_es one_es order_es closed

  sum_now : steps ≡ steps_sum now
  sum_now = let more = sum-after s (new_entry f node) es here_es in let sum = sound.sum in omega arith

  -- the end of another read was noted before
  read_row : (x read : ℕ) → end_in read es ≡ Some x → row_of t'.rows read ≡ row_of t.rows read
  read_row x read found = put.rows read
      (other_than_new es order.spare order'.spare s f node sound.is_trace here_es one_es order_es closed read (closed.read_there read (is_some_of (end_in read es) x found)))

  noted_before : (x read : ℕ) → end_in read es ≡ Some x → (read < length t'.rows) × (end_of t' read ≡ x)
  noted_before x read found =
      let was = sound.knows_ends.end_noted x read found in
      let low = was.0 in
      let long = put.long in
      (omega arith, ap (λ (r : Row). r.end) (read_row x read found) ∙ was.1)

  -- what the row of a node says of its end as it was
  noted_was : (u : ℕ) → has_node u now ≡ true → noted (end_of t' u) ≡ end_in u es
  noted_was u there = elim (eqb_tells u f) [
    | inl p ↦
        let none : noted (end_of t' f) ≡ None = ap noted put.end in
        subst (λ (k : ℕ). noted (end_of t' k) ≡ end_in k es) (sym p.1) (none ∙ sym none_new)
    | inr p ↦
        let old_there : has_node u es ≡ true = one_es.only u there p.1 in
        ap noted (ap (λ (r : Row). r.end) (put.rows u p.1)) ∙ sound.knows_ends.noted_end u old_there
  ]

  -- ---- which is no end

  module _ (plain : is_plain node ≡ true) where
    same_ends : (read : ℕ) → end_in read now ≡ end_in read es
    same_ends read = ends_same es order.spare order'.spare s f node sound.is_trace here_es one_es order_es closed plain read

    pub plain_grew : Grew order order' t t' s f steps node
    plain_grew = record {
      sound = record {
        is_order = whole;
        is_trace = subst (λ (l : List Entry). IsTrace (record { nodes = l; spare = order'.spare; touched = 0 })) (sym nodes_are)
            (plain_trace es order.spare order'.spare s f node sound.is_trace here_es one_es order_es closed plain);
        has_nodes = has;
        knows_ends = subst (λ (l : List Entry). KnowsEnds t' l) (sym nodes_are) (record {
          noted_end = λ u there. noted_was u there ∙ sym (same_ends u);
          end_noted = λ x read found. noted_before x read (sym (same_ends read) ∙ found);
        });
        sum = sum_now ∙ ap steps_sum (sym nodes_are);
      };
      nodes = nodes_are;
      inserted = subst (λ (l : List Entry). Inserted s f node es l) (sym nodes_are) is_inserted;
      closed = subst (λ (l : List Entry). NoLooseEnd l) (sym nodes_are) (plain_closed es order.spare order'.spare s f node sound.is_trace here_es one_es order_es closed plain);
    }

    pub plain_ends_are : (read : ℕ) → end_in read (timeline order' t').nodes ≡ end_in read (timeline order t).nodes
    plain_ends_are read = ap (λ (l : List Entry). end_in read l) nodes_are ∙ same_ends read

    pub plain_is_open : end_in f (timeline order' t').nodes ≡ None
    plain_is_open = plain_ends_are f ∙ none_new

  -- ---- which is the end of a read

  module _ (t'' : Table) (read : Stamp) (is : node ≡ End read) (reads : is_read (node_at read.0 (timeline order t).nodes) ≡ true)
      (unfinished : end_in read.0 (timeline order t).nodes ≡ None)
      (up : position read.0 (timeline order t).nodes ≤ position s (timeline order t).nodes)
      (set : EndSet read.0 f t' t'') where
    end_is_now : end_in read.0 now ≡ Some f
    end_is_now = end_now es order.spare order'.spare s f node sound.is_trace here_es one_es order_es closed read is reads unfinished up after_es

    other_ends : (u : ℕ) → u ≢ read.0 → end_in u now ≡ end_in u es
    other_ends u other = ends_others es order.spare order'.spare s f node sound.is_trace here_es one_es order_es closed read is reads unfinished up after_es u other

    entries_set : (timeline order' t'').nodes ≡ (timeline order' t').nodes
    entries_set = listed_same (entry_of t') (entry_of t'') order'.stamps (λ u found. entry_eq t' t'' u (set.nodes u) (set.steps u))

    nodes_set : (timeline order' t'').nodes ≡ now
    nodes_set = entries_set ∙ nodes_are

    has_set : HasNodes order' t''
    has_set = record {
      rows = let rows = has.rows in let long = set.long in omega arith;
      count = set.count ∙ has.count;
      held = λ u there. set.held u ∙ has.held u there;
      low = λ u there. let low = has.low u there in let same = set.steps u in omega arith;
    }

    pub end_grew : Grew order order' t t'' s f steps node
    end_grew = record {
      sound = record {
        is_order = whole;
        is_trace = subst (λ (l : List Entry). IsTrace (record { nodes = l; spare = order'.spare; touched = 0 })) (sym nodes_set)
            (end_trace es order.spare order'.spare s f node sound.is_trace here_es one_es order_es closed read is reads unfinished up after_es);
        has_nodes = has_set;
        knows_ends = subst (λ (l : List Entry). KnowsEnds t'' l) (sym nodes_set) (record {
          noted_end = λ u there. elim (eqb_tells u read.0) [
            | inl p ↦
                let f_in : is_in f order'.stamps ≡ true = one.there in
                subst (λ (k : ℕ). noted (end_of t'' k) ≡ end_in k now) (sym p.1) (ap noted set.changed ∙ (noted_stamp order' f whole f_in ∙ sym end_is_now))
            | inr p ↦ ap noted (set.others u p.1) ∙ (noted_was u there ∙ sym (other_ends u p.1))
          ];
          end_noted = λ x r found. elim (eqb_tells r read.0) [
            | inl p ↦
                let both : Some f ≡ Some x = sym end_is_now ∙ subst (λ (k : ℕ). end_in k now ≡ Some x) p.1 found in
                let same : f ≡ x = cc in
                let low : read.0 < length t.rows = row_bound order t read.0 sound.is_order sound.has_nodes (there_is order t read.0 (has-read read.0 es reads)) in
                let long = put.long in
                let long_set = set.long in
                let at : r ≡ read.0 = p.1 in
                (omega arith, ap (λ (k : ℕ). end_of t'' k) p.1 ∙ (set.changed ∙ same))
            | inr p ↦
                let was = noted_before x r (sym (other_ends r p.1) ∙ found) in
                let low = was.0 in
                let long_set = set.long in
                (omega arith, set.others r p.1 ∙ was.1)
          ];
        });
        sum = sum_now ∙ ap steps_sum (sym nodes_set);
      };
      nodes = nodes_set;
      inserted = subst (λ (l : List Entry). Inserted s f node es l) (sym nodes_set) is_inserted;
      closed = subst (λ (l : List Entry). NoLooseEnd l) (sym nodes_set)
          (end_closed es order.spare order'.spare s f node sound.is_trace here_es one_es order_es closed read is reads unfinished up after_es);
    }

    pub end_is_found : end_in read.0 (timeline order' t'').nodes ≡ Some f
    end_is_found = ap (λ (l : List Entry). end_in read.0 l) nodes_set ∙ end_is_now

    pub end_others_are : (u : ℕ) → u ≢ read.0 → end_in u (timeline order' t'').nodes ≡ end_in u (timeline order t).nodes
    end_others_are u other = ap (λ (l : List Entry). end_in u l) nodes_set ∙ other_ends u other
