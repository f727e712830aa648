-- A trace with a node changed, and one with more room.
use Rattle.std.proofs.Common.{◌≡◌, ◌≢◌, ℕ, inl, inr, ◌⊎◌, ◌+◌, ◌-◌, ◌*◌, ◌<◌, ◌≤◌, ◌^◌, max, min, true, List, [], ◌∷◌, length, refl, sym, ap, subst, ◌∙◌, arith, Option, Some, None}
use Rattle.std.specs.Prelude.{option_map, Result, Ok, Err, OnOk, OnErr}
use Rattle.std.proofs.lemmas.Bool.Decides.{eqb_tells}
use Rattle.ceal_base.specs.declared.word.Word.{Word}
use Rattle.ceal_order.specs.Stamps.{Listing, IsOrder, is_in}
use Rattle.ceal_trace.specs.declared.node.Node.{Node}
use Rattle.ceal_trace.specs.declared.node.Node.TheVariants.{Root, Alloc, Write, Read, End}
use Rattle.ceal_trace.specs.Nodes.{Entry, stamps_in, entry_at, held_by, steps_on, node_at, steps_at, steps_sum, is_read, ends, changed_at, valued, value_set, steps_set, with_value, with_steps}
use Rattle.ceal_trace.specs.Nodes.{IsTrace, NoLooseEnd, SameBut}
use Rattle.ceal_trace.specs.Rows.{Row, Table, row_of}
use Rattle.ceal_trace.specs.Keeping.{steps_of, end_of, node_of, entry_of, listed, timeline, noted, HasNodes, KnowsEnds, Sound, Wider, ValueSet, StepsSet}
use Rattle.ceal_trace.proofs.Entries.{has-read, stamps-changed, entry-changed, entry-unchanged, sum-changed, ends-changed}
use Rattle.ceal_trace.proofs.Stamped.{in_head, in_tail}
use Rattle.ceal_trace.proofs.Listings.{listed_same, listed_changed}
use Rattle.ceal_trace.proofs.Shapes.{changed_closed, changed_trace}
use Rattle.ceal_trace.proofs.Keeps.{entry_eq, stamps_are, there_is, is_there, entry_found}
use Rattle.ceal_trace.proofs.Removing.{steps_are, steps_within}

-- ---- values

value_ends : (value : Word) (read : ℕ) (n : Node) → ends read (valued value n) ≡ ends read n
value_ends value read Root = refl
value_ends value read (Alloc block key) = refl
value_ends value read (Write place old) = refl
value_ends value read (Read place old unit var args) = refl
value_ends value read (End r) = refl

value_reads : (value : Word) (n : Node) → is_read (Some (valued value n)) ≡ is_read (Some n)
value_reads value Root = refl
value_reads value (Alloc block key) = refl
value_reads value (Write place old) = refl
value_reads value (Read place old unit var args) = refl
value_reads value (End r) = refl

value_held : (value : Word) (e : Option Entry) → held_by (option_map (value_set value) e) ≡ option_map (valued value) (held_by e)
value_held value None = refl
value_held value (Some e) = refl

value_steps : (value : Word) (e : Option Entry) → steps_on (option_map (value_set value) e) ≡ steps_on e
value_steps value None = refl
value_steps value (Some e) = refl

option_reads : (value : Word) (n : Option Node) → is_read (option_map (valued value) n) ≡ is_read n
option_reads value None = refl
option_reads value (Some n) = value_reads value n

steps_held : (n : ℕ) (e : Option Entry) → held_by (option_map (steps_set n) e) ≡ held_by e
steps_held n None = refl
steps_held n (Some e) = refl

steps_now : (n : ℕ) (e : Option Entry) (x : Entry) → e ≡ Some x → steps_on (option_map (steps_set n) e) ≡ n
steps_now n e x is = rw is refl

-- ---- a node changed

module _ (s : ℕ) (change : Entry → Entry) (stamp_is : (e : Entry) → (change e).stamp ≡ e.stamp)
    (ends_are : (read : ℕ) (e : Entry) → ends read (change e).node ≡ ends read e.node) where
  same_but : (es : List Entry) → SameBut s es (changed_at s change es)
  same_but es = record {
    stamps = stamps-changed s change stamp_is es;
    entries = λ other apart. entry-unchanged s change stamp_is other es apart;
    ends = λ read. ends-changed s change stamp_is read es (ends_are read);
  }

  knows_still : (t t' : Table) (es : List Entry) → length t'.rows ≡ length t.rows → ((u : ℕ) → end_of t' u ≡ end_of t u)
      → KnowsEnds t es → KnowsEnds t' (changed_at s change es)
  knows_still t t' es long same knows =
      let but = same_but es in
      record {
        noted_end = λ u there. ap noted (same u) ∙ (knows.noted_end u (ap (λ (l : List ℕ). is_in u l) (sym but.stamps) ∙ there) ∙ sym (but.ends u));
        end_noted = λ x read found.
            let was = knows.end_noted x read (sym (but.ends read) ∙ found) in
            let low = was.0 in
            (omega arith, same read ∙ was.1);
      }

-- what a call says that changed the node at s
pub record Changed (order : Listing) (t t' : Table) (s steps : ℕ) (change : Entry → Entry) : Type 0 where
  pub sound : Sound order t' steps
  pub nodes : (timeline order t').nodes ≡ changed_at s change (timeline order t).nodes
  pub entry : entry_at s (timeline order t').nodes ≡ option_map change (entry_at s (timeline order t).nodes)
  pub others : SameBut s (timeline order t).nodes (timeline order t').nodes
  pub closed : NoLooseEnd (timeline order t).nodes → NoLooseEnd (timeline order t').nodes
  pub sum : steps_sum (timeline order t').nodes + steps_at s (timeline order t).nodes ≡ steps_sum (timeline order t).nodes + steps_at s (timeline order t').nodes

module _ (order : Listing) (t t' : Table) (s steps steps' : ℕ) (change : Entry → Entry)
    (stamp_is : (e : Entry) → (change e).stamp ≡ e.stamp)
    (ends_are : (read : ℕ) (e : Entry) → ends read (change e).node ≡ ends read e.node)
    (sound : Sound order t steps)
    (here : is_in s order.stamps ≡ true)
    (has : HasNodes order t')
    (now : entry_of t' s ≡ change (entry_of t s))
    (same : (u : ℕ) → is_in u order.stamps ≡ true → u ≢ s → entry_of t' u ≡ entry_of t u)
    (long : length t'.rows ≡ length t.rows)
    (same_ends : (u : ℕ) → end_of t' u ≡ end_of t u) where
  abbrev es : List Entry
  es = (timeline order t).nodes

  pub nodes_changed : (timeline order t').nodes ≡ changed_at s change (timeline order t).nodes
  nodes_changed = listed_changed (entry_of t) (entry_of t') (λ k. refl) s change order.stamps sound.is_order.distinct now same

  but : SameBut s es (changed_at s change es)
  but = same_but s change stamp_is ends_are es

  pub changed_as : (sum : steps' ≡ steps_sum (changed_at s change (timeline order t).nodes))
      → ((node_at s (changed_at s change (timeline order t).nodes) ≡ node_at s (timeline order t).nodes)
      ⊎ ((is_read (node_at s (changed_at s change (timeline order t).nodes)) ≡ true) × (is_read (node_at s (timeline order t).nodes) ≡ true)))
      → Changed order t t' s steps' change
  changed_as sum node = record {
    sound = record {
      is_order = sound.is_order;
      is_trace = subst (λ (l : List Entry). IsTrace (record { nodes = l; spare = order.spare; touched = 0 })) (sym nodes_changed)
          (changed_trace es (changed_at s change es) order.spare s sound.is_trace but node);
      has_nodes = has;
      knows_ends = subst (λ (l : List Entry). KnowsEnds t' l) (sym nodes_changed) (knows_still s change stamp_is ends_are t t' es long same_ends sound.knows_ends);
      sum = sum ∙ ap steps_sum (sym nodes_changed);
    };
    nodes = nodes_changed;
    entry = ap (λ (l : List Entry). entry_at s l) nodes_changed ∙ entry-changed s change stamp_is es;
    others = subst (λ (l : List Entry). SameBut s es l) (sym nodes_changed) but;
    closed = λ closed. subst (λ (l : List Entry). NoLooseEnd l) (sym nodes_changed) (changed_closed es (changed_at s change es) order.spare s sound.is_trace but closed);
    sum = subst (λ (l : List Entry). steps_sum l + steps_at s es ≡ steps_sum es + steps_at s l) (sym nodes_changed) (sum-changed s change stamp_is es (is_there order t s here));
  }

-- ---- another value

module _ (order : Listing) (t t' : Table) (s steps : ℕ) (value : Word)
    (sound : Sound order t steps)
    (reads : is_read (node_at s (timeline order t).nodes) ≡ true)
    (set : ValueSet s value t t') where
  read_here : is_in s order.stamps ≡ true
  read_here = there_is order t s (has-read s (timeline order t).nodes reads)

  value_has : HasNodes order t'
  value_has = record {
    rows = let rows = sound.has_nodes.rows in let long = set.long in omega arith;
    count = set.count ∙ sound.has_nodes.count;
    held = λ u found. set.held u ∙ sound.has_nodes.held u found;
    low = λ u found. let low = sound.has_nodes.low u found in let same = set.steps u in omega arith;
  }

  value_entry : entry_of t' s ≡ value_set value (entry_of t s)
  value_entry =
      let count : steps_of t' s ≡ steps_of t s = set.steps s in
      ap (λ (n : Node). record { stamp = s; node = n; steps = steps_of t' s }) set.changed ∙ ap (λ (k : ℕ). record { stamp = s; node = valued value (node_of t s); steps = k }) count

  abbrev before : List Entry
  before = (timeline order t).nodes

  value_node : node_at s (with_value s value before) ≡ option_map (valued value) (node_at s before)
  value_node = ap held_by (entry-changed s (value_set value) (λ e. refl) before) ∙ value_held value (entry_at s before)

  value_sum : steps_sum before ≡ steps_sum (with_value s value before)
  value_sum =
      let sum = sum-changed s (value_set value) (λ e. refl) before (is_there order t s read_here) in
      let same : steps_at s (with_value s value before) ≡ steps_at s before = ap steps_on (entry-changed s (value_set value) (λ e. refl) before) ∙ value_steps value (entry_at s before) in
      omega arith

  pub value_changed : Changed order t t' s steps (value_set value)
  value_changed = changed_as order t t' s steps steps (value_set value) (λ e. refl) (λ read e. value_ends value read e.node) sound read_here value_has value_entry
      (λ u found other. entry_eq t t' u (set.others u other) (set.steps u))
      set.long set.ends
      (sound.sum ∙ value_sum)
      (inr (ap is_read value_node ∙ (option_reads value (node_at s before) ∙ reads), reads))

  pub value_now : node_at s (timeline order t').nodes ≡ option_map (valued value) (node_at s (timeline order t).nodes)
  value_now = ap held_by value_changed.entry ∙ value_held value (entry_at s before)

  pub value_steps_same : steps_at s (timeline order t').nodes ≡ steps_at s (timeline order t).nodes
  value_steps_same = ap steps_on value_changed.entry ∙ value_steps value (entry_at s before)

  pub value_sum_same : steps_sum (timeline order t').nodes ≡ steps_sum (timeline order t).nodes
  value_sum_same = ap steps_sum value_changed.nodes ∙ sym value_sum

-- ---- other steps

-- all steps together fit
pub steps_fit : (entry : ℕ → Entry) (ss : List ℕ) → ((s : ℕ) → is_in s ss ≡ true → (entry s).steps < 2 ^ 32) → steps_sum (listed entry ss) ≤ length ss * 4294967295
steps_fit entry [] low = omega arith
steps_fit entry (x ∷ xs) low =
    let first = low x (in_head x xs) in
    let rest = steps_fit entry xs (λ s found. low s (in_tail s x xs found)) in
    omega arith

module _ (order : Listing) (t t' : Table) (s n steps was_on now_on : ℕ)
    (sound : Sound order t steps)
    (here : is_in s order.stamps ≡ true)
    (small : n < 2 ^ 32)
    (set : StepsSet s n t t')
    (was_is : was_on ≡ steps_of t s) (now_is : now_on ≡ n) where
  steps_has : HasNodes order t'
  steps_has = record {
    rows = let rows = sound.has_nodes.rows in let long = set.long in omega arith;
    count = set.count ∙ sound.has_nodes.count;
    held = λ u found. set.held u ∙ sound.has_nodes.held u found;
    low = λ u found. elim (eqb_tells u s) [
      | inl p ↦ let same : steps_of t' u ≡ n = ap (λ (k : ℕ). steps_of t' k) p.1 ∙ set.changed in omega arith
      | inr p ↦ let low = sound.has_nodes.low u found in let same = set.others u p.1 in omega arith
    ];
  }

  steps_entry : entry_of t' s ≡ steps_set n (entry_of t s)
  steps_entry =
      ap (λ (m : Node). record { stamp = s; node = m; steps = steps_of t' s }) (set.nodes s) ∙ ap (λ (k : ℕ). record { stamp = s; node = node_of t s; steps = k }) set.changed

  abbrev earlier : List Entry
  earlier = (timeline order t).nodes

  entry_now : entry_at s (with_steps s n earlier) ≡ option_map (steps_set n) (entry_at s earlier)
  entry_now = entry-changed s (steps_set n) (λ e. refl) earlier

  steps_are_now : steps_at s (with_steps s n earlier) ≡ n
  steps_are_now = ap steps_on entry_now ∙ steps_now n (entry_at s earlier) (entry_of t s) (entry_found order t s here)

  pub steps_changed : Changed order t t' s (steps - was_on + now_on) (steps_set n)
  steps_changed = changed_as order t t' s steps (steps - was_on + now_on) (steps_set n) (λ e. refl) (λ read e. refl) sound here steps_has steps_entry
      (λ u found other. entry_eq t t' u (set.nodes u) (set.others u other))
      set.long set.ends
      (let sum = sum-changed s (steps_set n) (λ e. refl) earlier (is_there order t s here) in
      let was = sound.sum in
      let own = steps_are order t s here in
      let within = steps_within order t s steps sound here in
      omega (arith, steps_are_now))
      (inl (ap held_by entry_now ∙ steps_held n (entry_at s earlier)))

  pub steps_node : node_at s (timeline order t').nodes ≡ node_at s (timeline order t).nodes
  steps_node = ap held_by steps_changed.entry ∙ steps_held n (entry_at s earlier)

  pub steps_are_set : steps_at s (timeline order t').nodes ≡ n
  steps_are_set = ap steps_on steps_changed.entry ∙ steps_now n (entry_at s earlier) (entry_of t s) (entry_found order t s here)

  pub steps_sum_moved : steps_sum (timeline order t').nodes + steps_at s (timeline order t).nodes ≡ steps_sum (timeline order t).nodes + n
  steps_sum_moved = let sum = steps_changed.sum in omega (arith, steps_are_set)

-- all steps together and those on one node more fit
pub sum_small : (order : Listing) (t : Table) (steps : ℕ) → Sound order t steps → steps + 4294967295 < 2 ^ 64
sum_small order t steps sound =
    let most = steps_fit (entry_of t) order.stamps sound.has_nodes.low in
    let sum = sound.sum in
    let few = sound.is_order.few in
    omega arith

-- ---- more room

pub widened : (order order' : Listing) (t t' : Table) (steps : ℕ) → Sound order t steps → order'.stamps ≡ order.stamps → IsOrder order' → Wider t t'
    → length order.stamps + order'.spare ≤ length t'.rows
    → Sound order' t' steps × ((timeline order' t').nodes ≡ (timeline order t).nodes)
widened order order' t t' steps sound stamps whole wider rows =
    let was_in : (u : ℕ) → is_in u order'.stamps ≡ true → is_in u order.stamps ≡ true = λ u found. ap (λ (l : List ℕ). is_in u l) (sym stamps) ∙ found in
    let row : (u : ℕ) → is_in u order.stamps ≡ true → row_of t'.rows u ≡ row_of t.rows u =
    λ u found. wider.rows u in
    let same : (u : ℕ) → is_in u order.stamps ≡ true → node_of t' u ≡ node_of t u =
    λ u found. ap (λ (r : Row). r.node) (row u found) in
    let nodes : (timeline order' t').nodes ≡ (timeline order t).nodes =
    ap (λ (l : List ℕ). listed (entry_of t') l) stamps
    ∙ listed_same (entry_of t) (entry_of t') order.stamps (λ u found. entry_eq t t' u (same u found) (ap (λ (r : Row). r.steps) (row u found))) in
    let es = (timeline order t).nodes in
    let order_es : IsOrder (record { stamps = stamps_in es; spare = order'.spare }) =
    subst (λ (l : List ℕ). IsOrder (record { stamps = l; spare = order'.spare })) (stamps ∙ sym (stamps_are order t)) whole in
    let has : HasNodes order' t' = record {
      rows = subst (λ (l : List ℕ). length l + order'.spare ≤ length t'.rows) (sym stamps) rows;
      count = wider.count ∙ (sound.has_nodes.count ∙ ap (λ (l : List ℕ). length l) (sym stamps));
      held = λ u found. let was = was_in u found in ap (λ (r : Row). r.held) (row u was) ∙ sound.has_nodes.held u was;
      low = λ u found. let was = was_in u found in subst (λ (r : Row). r.steps < 2 ^ 32) (sym (row u was)) (sound.has_nodes.low u was);
    } in
    let knows : KnowsEnds t' es = record {
      noted_end = λ u there. ap (λ (r : Row). noted r.end) (row u (there_is order t u there)) ∙ sound.knows_ends.noted_end u there;
      end_noted = λ x read found.
          let was = sound.knows_ends.end_noted x read found in
          let low = was.0 in
          let long = wider.long in
          (omega arith, ap (λ (r : Row). r.end) (wider.rows read) ∙ was.1);
    } in
    let trace : IsTrace (record { nodes = es; spare = order'.spare; touched = 0 }) = record {
      order = order_es;
      first_root = sound.is_trace.first_root;
      only_root = sound.is_trace.only_root;
      one_end = sound.is_trace.one_end;
      end_node = sound.is_trace.end_node;
      of_read = sound.is_trace.of_read;
      behind = sound.is_trace.behind;
    } in (
      record {
        is_order = whole;
        is_trace = subst (λ (l : List Entry). IsTrace (record { nodes = l; spare = order'.spare; touched = 0 })) (sym nodes) trace;
        has_nodes = has;
        knows_ends = subst (λ (l : List Entry). KnowsEnds t' l) (sym nodes) knows;
        sum = sound.sum ∙ ap steps_sum (sym nodes);
      },
      nodes,
    )

-- how much room a call leaves that answers either way; no order has room for 2^32 stamps
pub spare_most : {T E : Type 0} (order order' : Listing) (n room : ℕ) (result : Result T E) → OnOk result (order'.spare ≤ max order.spare n) → OnErr result (order' ≡ order) → IsOrder order'
    → room ≡ min n 4294967295 → order'.spare ≤ max order.spare room
spare_most order order' n room (Ok x) ok err whole is = let few = whole.few in omega (arith, ok, is)
spare_most order order' n room (Err x) ok err whole is = let same : order'.spare ≡ order.spare = ap (λ (o : Listing). o.spare) err in omega arith

pub reserved : (order order' : Listing) (t t' : Table) (steps n : ℕ) → Sound order t steps → order'.stamps ≡ order.stamps → IsOrder order' → Wider t t'
    → t'.count + n ≤ length t'.rows → order'.spare ≤ max order.spare n
    → Sound order' t' steps × ((timeline order' t').nodes ≡ (timeline order t).nodes)
reserved order order' t t' steps n sound stamps whole wider rows most =
    let long = wider.long in
    let same = wider.count in
    let count = sound.has_nodes.count in
    let old_rows = sound.has_nodes.rows in
    widened order order' t t' steps sound stamps whole wider (omega arith)

pub not_reserved : (order : Listing) (t t' : Table) (steps : ℕ) → Sound order t steps → Wider t t'
    → Sound order t' steps × ((timeline order t').nodes ≡ (timeline order t).nodes)
not_reserved order t t' steps sound wider =
    let long = wider.long in
    let same = wider.count in
    let old_rows = sound.has_nodes.rows in
    widened order order t t' steps sound refl sound.is_order wider (omega arith)

pub on_err_of : {T E : Type 0} {P : Type 0} (result : Result T E) → P → OnErr result P
on_err_of (Ok x) p = tt
on_err_of (Err x) p = p

pub on_err_map : {T E : Type 0} {P Q : Type 0} (result : Result T E) → (P → Q) → OnErr result P → OnErr result Q
on_err_map (Ok x) f p = tt
on_err_map (Err x) f p = f p
