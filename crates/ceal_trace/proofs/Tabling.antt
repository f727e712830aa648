-- The slots of a table and its shelf, while nodes are put in and taken out.
use Rattle.std.proofs.Common.{◌≡◌, ◌≢◌, ℕ, zero, suc, inl, inr, ◌<◌, ◌≤◌, true, List, [], ◌∷◌, length, map, max, Option, Some, None, IfSome, IsSome, is_some, refl, sym, ap, subst, ◌∙◌, arith}
use Rattle.std.proofs.Common.{option_map}
use Rattle.std.proofs.lemmas.Bool.{cases_eq}
use Rattle.std.proofs.lemmas.List.{length-map}
use Rattle.ceal_base.specs.declared.word.Word.{Word}
use Rattle.ceal_trace.specs.declared.node.Node.{Node}
use Rattle.ceal_trace.specs.declared.slot.Slot.{Slot}
use Rattle.ceal_trace.specs.declared.shelf.Shelf.{Shelf}
use Rattle.ceal_trace.specs.declared.node.Node.TheVariants.{Root, Alloc, Write, Read, End}
use Rattle.ceal_order.specs.declared.stamp.Stamp.{Stamp}
use Rattle.ceal_trace.proofs.Entries.{ends_own}
use Rattle.ceal_trace.specs.Nodes.{ends, ended_by, valued}
use Rattle.ceal_trace.specs.Rows.{Row, row_of, no_stamp}
use Rattle.ceal_trace.specs.Shelves.{at, or_root, count_of, no_key, SameShelf, AlsoAt, NoMoreAt, ValuedAt}
use Rattle.ceal_trace.specs.Slots.{slot_of, row_in, table, IsTable, SlotSet, KeyTaken, Longer, Reopened}
use Rattle.ceal_trace.specs.Keeping.{node_of, held_at, steps_of, end_of, PutAt, TakenFrom, Wider, ValueSet, StepsSet, EndSet}

abbrev key_of : List Slot → ℕ → ℕ
key_of slots s = (slot_of slots s).key

-- a row is what its slot and the shelf say
pub row_is : (shelf : Shelf) → at shelf no_key ≡ None → (slots : List Slot) (s : ℕ) → row_of (map (row_in shelf) slots) s ≡ row_in shelf (slot_of slots s)
row_is shelf none [] s = rw none refl
row_is shelf none (x ∷ xs) zero = refl
row_is shelf none (x ∷ xs) (suc s) = row_is shelf none xs s

not_both : {X : Type 0} (o : Option X) → o ≡ None → IsSome o → ⊥
not_both None is some = cc
not_both (Some x) is some = cc

same_row : (shelf shelf' : Shelf) (slot slot' : Slot) → at shelf' slot'.key ≡ at shelf slot.key → slot'.steps ≡ slot.steps → slot'.end ≡ slot.end
    → row_in shelf' slot' ≡ row_in shelf slot
same_row shelf shelf' slot slot' node steps end = rw (node, steps, end) refl

module _ (slots : List Slot) (shelf : Shelf) (is : IsTable slots shelf) where
  pub rows_long : length (table slots shelf).rows ≡ length slots
  rows_long = length-map slots (row_in shelf)

  pub row_at : (s : ℕ) → row_of (table slots shelf).rows s ≡ row_in shelf (slot_of slots s)
  row_at s = row_is shelf is.none slots s

  pub node_at : (s : ℕ) → node_of (table slots shelf) s ≡ or_root (at shelf (key_of slots s))
  node_at s = ap (λ (r : Row). r.node) (row_at s)

  pub held_is : (s : ℕ) → held_at (table slots shelf) s ≡ is_some (at shelf (key_of slots s))
  held_is s = ap (λ (r : Row). r.held) (row_at s)

  pub steps_is : (s : ℕ) → steps_of (table slots shelf) s ≡ (slot_of slots s).steps
  steps_is s = ap (λ (r : Row). r.steps) (row_at s)

  pub end_is : (s : ℕ) → end_of (table slots shelf) s ≡ (slot_of slots s).end
  end_is s = ap (λ (r : Row). r.end) (row_at s)

  -- what has a node has a key
  pub some_at : (s : ℕ) → held_at (table slots shelf) s ≡ true → IsSome (at shelf (key_of slots s))
  some_at s held = sym (held_is s) ∙ held

  pub has_key : (s : ℕ) → held_at (table slots shelf) s ≡ true → key_of slots s ≢ no_key
  has_key s held none = not_both (at shelf (key_of slots s)) (ap (at shelf) none ∙ is.none) (some_at s held)

-- ---- a node more

module _ (slots slots' : List Slot) (shelf shelf' : Shelf) (s key : ℕ) (node : Node) (is : IsTable slots shelf)
    (more : count_of shelf < length slots) (also : AlsoAt key node shelf shelf') (set : SlotSet slots slots' s (record { key = key; steps = 0; end = no_stamp })) where
  some_key : key ≢ no_key
  some_key e = let low = also.low in omega arith

  other_key : (u : ℕ) → key_of slots u ≢ key
  other_key u e =
      not_both (at shelf (key_of slots u)) (ap (at shelf) e ∙ also.fresh) (is.there u (λ none. some_key (sym e ∙ none)))

  kept_node : (u : ℕ) → at shelf' (key_of slots u) ≡ at shelf (key_of slots u)
  kept_node u = also.others (key_of slots u) (other_key u)

  new_key : key_of slots' s ≡ key
  new_key = ap (λ (x : Slot). x.key) set.changed

  old_key : (u : ℕ) → u ≢ s → key_of slots' u ≡ key_of slots u
  old_key u differs = ap (λ (x : Slot). x.key) (set.others u differs)

  pub put_table : IsTable slots' shelf'
  put_table = record {
    fit = also.fit;
    none = also.others no_key (λ e. some_key (sym e)) ∙ is.none;
    there = λ u some. elim (cases_eq u s) [
      | inl same ↦ ap (λ (k : ℕ). is_some (at shelf' (key_of slots' k))) same ∙ ap (λ (k : ℕ). is_some (at shelf' k)) new_key ∙ ap is_some also.there
      | inr differs ↦
          ap (λ (k : ℕ). is_some (at shelf' k)) (old_key u differs) ∙ ap is_some (kept_node u)
          ∙ is.there u (λ none. some (old_key u differs ∙ none))
    ];
    one = λ u v same some. elim (cases_eq u s) [
      | inl first ↦ elim (cases_eq v s) [
        | inl second ↦ first ∙ sym second
        | inr differs ↦ absurd (other_key v (sym (old_key v differs) ∙ sym same ∙ ap (key_of slots') first ∙ new_key))
      ]
      | inr differs ↦ elim (cases_eq v s) [
        | inl second ↦ absurd (other_key u (sym (old_key u differs) ∙ same ∙ ap (key_of slots') second ∙ new_key))
        | inr both ↦ is.one u v (sym (old_key u differs) ∙ same ∙ old_key v both) (λ none. some (old_key u differs ∙ none))
      ]
    ];
    few = let long = set.long in let count = also.count in omega (arith, more);
    held_room = let long = set.long in let room = is.held_room in let same = also.rooms.held_room in omega arith;
    apart_room = let long = set.long in let room = is.apart_room in let same = also.rooms.apart_room in omega arith;
  }

  pub put_at : PutAt s node (table slots shelf) (table slots' shelf')
  put_at = record {
    there = node_at slots' shelf' put_table s ∙ ap (λ (k : ℕ). or_root (at shelf' k)) new_key ∙ ap or_root also.there;
    held = held_is slots' shelf' put_table s ∙ ap (λ (k : ℕ). is_some (at shelf' k)) new_key ∙ ap is_some also.there;
    steps = steps_is slots' shelf' put_table s ∙ ap (λ (x : Slot). x.steps) set.changed;
    end = end_is slots' shelf' put_table s ∙ ap (λ (x : Slot). x.end) set.changed;
    rows = λ u differs. row_at slots' shelf' put_table u ∙ ap (row_in shelf') (set.others u differs)
        ∙ same_row shelf shelf' (slot_of slots u) (slot_of slots u) (kept_node u) refl refl ∙ sym (row_at slots shelf is u);
    long = rows_long slots' shelf' put_table ∙ set.long ∙ sym (rows_long slots shelf is);
    count = also.count;
  }

-- ---- a node less

-- the read that a node ends is low, where each read is low that it ends
pub ended_low : (n : Node) (rows : ℕ) → ((read : ℕ) → ends read n ≡ true → read < rows) → (o : Option Stamp) → o ≡ ended_by n → IfSome o (λ r. r.0 < rows)
ended_low n rows low None is = tt
ended_low Root rows low (Some r) is = absurd (cc)
ended_low (Alloc block key) rows low (Some r) is = absurd (cc)
ended_low (Write place value) rows low (Some r) is = absurd (cc)
ended_low (Read place value unit var args) rows low (Some r) is = absurd (cc)
ended_low (End q) rows low (Some r) is = let same : r ≡ q = cc in subst (λ (x : Stamp). x.0 < rows) (sym same) (low q.0 (ends_own q))

module _ (slots slots1 slots' : List Slot) (shelf shelf' : Shelf) (s : ℕ) (was : Slot) (node : Node) (is : IsTable slots shelf)
    (held : held_at (table slots shelf) s ≡ true)
    (taken : KeyTaken slots slots1 s was) (less : NoMoreAt was.key node shelf shelf') (reopened : Reopened slots1 slots' node) where
  its_key : was.key ≡ key_of slots s
  its_key = ap (λ (x : Slot). x.key) taken.is

  some_key' : key_of slots s ≢ no_key
  some_key' = has_key slots shelf is s held

  no_more : key_of slots' s ≡ no_key
  no_more = reopened.keys s ∙ ap (λ (x : Slot). x.key) taken.set.changed

  still_key : (u : ℕ) → u ≢ s → key_of slots' u ≡ key_of slots u
  still_key u differs = reopened.keys u ∙ ap (λ (x : Slot). x.key) (taken.set.others u differs)

  still_node : (u : ℕ) → u ≢ s → at shelf' (key_of slots u) ≡ at shelf (key_of slots u)
  still_node u differs = less.others (key_of slots u) (λ e. differs (sym (is.one s u (sym its_key ∙ sym e) some_key')))

  none' : at shelf' no_key ≡ None
  none' = less.others no_key (λ e. some_key' (sym its_key ∙ sym e)) ∙ is.none

  pub take_table : IsTable slots' shelf'
  take_table = record {
    fit = less.fit;
    none = none';
    there = λ u some. elim (cases_eq u s) [
      | inl same ↦ absurd (some (ap (key_of slots') same ∙ no_more))
      | inr differs ↦
          ap (λ (k : ℕ). is_some (at shelf' k)) (still_key u differs) ∙ ap is_some (still_node u differs)
          ∙ is.there u (λ none. some (still_key u differs ∙ none))
    ];
    one = λ u v same some. elim (cases_eq u s) [
      | inl first ↦ absurd (some (ap (key_of slots') first ∙ no_more))
      | inr differs ↦ elim (cases_eq v s) [
        | inl second ↦ absurd (some (same ∙ ap (key_of slots') second ∙ no_more))
        | inr both ↦ is.one u v (sym (still_key u differs) ∙ same ∙ still_key v both) (λ none. some (still_key u differs ∙ none))
      ]
    ];
    few = let first = taken.set.long in let long = reopened.long in let count = less.count in let few = is.few in omega arith;
    held_room = let first = taken.set.long in let long = reopened.long in let room = is.held_room in let same = less.rooms.held_room in omega arith;
    apart_room = let first = taken.set.long in let long = reopened.long in let room = is.apart_room in let same = less.rooms.apart_room in omega arith;
  }

  its_steps : (u : ℕ) → (slot_of slots1 u).steps ≡ (slot_of slots u).steps
  its_steps u = elim (cases_eq u s) [
    | inl same ↦ subst (λ (k : ℕ). (slot_of slots1 k).steps ≡ (slot_of slots k).steps) (sym same) (ap (λ (x : Slot). x.steps) taken.set.changed ∙ ap (λ (x : Slot). x.steps) taken.is)
    | inr differs ↦ ap (λ (x : Slot). x.steps) (taken.set.others u differs)
  ]

  its_end : (u : ℕ) → (slot_of slots1 u).end ≡ (slot_of slots u).end
  its_end u = elim (cases_eq u s) [
    | inl same ↦ subst (λ (k : ℕ). (slot_of slots1 k).end ≡ (slot_of slots k).end) (sym same) (ap (λ (x : Slot). x.end) taken.set.changed ∙ ap (λ (x : Slot). x.end) taken.is)
    | inr differs ↦ ap (λ (x : Slot). x.end) (taken.set.others u differs)
  ]

  pub taken_from : TakenFrom s node (table slots shelf) (table slots' shelf')
  taken_from = record {
    was = node_at slots shelf is s ∙ ap (λ (k : ℕ). or_root (at shelf k)) (sym its_key) ∙ ap or_root less.was;
    others = λ u differs. node_at slots' shelf' take_table u ∙ ap (λ (k : ℕ). or_root (at shelf' k)) (still_key u differs)
        ∙ ap or_root (still_node u differs) ∙ sym (node_at slots shelf is u);
    held = λ u differs. held_is slots' shelf' take_table u ∙ ap (λ (k : ℕ). is_some (at shelf' k)) (still_key u differs)
        ∙ ap is_some (still_node u differs) ∙ sym (held_is slots shelf is u);
    steps = λ u. steps_is slots' shelf' take_table u ∙ reopened.steps u ∙ its_steps u ∙ sym (steps_is slots shelf is u);
    opened = λ u does. end_is slots' shelf' take_table u ∙ reopened.opened u does;
    ends = λ u not. end_is slots' shelf' take_table u ∙ reopened.others u not ∙ its_end u ∙ sym (end_is slots shelf is u);
    long = rows_long slots' shelf' take_table ∙ reopened.long ∙ taken.set.long ∙ sym (rows_long slots shelf is);
    count = less.count;
  }

-- ---- another value

module _ (slots : List Slot) (shelf shelf' : Shelf) (s : ℕ) (value : Word) (is : IsTable slots shelf)
    (held : held_at (table slots shelf) s ≡ true) (set : ValuedAt (key_of slots s) value shelf shelf') where
  or_valued : (o : Option Node) → IsSome o → or_root (option_map (valued value) o) ≡ valued value (or_root o)
  or_valued None some = absurd (cc)
  or_valued (Some n) some = refl

  still_some : (o : Option Node) → is_some (option_map (valued value) o) ≡ is_some o
  still_some None = refl
  still_some (Some n) = refl

  value_node : (u : ℕ) → u ≢ s → key_of slots u ≢ no_key → at shelf' (key_of slots u) ≡ at shelf (key_of slots u)
  value_node u differs some = set.others (key_of slots u) (λ e. differs (is.one u s e some))

  value_none : at shelf' no_key ≡ None
  value_none = set.others no_key (λ e. has_key slots shelf is s held (sym e)) ∙ is.none

  value_other : (u : ℕ) → u ≢ s → at shelf' (key_of slots u) ≡ at shelf (key_of slots u)
  value_other u differs = elim (cases_eq (key_of slots u) no_key) [
    | inl none ↦ ap (at shelf') none ∙ value_none ∙ sym (ap (at shelf) none ∙ is.none)
    | inr some ↦ value_node u differs some
  ]

  value_held : (u : ℕ) → is_some (at shelf' (key_of slots u)) ≡ is_some (at shelf (key_of slots u))
  value_held u = elim (cases_eq u s) [
    | inl same ↦ subst (λ (k : ℕ). is_some (at shelf' (key_of slots k)) ≡ is_some (at shelf (key_of slots k))) (sym same) (ap is_some set.changed ∙ still_some (at shelf (key_of slots s)))
    | inr differs ↦ ap is_some (value_other u differs)
  ]

  pub value_table : IsTable slots shelf'
  value_table = record {
    fit = set.fit;
    none = value_none;
    there = λ u some. value_held u ∙ is.there u some;
    one = is.one;
    few = let count = set.count in let few = is.few in omega arith;
    held_room = let room = is.held_room in let same = set.rooms.held_room in omega arith;
    apart_room = let room = is.apart_room in let same = set.rooms.apart_room in omega arith;
  }

  pub value_set : ValueSet s value (table slots shelf) (table slots shelf')
  value_set = record {
    changed = node_at slots shelf' value_table s ∙ ap or_root set.changed ∙ or_valued (at shelf (key_of slots s)) (some_at slots shelf is s held)
        ∙ sym (ap (valued value) (node_at slots shelf is s));
    others = λ u differs. node_at slots shelf' value_table u ∙ ap or_root (value_other u differs) ∙ sym (node_at slots shelf is u);
    held = λ u. held_is slots shelf' value_table u ∙ value_held u ∙ sym (held_is slots shelf is u);
    steps = λ u. steps_is slots shelf' value_table u ∙ sym (steps_is slots shelf is u);
    ends = λ u. end_is slots shelf' value_table u ∙ sym (end_is slots shelf is u);
    long = rows_long slots shelf' value_table ∙ sym (rows_long slots shelf is);
    count = set.count;
  }

-- the same, where the slot was read
module _ (slots : List Slot) (shelf shelf' : Shelf) (s : ℕ) (value : Word) (slot : Slot) (is : IsTable slots shelf)
    (held : held_at (table slots shelf) s ≡ true) (its : slot ≡ slot_of slots s) (set : ValuedAt slot.key value shelf shelf') where
  set_there : ValuedAt (key_of slots s) value shelf shelf'
  set_there = subst (λ (x : Slot). ValuedAt x.key value shelf shelf') its set

  pub slot_value_set : ValueSet s value (table slots shelf) (table slots shelf')
  slot_value_set = value_set slots shelf shelf' s value is held set_there

-- ---- another slot with its key

module _ (slots slots' : List Slot) (shelf : Shelf) (s : ℕ) (slot : Slot) (is : IsTable slots shelf)
    (set : SlotSet slots slots' s slot) (keeps : slot.key ≡ key_of slots s) where
  same_key : (u : ℕ) → key_of slots' u ≡ key_of slots u
  same_key u = elim (cases_eq u s) [
    | inl same ↦ subst (λ (k : ℕ). key_of slots' k ≡ key_of slots k) (sym same) (ap (λ (x : Slot). x.key) set.changed ∙ keeps)
    | inr differs ↦ ap (λ (x : Slot). x.key) (set.others u differs)
  ]

  pub slot_table : IsTable slots' shelf
  slot_table = record {
    fit = is.fit;
    none = is.none;
    there = λ u some. ap (λ (k : ℕ). is_some (at shelf k)) (same_key u) ∙ is.there u (λ none. some (same_key u ∙ none));
    one = λ u v same some. is.one u v (sym (same_key u) ∙ same ∙ same_key v) (λ none. some (same_key u ∙ none));
    few = let long = set.long in let few = is.few in omega arith;
    held_room = let long = set.long in let room = is.held_room in omega arith;
    apart_room = let long = set.long in let room = is.apart_room in omega arith;
  }

  slot_node : (u : ℕ) → node_of (table slots' shelf) u ≡ node_of (table slots shelf) u
  slot_node u = node_at slots' shelf slot_table u ∙ ap (λ (k : ℕ). or_root (at shelf k)) (same_key u) ∙ sym (node_at slots shelf is u)

  slot_held : (u : ℕ) → held_at (table slots' shelf) u ≡ held_at (table slots shelf) u
  slot_held u = held_is slots' shelf slot_table u ∙ ap (λ (k : ℕ). is_some (at shelf k)) (same_key u) ∙ sym (held_is slots shelf is u)

  slot_long : length (table slots' shelf).rows ≡ length (table slots shelf).rows
  slot_long = rows_long slots' shelf slot_table ∙ set.long ∙ sym (rows_long slots shelf is)

  other_steps : (u : ℕ) → u ≢ s → steps_of (table slots' shelf) u ≡ steps_of (table slots shelf) u
  other_steps u differs = steps_is slots' shelf slot_table u ∙ ap (λ (x : Slot). x.steps) (set.others u differs) ∙ sym (steps_is slots shelf is u)

  other_end : (u : ℕ) → u ≢ s → end_of (table slots' shelf) u ≡ end_of (table slots shelf) u
  other_end u differs = end_is slots' shelf slot_table u ∙ ap (λ (x : Slot). x.end) (set.others u differs) ∙ sym (end_is slots shelf is u)

  pub steps_set : slot.end ≡ (slot_of slots s).end → StepsSet s slot.steps (table slots shelf) (table slots' shelf)
  steps_set end = record {
    nodes = slot_node;
    held = slot_held;
    changed = steps_is slots' shelf slot_table s ∙ ap (λ (x : Slot). x.steps) set.changed;
    others = other_steps;
    ends = λ u. elim (cases_eq u s) [
      | inl same ↦ subst (λ (k : ℕ). end_of (table slots' shelf) k ≡ end_of (table slots shelf) k) (sym same)
          (end_is slots' shelf slot_table s ∙ ap (λ (x : Slot). x.end) set.changed ∙ end ∙ sym (end_is slots shelf is s))
      | inr differs ↦ other_end u differs
    ];
    long = slot_long;
    count = refl;
  }

  pub end_set : slot.steps ≡ (slot_of slots s).steps → EndSet s slot.end (table slots shelf) (table slots' shelf)
  end_set steps = record {
    nodes = slot_node;
    held = slot_held;
    steps = λ u. elim (cases_eq u s) [
      | inl same ↦ subst (λ (k : ℕ). steps_of (table slots' shelf) k ≡ steps_of (table slots shelf) k) (sym same)
          (steps_is slots' shelf slot_table s ∙ ap (λ (x : Slot). x.steps) set.changed ∙ steps ∙ sym (steps_is slots shelf is s))
      | inr differs ↦ other_steps u differs
    ];
    changed = end_is slots' shelf slot_table s ∙ ap (λ (x : Slot). x.end) set.changed;
    others = other_end;
    long = slot_long;
    count = refl;
  }

-- ---- more room

module _ (slots slots' : List Slot) (shelf shelf' : Shelf) (is : IsTable slots shelf) (same : SameShelf shelf shelf')
    (longer : Longer slots slots')
    (held_room : length slots' ≤ shelf'.held.capacity) (apart_room : length slots' ≤ shelf'.apart.capacity) where
  pub wide_table : IsTable slots' shelf'
  wide_table = record {
    fit = same.fit is.fit;
    none = same.nodes no_key ∙ is.none;
    there = λ u some. ap (λ (x : Slot). is_some (at shelf' x.key)) (longer.others u) ∙ ap is_some (same.nodes (key_of slots u))
        ∙ is.there u (λ none. some (ap (λ (x : Slot). x.key) (longer.others u) ∙ none));
    one = λ u v equal some. is.one u v (sym (ap (λ (x : Slot). x.key) (longer.others u)) ∙ equal ∙ ap (λ (x : Slot). x.key) (longer.others v))
        (λ none. some (ap (λ (x : Slot). x.key) (longer.others u) ∙ none));
    few = let count = same.count in let few = is.few in let more = longer.more in omega arith;
    held_room = held_room;
    apart_room = apart_room;
  }

  pub wider : Wider (table slots shelf) (table slots' shelf')
  wider = record {
    rows = λ u. row_at slots' shelf' wide_table u ∙ ap (row_in shelf') (longer.others u)
        ∙ same_row shelf shelf' (slot_of slots u) (slot_of slots u) (same.nodes (key_of slots u)) refl refl ∙ sym (row_at slots shelf is u);
    long = let old = rows_long slots shelf is in let new = rows_long slots' shelf' wide_table in let more = longer.more in omega arith;
    count = same.count;
  }

-- there is room for as many nodes as there are slots now
pub room_kept : (slots slots' : List Slot) (room count : ℕ) → length slots' ≤ max (length slots) count → length slots ≤ room → count ≤ room → length slots' ≤ room
room_kept slots slots' room count most old new = omega arith
