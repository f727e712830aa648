-- How a table keeps the nodes of a trace.
use Rattle.std.specs.Prelude.{◌≡◌, ◌≢◌, ◌<◌, ◌≤◌, ◌^◌, ℕ, ◌+◌, Bool, List, [], ◌∷◌, length, Option, None, Some, true}
use Rattle.std.specs.Prelude.{false, ◌==◌, if◌then◌else◌}
use Rattle.ceal_base.specs.declared.word.Word.{Word}
use Rattle.ceal_order.specs.Stamps.{Listing, IsOrder, is_in}
use Rattle.ceal_trace.specs.declared.node.Node.{Node}
use Rattle.ceal_trace.specs.Nodes.{Entry, Timeline, IsTrace, has_node, end_in, steps_sum, ends, valued}
use Rattle.ceal_trace.specs.Rows.{Table, row_of, no_stamp}

abbrev pub steps_of : Table → ℕ → ℕ
steps_of t s = (row_of t.rows s).steps

abbrev pub end_of : Table → ℕ → ℕ
end_of t s = (row_of t.rows s).end

-- the node of a stamp; the root, where there is none
abbrev pub node_of : Table → ℕ → Node
node_of t s = (row_of t.rows s).node

-- whether a stamp has a node
abbrev pub held_at : Table → ℕ → Bool
held_at t s = (row_of t.rows s).held

abbrev pub entry_of : Table → ℕ → Entry
entry_of t s = record { stamp = s; node = node_of t s; steps = steps_of t s }

-- an entry for each stamp
abbrev pub listed : (ℕ → Entry) → List ℕ → List Entry
listed entry [] = []
listed entry (s ∷ ss) = entry s ∷ listed entry ss

-- the trace that an order and a table keep, where none of its nodes was touched
abbrev pub timeline : Listing → Table → Timeline
timeline order t = record { nodes = listed (entry_of t) order.stamps; spare = order.spare; touched = 0 }

-- the same, where they were touched so often
abbrev pub touched_timeline : ℕ → Listing → Table → Timeline
touched_timeline n order t = record (timeline order t) { touched = n }

-- a stamp, or None
abbrev pub noted : ℕ → Option ℕ
noted s = if s == no_stamp then None else Some s

-- the table has a row for each stamp, with a node, and for each spare one
pub record HasNodes (order : Listing) (t : Table) : Type 0 where
  pub rows : length order.stamps + order.spare ≤ length t.rows
  pub count : t.count ≡ length order.stamps
  pub held : (s : ℕ) → is_in s order.stamps ≡ true → held_at t s ≡ true
  pub low : (s : ℕ) → is_in s order.stamps ≡ true → steps_of t s < 2 ^ 32

-- the table knows the end of each read
pub record KnowsEnds (t : Table) (nodes : List Entry) : Type 0 where
  pub noted_end : (s : ℕ) → has_node s nodes ≡ true → noted (end_of t s) ≡ end_in s nodes
  pub end_noted : (s read : ℕ) → end_in read nodes ≡ Some s → (read < length t.rows) × (end_of t read ≡ s)

-- what is true of every trace inside
pub record Sound (order : Listing) (t : Table) (steps : ℕ) : Type 0 where
  pub is_order : IsOrder order
  pub is_trace : IsTrace (timeline order t)
  pub has_nodes : HasNodes order t
  pub knows_ends : KnowsEnds t (timeline order t).nodes
  pub sum : steps ≡ steps_sum (timeline order t).nodes

-- a node was put at a stamp
pub record PutAt (s : ℕ) (node : Node) (old new : Table) : Type 0 where
  pub there : node_of new s ≡ node
  pub held : held_at new s ≡ true
  pub steps : steps_of new s ≡ 0
  pub end : end_of new s ≡ no_stamp
  pub rows : (u : ℕ) → u ≢ s → row_of new.rows u ≡ row_of old.rows u
  pub long : length new.rows ≡ length old.rows
  pub count : new.count ≡ old.count + 1

-- the node at a stamp was taken out, and the read that it ends is not finished any more
pub record TakenFrom (s : ℕ) (node : Node) (old new : Table) : Type 0 where
  pub was : node_of old s ≡ node
  pub others : (u : ℕ) → u ≢ s → node_of new u ≡ node_of old u
  pub held : (u : ℕ) → u ≢ s → held_at new u ≡ held_at old u
  pub steps : (u : ℕ) → steps_of new u ≡ steps_of old u
  pub opened : (u : ℕ) → ends u node ≡ true → end_of new u ≡ no_stamp
  pub ends : (u : ℕ) → ends u node ≡ false → end_of new u ≡ end_of old u
  pub long : length new.rows ≡ length old.rows
  pub count : new.count + 1 ≡ old.count

-- nothing but room was added
pub record Wider (old new : Table) : Type 0 where
  pub rows : (u : ℕ) → row_of new.rows u ≡ row_of old.rows u
  pub long : length old.rows ≤ length new.rows
  pub count : new.count ≡ old.count

-- the read at a stamp has another value
pub record ValueSet (s : ℕ) (value : Word) (old new : Table) : Type 0 where
  pub changed : node_of new s ≡ valued value (node_of old s)
  pub others : (u : ℕ) → u ≢ s → node_of new u ≡ node_of old u
  pub held : (u : ℕ) → held_at new u ≡ held_at old u
  pub steps : (u : ℕ) → steps_of new u ≡ steps_of old u
  pub ends : (u : ℕ) → end_of new u ≡ end_of old u
  pub long : length new.rows ≡ length old.rows
  pub count : new.count ≡ old.count

-- the node at s has n steps
pub record StepsSet (s n : ℕ) (old new : Table) : Type 0 where
  pub nodes : (u : ℕ) → node_of new u ≡ node_of old u
  pub held : (u : ℕ) → held_at new u ≡ held_at old u
  pub changed : steps_of new s ≡ n
  pub others : (u : ℕ) → u ≢ s → steps_of new u ≡ steps_of old u
  pub ends : (u : ℕ) → end_of new u ≡ end_of old u
  pub long : length new.rows ≡ length old.rows
  pub count : new.count ≡ old.count

-- the read at a stamp has this end
pub record EndSet (s end : ℕ) (old new : Table) : Type 0 where
  pub nodes : (u : ℕ) → node_of new u ≡ node_of old u
  pub held : (u : ℕ) → held_at new u ≡ held_at old u
  pub steps : (u : ℕ) → steps_of new u ≡ steps_of old u
  pub changed : end_of new s ≡ end
  pub others : (u : ℕ) → u ≢ s → end_of new u ≡ end_of old u
  pub long : length new.rows ≡ length old.rows
  pub count : new.count ≡ old.count
