-- The nodes of a trace in the order of time, and what its calls do to them.
use Rattle.std.specs.Prelude.{◌≡◌, ◌≢◌, ◌<◌, ◌≤◌, ℕ, ◌+◌, ◌-◌, ◌^◌, List, [], ◌∷◌, Option, None, Some, IsSome, Bool}
use Rattle.std.specs.Prelude.{true, false, ◌==◌, if◌then◌else◌, length, min}
use Rattle.ceal_base.specs.declared.word.Word.{Word}
use Rattle.ceal_order.specs.Stamps.{Listing, IsOrder, OneMore, is_in, head_of, place}
use Rattle.ceal_order.specs.declared.stamp.Stamp.{Stamp}
use Rattle.ceal_trace.specs.declared.node.Node.{Node}
use Rattle.ceal_trace.specs.declared.node.Node.TheVariants.{Root, Alloc, Write, Read, End}
use Rattle.ceal_trace.specs.declared.node.Seen.{Seen}
use Rattle.ceal_trace.specs.declared.node.SeenRead.{SeenRead}
use Rattle.ceal_trace.specs.declared.node.Seen.TheVariants as seen_node

-- a node with its stamp and its steps, which are those between it and the next node
pub record Entry : Type 0 where
  pub stamp : ℕ
  pub node : Node
  pub steps : ℕ

-- what a caller sees of a trace: its nodes in the order of time, the root first; how many may be inserted without
-- taking memory; and how often a node was put in, taken out or changed
pub record Timeline : Type 0 where
  pub nodes : List Entry
  pub spare : ℕ
  pub touched : ℕ

-- a node was put in, taken out or changed; the count stays at the end of its type
pub record TouchesOne (old new : Timeline) : Type 0 where
  pub counted : new.touched ≡ min (old.touched + 1) (2 ^ 64 - 1)
  pub no_fewer : old.touched ≤ new.touched

-- the stamps of nodes
abbrev pub stamps_in : List Entry → List ℕ
stamps_in [] = []
stamps_in (e ∷ es) = e.stamp ∷ stamps_in es

-- whether a stamp is that of a node
abbrev pub has_node : ℕ → List Entry → Bool
has_node s es = is_in s (stamps_in es)

-- the number of nodes before the one at a stamp
abbrev pub position : ℕ → List Entry → ℕ
position s es = place s (stamps_in es)

-- the order list of a trace
abbrev pub order_of : Timeline → Listing
order_of t = record { stamps = stamps_in t.nodes; spare = t.spare }

-- the entry at a stamp
abbrev pub entry_at : ℕ → List Entry → Option Entry
entry_at s [] = None
entry_at s (e ∷ es) = if e.stamp == s then Some e else entry_at s es

abbrev pub held_by : Option Entry → Option Node
held_by None = None
held_by (Some e) = Some e.node

abbrev pub steps_on : Option Entry → ℕ
steps_on None = 0
steps_on (Some e) = e.steps

-- what the node at a stamp holds
abbrev pub node_at : ℕ → List Entry → Option Node
node_at s es = held_by (entry_at s es)

-- the steps on the node at a stamp
abbrev pub steps_at : ℕ → List Entry → ℕ
steps_at s es = steps_on (entry_at s es)

-- the steps on all nodes
abbrev pub steps_sum : List Entry → ℕ
steps_sum [] = 0
steps_sum (e ∷ es) = e.steps + steps_sum es

-- the node that is seen
abbrev pub seen : Seen → Node
seen seen_node.Root = Root
seen (seen_node.Alloc block key) = Alloc block key.now
seen (seen_node.Write place value) = Write place value
seen (seen_node.Read place value unit var args) = Read place value unit var args.now
seen (seen_node.End read) = End read

-- the read that is seen
abbrev pub seen_read : SeenRead → Node
seen_read r = Read r.place r.value r.unit r.var r.args.now

-- whether a node is a read
abbrev pub is_read : Option Node → Bool
is_read (Some (Read place value unit var args)) = true
is_read _ = false

-- whether a node is neither the root nor an end
abbrev pub is_plain : Node → Bool
is_plain Root = false
is_plain (End read) = false
is_plain _ = true

-- whether a node is the end of a read
abbrev pub ends : ℕ → Node → Bool
ends read (End r) = r.0 == read
ends read _ = false

-- the read that a node ends
abbrev pub ended_by : Node → Option Stamp
ended_by (End read) = Some read
ended_by _ = None

-- the stamp of the end of a read, None where the read is not finished
abbrev pub end_in : ℕ → List Entry → Option ℕ
end_in read [] = None
end_in read (e ∷ es) = if ends read e.node then Some e.stamp else end_in read es

-- with a new entry directly after s
abbrev pub with_entry_after : ℕ → Entry → List Entry → List Entry
with_entry_after s new [] = []
with_entry_after s new (e ∷ es) = if e.stamp == s then e ∷ new ∷ es else e ∷ with_entry_after s new es

-- without s
abbrev pub without_entry : ℕ → List Entry → List Entry
without_entry s [] = []
without_entry s (e ∷ es) = if e.stamp == s then es else e ∷ without_entry s es

-- with the entry at s changed
abbrev pub changed_at : ℕ → (Entry → Entry) → List Entry → List Entry
changed_at s change [] = []
changed_at s change (e ∷ es) = if e.stamp == s then change e ∷ es else e ∷ changed_at s change es

-- a read with this value, another node as it is
abbrev pub valued : Word → Node → Node
valued value (Read place _ unit var args) = Read place value unit var args
valued value node = node

abbrev pub value_set : Word → Entry → Entry
value_set value e = record e { node = valued value e.node }

abbrev pub steps_set : ℕ → Entry → Entry
steps_set n e = record e { steps = n }

-- with this value in the read at s
abbrev pub with_value : ℕ → Word → List Entry → List Entry
with_value s value es = changed_at s (value_set value) es

-- with n steps on the node at s
abbrev pub with_steps : ℕ → ℕ → List Entry → List Entry
with_steps s n es = changed_at s (steps_set n) es

-- a node that was just put at a stamp
abbrev pub new_entry : ℕ → Node → Entry
new_entry s node = record { stamp = s; node = node; steps = 0 }

-- what is true of every trace: its stamps are those of an order; the first node is the root, and no other; the end of a
-- read is one node, which is after the read where the read is still there
pub record IsTrace (t : Timeline) : Type 0 where
  pub order : IsOrder (order_of t)
  pub first_root : (s : ℕ) → head_of (stamps_in t.nodes) ≡ Some s → node_at s t.nodes ≡ Some Root
  pub only_root : (s : ℕ) → node_at s t.nodes ≡ Some Root → head_of (stamps_in t.nodes) ≡ Some s
  pub one_end : (s : ℕ) (read : Stamp) → node_at s t.nodes ≡ Some (End read) → end_in read.0 t.nodes ≡ Some s
  pub end_node : (s read : ℕ) → end_in read t.nodes ≡ Some s → node_at s t.nodes ≡ Some (End (record { 0 = read }))
  pub of_read : (s read : ℕ) → end_in read t.nodes ≡ Some s → has_node read t.nodes ≡ true
      → is_read (node_at read t.nodes) ≡ true
  pub behind : (s read : ℕ) → end_in read t.nodes ≡ Some s → has_node read t.nodes ≡ true
      → position read t.nodes < position s t.nodes

-- each end's read is there
pub record NoLooseEnd (nodes : List Entry) : Type 0 where
  pub read_there : (read : ℕ) → IsSome (end_in read nodes) → has_node read nodes ≡ true

-- each end's read is there, but perhaps for that of this one
pub record LooseEndOf (one : ℕ) (nodes : List Entry) : Type 0 where
  pub read_there : (read : ℕ) → IsSome (end_in read nodes) → read ≢ one → has_node read nodes ≡ true

-- the second list has the nodes of the first, in their order and as they are, and one more, which is not the first
pub record OneMoreNode (more : ℕ) (fewer all : List Entry) : Type 0 where
  pub stamps : OneMore more (stamps_in fewer) (stamps_in all)
  pub entries : (s : ℕ) → has_node s fewer ≡ true → entry_at s all ≡ entry_at s fewer
  pub first : head_of (stamps_in all) ≡ head_of (stamps_in fewer)
  pub long : length (stamps_in all) ≡ length (stamps_in fewer) + 1
  pub sum : steps_sum all ≡ steps_sum fewer + steps_at more all

-- a node without steps was put directly after another; all others are as they were
pub record Inserted (before s : ℕ) (held : Node) (old all : List Entry) : Type 0 where
  pub new : has_node s old ≡ false
  pub there : has_node s all ≡ true
  pub node : node_at s all ≡ Some held
  pub steps : steps_at s all ≡ 0
  pub after : position s all ≡ position before all + 1
  pub others : OneMoreNode s old all

-- all nodes but one are as they were, and each has its stamp
pub record SameBut (s : ℕ) (old new : List Entry) : Type 0 where
  pub stamps : stamps_in new ≡ stamps_in old
  pub entries : (other : ℕ) → other ≢ s → entry_at other new ≡ entry_at other old
  pub ends : (read : ℕ) → end_in read new ≡ end_in read old
