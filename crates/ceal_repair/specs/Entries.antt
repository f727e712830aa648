-- Nodes of a trace as the theory of repair has them.
use Rattle.std.specs.Prelude.{◌≡◌, ◌⊎◌, ℕ, true, Option, Some, None, List, [], ◌∷◌, ◌++◌}
use Rattle.ceal_base.specs.declared.forest.Key.{Key}
use Rattle.ceal_base.specs.declared.word.Word.{Word}
use Rattle.ceal_order.specs.declared.stamp.Stamp.{Stamp}
use Rattle.ceal_repair.specs.declared.cutting.Cut.{Cut}
use Rattle.ceal_repair.specs.declared.cutting.Cut.TheVariants.{Alloc as CutAlloc, Write as CutWrite, Read as CutRead}
use Rattle.ceal_repair.specs.AsItems.{item_in}
use Rattle.ceal_repair.specs.Kept.{QueuedAfter}
use Rattle.ceal_repair.specs.declared.tables.Tables.{Tables}
use Rattle.ceal_theory.specs.Groves.{Knot, knot, Grove, Bare, Made, Put, Got, cut}
use Rattle.ceal_order.specs.Stamps.{is_in}
use Rattle.ceal_trace.specs.Nodes.{Entry, is_read}
use Rattle.ceal_trace.specs.declared.node.Node.{Node}
use Rattle.ceal_trace.specs.declared.node.Node.TheVariants.{Alloc, Write, Read, End}

-- the stamp of this number
abbrev pub stamp_of_number : ℕ → Stamp
stamp_of_number s = record { 0 = s }

-- a node at a stamp with its steps
abbrev pub entry : ℕ → Node → ℕ → Entry
entry s node n = record { stamp = s; node = node; steps = n }

-- the end of a read
abbrev pub end_entry : ℕ → ℕ → ℕ → Entry
end_entry e read n = entry e (End (stamp_of_number read)) n

-- the nodes of a grove, where each end is that of its read
abbrev pub entries : Grove → List Entry
entries Bare = []
entries (Made s b key n rest) = entry s (Alloc b key) n ∷ entries rest
entries (Put s p v n rest) = entry s (Write p v) n ∷ entries rest
entries (Got s p v u x args n inside e m rest) =
    entry s (Read p v u x args) n ∷ (entries inside ++ end_entry e s m ∷ entries rest)

-- nodes as the laws of courses have them; the root is no such node
abbrev pub knots_of : List Entry → List Knot
knots_of [] = []
knots_of (e ∷ es) = knot e.stamp (item_in e.node) e.steps ∷ knots_of es

-- the first node of a grove
abbrev pub first_stamp : Grove → Option ℕ
first_stamp Bare = None
first_stamp (Made s b key n rest) = Some s
first_stamp (Put s p v n rest) = Some s
first_stamp (Got s p v u x args n inside e m rest) = Some s

-- The second grove is what is left of the first one where its first nodes are revoked up to the node at a stamp,
-- each read with its end.
pub data CutTo (s : ℕ) : Grove → Grove → Type 0 where
  there : {g : Grove} → first_stamp g ≡ Some s → CutTo s g g
  more : {g h : Grove} → ¬ (first_stamp g ≡ Some s) → CutTo s (cut g) h → CutTo s g h

-- The nodes are `front`, whose last one is at the cursor, then those of the grove `left`, and then `tail`. Nothing up
-- to the cursor is queued.
pub record Lies (cursor : ℕ) (front : List Entry) (left : Grove) (tail : List Entry) (t : Tables) : Type 0 where
  pub done : List Entry
  pub last : Entry
  pub ends : front ≡ done ++ last ∷ []
  pub is_at : last.stamp ≡ cursor
  pub nodes : t.trace.nodes ≡ front ++ (entries left ++ tail)
  pub late : QueuedAfter cursor t

-- the stamp of the first of these nodes
abbrev pub first_in : List Entry → Option ℕ
first_in [] = None
first_in (e ∷ es) = Some e.stamp

-- the stamps of the nodes of a grove but for the ends of its reads
abbrev pub starts : Grove → List ℕ
starts Bare = []
starts (Made s b key n rest) = s ∷ starts rest
starts (Put s p v n rest) = s ∷ starts rest
starts (Got s p v u x args n inside e m rest) = s ∷ (starts inside ++ starts rest)

-- the node at a stamp is one of those that are left over and no end, or the first after them
abbrev pub IsUntil : ℕ → Grove → List Entry → Type 0
IsUntil s left tail = (is_in s (starts left) ≡ true) ⊎ (first_in tail ≡ Some s)

-- what is done to revoke a node goes with what it is
abbrev pub Revokes : Cut → Option Node → Type 0
Revokes (CutAlloc block) node = (key : Key) × (node ≡ Some (Alloc block key))
Revokes (CutWrite place) node = (value : Word) × (node ≡ Some (Write place value))
Revokes CutRead node = is_read node ≡ true

-- nothing, or this one
abbrev pub IsNoneOr : ℕ → Option ℕ → Type 0
IsNoneOr s o = (o ≡ None) ⊎ (o ≡ Some s)
