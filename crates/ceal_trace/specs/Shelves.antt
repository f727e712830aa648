-- Nodes in two parts, each in a slab.
use Rattle.std.specs.Prelude.{◌≡◌, ◌≢◌, ◌<◌, ◌≤◌, ◌+◌, ℕ, Bool, List, Option, None, Some, IsSome, is_some, count_by}
use Rattle.std.specs.Prelude.{option_map, if◌then◌else◌}
use Rattle.slab.specs.Slab.{Slab, get, slab_len, with_value}
use Rattle.ceal_base.specs.declared.word.Word.{Word}
use Rattle.ceal_base.specs.declared.word.BlockId.{BlockId}
use Rattle.ceal_base.specs.declared.word.BlockId.TheVariants.{Input, Core}
use Rattle.ceal_base.specs.declared.word.Place.{Place}
use Rattle.ceal_base.specs.declared.forest.UnitId.{UnitId}
use Rattle.ceal_trace.specs.declared.node.Node.{Node}
use Rattle.ceal_trace.specs.declared.node.Node.TheVariants as node
use Rattle.ceal_trace.specs.declared.held.Held.{Held}
use Rattle.ceal_trace.specs.declared.held.Held.TheVariants as small
use Rattle.ceal_trace.specs.declared.held.Apart.{Apart}
use Rattle.ceal_trace.specs.declared.held.Apart.TheVariants as other
use Rattle.ceal_trace.specs.declared.shelf.Shelf.{Shelf}
use Rattle.ceal_order.specs.declared.packed.Packed.{Packed}
use Rattle.ceal_trace.specs.Nodes.{valued}
use Rattle.ceal_order.specs.Packed.{number_of, word_of}

-- stands for no key
abbrev pub no_key : ℕ
no_key = 18446744073709551615

-- an allocation, where its key is there
abbrev pub keyed : BlockId → Option Apart → Option Node
keyed block (Some (other.Key key)) = Some (node.Alloc block key)
keyed block _ = None

-- a read, where its closure is there
abbrev pub closed : Word → ℕ → Option Apart → Option Node
closed value var (Some (other.OfInput block field unit args)) =
    Some (node.Read (record { block = Input block; field = field }) value unit var args)
closed value var (Some (other.OfCore block field unit args)) =
    Some (node.Read (record { block = Core block; field = field }) value unit var args)
closed value var _ = None

-- the closure of a read but for its variable
abbrev pub closure_of : Place → UnitId → List Word → Apart
closure_of place unit args = by place.block
  where
    by : BlockId → Apart
    by (Input block) = other.OfInput block place.field unit args
    by (Core block) = other.OfCore block place.field unit args

-- a whole node
abbrev pub whole : Slab Apart → Held → Option Node
whole apart small.Root = Some node.Root
whole apart (small.Alloc block at) = keyed block (get apart (number_of at))
whole apart (small.Write place value) = Some (node.Write place (word_of value))
whole apart (small.Read value var at) = closed (word_of value) var (get apart (number_of at))
whole apart (small.End read) = Some (node.End read)

abbrev pub whole_in : Slab Apart → Option Held → Option Node
whole_in apart None = None
whole_in apart (Some h) = whole apart h

-- a node, or the root where there is none
abbrev pub or_root : Option Node → Node
or_root None = node.Root
or_root (Some n) = n

-- under which key a part is kept apart
abbrev pub place_of : Option Held → Option ℕ
place_of (Some (small.Alloc block at)) = Some (number_of at)
place_of (Some (small.Read value var at)) = Some (number_of at)
place_of _ = None

-- whether a part is kept apart
abbrev pub needs : Option Held → Bool
needs o = is_some (place_of o)

-- how many parts are kept apart because of this one
abbrev pub weight : Option Held → ℕ
weight o = if needs o then 1 else 0

-- the node at a key of a shelf
abbrev pub at : Shelf → ℕ → Option Node
at s key = whole_in s.apart (get s.held key)

-- the number of nodes in a shelf
abbrev pub count_of : Shelf → ℕ
count_of s = slab_len s.held

-- each small part has its other part, no two have the same one, and there are no others
pub record IsFit (held : Slab Held) (apart : Slab Apart) : Type 0 where
  pub there : (key : ℕ) → IsSome (get held key) → IsSome (whole_in apart (get held key))
  pub one : (k l at : ℕ) → place_of (get held k) ≡ Some at → place_of (get held l) ≡ Some at → k ≡ l
  pub count : slab_len apart ≡ count_by needs held.slots

-- a node was split
pub record Split (old new : Slab Apart) (node : Node) (held : Held) : Type 0 where
  pub is : whole new held ≡ Some node
  pub kept : (at : ℕ) → IsSome (get old at) → get new at ≡ get old at
  pub free : (at : ℕ) → place_of (Some held) ≡ Some at → get old at ≡ None
  pub count : slab_len new ≡ slab_len old + weight (Some held)
  pub room : new.capacity ≡ old.capacity

-- a node was joined
pub record Joined (old new : Slab Apart) (held : Held) (node : Node) : Type 0 where
  pub is : whole old held ≡ Some node
  pub kept : (at : ℕ) → place_of (Some held) ≢ Some at → get new at ≡ get old at
  pub count : slab_len new + weight (Some held) ≡ slab_len old
  pub room : new.capacity ≡ old.capacity

-- a read with this value, another one as it is
abbrev pub held_valued : Packed → Held → Held
held_valued value (small.Read _ var at) = small.Read value var at
held_valued value h = h

-- the small part at a key has another value
pub record HeldValued (key : ℕ) (value : Word) (old new : Slab Held) : Type 0 where
  pub was : Held
  pub packed : Packed
  pub packs : word_of packed ≡ value
  pub there : get old key ≡ Some was
  pub is : new ≡ with_value old key (held_valued packed was)

-- room may have been made, and nothing else
pub record SameShelf (old new : Shelf) : Type 0 where
  pub fit : IsFit old.held old.apart → IsFit new.held new.apart
  pub nodes : (key : ℕ) → at new key ≡ at old key
  pub count : count_of new ≡ count_of old
  pub held_room : old.held.capacity ≤ new.held.capacity
  pub apart_room : old.apart.capacity ≤ new.apart.capacity

-- the rooms are as they were
pub record SameRooms (old new : Shelf) : Type 0 where
  pub held_room : new.held.capacity ≡ old.held.capacity
  pub apart_room : new.apart.capacity ≡ old.apart.capacity

-- one node more
pub record AlsoAt (key : ℕ) (node : Node) (old new : Shelf) : Type 0 where
  pub fit : IsFit new.held new.apart
  pub fresh : at old key ≡ None
  pub low : key < no_key
  pub there : at new key ≡ Some node
  pub others : (other : ℕ) → other ≢ key → at new other ≡ at old other
  pub count : count_of new ≡ count_of old + 1
  pub rooms : SameRooms old new

-- one node less
pub record NoMoreAt (key : ℕ) (node : Node) (old new : Shelf) : Type 0 where
  pub fit : IsFit new.held new.apart
  pub was : at old key ≡ Some node
  pub gone : at new key ≡ None
  pub others : (other : ℕ) → other ≢ key → at new other ≡ at old other
  pub count : count_of new + 1 ≡ count_of old
  pub rooms : SameRooms old new

-- the node at a key has another value
pub record ValuedAt (key : ℕ) (value : Word) (old new : Shelf) : Type 0 where
  pub fit : IsFit new.held new.apart
  pub changed : at new key ≡ option_map (valued value) (at old key)
  pub others : (other : ℕ) → other ≢ key → at new other ≡ at old other
  pub count : count_of new ≡ count_of old
  pub rooms : SameRooms old new
