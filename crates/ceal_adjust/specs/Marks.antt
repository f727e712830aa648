-- What old items are found by, and how many reads are open around them.
use Rattle.std.specs.Prelude.{ℕ, zero, suc, pred, Bool, false, Option, Some, None, List, [], ◌∷◌, ◌++◌, length}
use Rattle.std.specs.Prelude.{slice_get, if◌then◌else◌}
use Rattle.ceal_base.specs.declared.forest.Item.{Item}
use Rattle.ceal_base.specs.declared.forest.Item.TheVariants.{Step, Alloc, Write, Read, End}
use Rattle.ceal_theory.specs.Levels.{after_item}
use Rattle.ceal_adjust.specs.contracts.mark.MarkPartialEq.TheImpl.{ghosts}
use Rattle.ceal_adjust.specs.declared.mark.Mark.{Mark}
use Rattle.ceal_adjust.specs.declared.mark.Mark.TheVariants.{Made, Taken, Closed}

-- the mark of an item, where `levels` reads are open before it
abbrev pub mark_of : Item → ℕ → Option Mark
mark_of Step n = None
mark_of (Alloc block key) n = Some (Made key)
mark_of (Write place value) n = None
mark_of (Read place value unit var args) n = Some (Taken place unit var args)
mark_of End n = Some (Closed (pred n))

-- how many reads are open after an item, if there is one
abbrev pub depth_after : Option Item → ℕ → ℕ
depth_after None n = n
depth_after (Some i) n = after_item i n

-- how many reads are open before the k-th item, where as many as there are items are open before the first: no End is
-- without one
unfoldable pub depth : List Item → ℕ → ℕ
depth is zero = length is
depth is (suc k) = depth_after (slice_get is k) (depth is k)

-- the mark of an item, if there is one
abbrev pub mark_in : Option Item → ℕ → Option Mark
mark_in None n = None
mark_in (Some i) n = mark_of i n

-- `==` in code
unfoldable pub same_mark : Mark → Mark → Bool
same_mark x m = ghosts.eq x m

-- whether the mark is this one
abbrev pub has : Option Mark → Mark → Bool
has None m = false
has (Some x) m = same_mark x m

-- whether the k-th item has this mark
abbrev pub marked : List Item → Mark → ℕ → Bool
marked is m k = has (mark_in (slice_get is k) (depth is k)) m

-- the places before the k-th of the items with this mark, in their order
unfoldable pub places : List Item → Mark → ℕ → List ℕ
places is m zero = []
places is m (suc k) = if marked is m k then places is m k ++ k ∷ [] else places is m k

-- the depths of the items before the k-th
unfoldable pub depths : List Item → ℕ → List ℕ
depths is zero = []
depths is (suc k) = depths is k ++ depth is k ∷ []
