-- A part of flat items as traces: what is left over of old items is a part of their flat list. An `End` whose `Read`
-- is before the part closes a level of it.
use Rattle.std.specs.Prelude.{◌≡◌, ℕ, zero, suc, pred, ◌==◌, ◌&&◌, Bool, if◌then◌else◌, Option, Some, None, List, []}
use Rattle.std.specs.Prelude.{◌∷◌, ◌++◌}
use Rattle.ceal_base.specs.Operators.{same_place}
use Rattle.ceal_base.specs.Trace.{Trace, Nothing, Stepped, Allocated, Wrote, WasRead, trace_then, flat}
use Rattle.ceal_base.specs.declared.forest.Item.{Item}
use Rattle.ceal_base.specs.declared.forest.Item.TheVariants.{Step, Alloc, Write, Read, End}
use Rattle.ceal_base.specs.declared.forest.Key.{Key}
use Rattle.ceal_base.specs.declared.forest.UnitId.{UnitId}
use Rattle.ceal_base.specs.declared.word.BlockId.{BlockId}
use Rattle.ceal_base.specs.declared.word.Place.{Place}
use Rattle.ceal_base.specs.declared.word.Word.{Word}
use Rattle.ceal_theory.specs.Take.{same_words, same_key, TakenAlloc, TakenRead, take_alloc, take_read}

-- the first level; one that is not there has no items
abbrev pub first : List Trace → Trace
first [] = Nothing
first (t ∷ ts) = t

-- the levels around it
abbrev pub around : List Trace → List Trace
around [] = []
around (t ∷ ts) = ts

-- the traces that a part of flat items stands for: that of the innermost level, then those around it
abbrev pub levels : List Item → List Trace
levels [] = []
levels (Step ∷ is) = Stepped (first (levels is)) ∷ around (levels is)
levels (Alloc block key ∷ is) = Allocated block key (first (levels is)) ∷ around (levels is)
levels (Write place value ∷ is) = Wrote place value (first (levels is)) ∷ around (levels is)
levels (Read place value unit var args ∷ is) =
    WasRead place value unit var args (first (levels is)) (first (around (levels is))) ∷ around (around (levels is))
levels (End ∷ is) = Nothing ∷ levels is

-- the items of n levels one after another
abbrev pub loose : ℕ → List Trace → Trace
loose zero ts = Nothing
loose (suc n) ts = trace_then (first ts) (loose n (around ts))

-- the levels around the first n
abbrev pub beyond : ℕ → List Trace → List Trace
beyond zero ts = ts
beyond (suc n) ts = beyond n (around ts)

-- how many levels are open after an item, where n are open before it
abbrev pub after_item : Item → ℕ → ℕ
after_item Step n = n
after_item (Alloc block key) n = n
after_item (Write place value) n = n
after_item (Read place value unit var args) n = suc n
after_item End n = pred n

-- the items after the End that closes the last of n levels
unfoldable pub skipped : ℕ → List Item → List Item
skipped zero is = is
skipped (suc n) [] = []
skipped (suc n) (i ∷ is) = skipped (after_item i (suc n)) is

-- the block of an allocation with this key
abbrev pub block_of_key : Item → Key → Option BlockId
block_of_key (Alloc block k) key = if same_key k key then Some block else None
block_of_key Step key = None
block_of_key (Write place value) key = None
block_of_key (Read place value unit var args) key = None
block_of_key End key = None

-- an allocation that is found: its block, the items after it, and how many of their levels are left over
pub record FoundAlloc : Type 0 where
  pub block : BlockId
  pub rest : List Item
  pub levels : ℕ

-- the allocation that an item is, or a later one
abbrev pub alloc_or : Option BlockId → List Item → ℕ → Option FoundAlloc → Option FoundAlloc
alloc_or (Some block) is n later = Some (record { block = block; rest = is; levels = n })
alloc_or None is n later = later

-- the earliest allocation with this key in n levels
unfoldable pub find_alloc : Key → ℕ → List Item → Option FoundAlloc
find_alloc key zero is = None
find_alloc key (suc n) [] = None
find_alloc key (suc n) (i ∷ is) = alloc_or (block_of_key i key) is (suc n) (find_alloc key (after_item i (suc n)) is)

-- whether two reads have one key
abbrev pub same_read : Place → UnitId → ℕ → List Word → Place → UnitId → ℕ → List Word → Bool
same_read place unit var words p u v args = same_place place p && unit.0 == u.0 && var == v && same_words words args

-- the value of a read of this place with this unit, variable and arguments
abbrev pub value_of_read : Item → Place → UnitId → ℕ → List Word → Option Word
value_of_read (Read place value unit var words) p u v args =
    if same_read place unit var words p u v args then Some value else None
value_of_read Step p u v args = None
value_of_read (Alloc block key) p u v args = None
value_of_read (Write place value) p u v args = None
value_of_read End p u v args = None

-- a read that is found: its value, the items after it, and how many levels around the first of them are left over
pub record FoundRead : Type 0 where
  pub value : Word
  pub rest : List Item
  pub levels : ℕ

-- the read that an item is, or a later one
abbrev pub read_or : Option Word → List Item → ℕ → Option FoundRead → Option FoundRead
read_or (Some value) is n later = Some (record { value = value; rest = is; levels = n })
read_or None is n later = later

-- the earliest read of this place with this unit, variable and arguments in n levels
unfoldable pub find_read : Place → UnitId → ℕ → List Word → ℕ → List Item → Option FoundRead
find_read p u v args zero is = None
find_read p u v args (suc n) [] = None
find_read p u v args (suc n) (i ∷ is) =
    read_or (value_of_read i p u v args) is (suc n) (find_read p u v args (after_item i (suc n)) is)

-- what is taken where an item is found
abbrev pub taken_alloc : Option FoundAlloc → Option TakenAlloc
taken_alloc None = None
taken_alloc (Some f) = Some (record { block = f.block; leftover = loose f.levels (levels f.rest) })

-- a read that was found, as trees
abbrev pub taken_read : Option FoundRead → Option TakenRead
taken_read None = None
taken_read (Some f) = Some (record {
  value = f.value;
  inside = first (levels f.rest);
  leftover = loose f.levels (around (levels f.rest));
})

-- To take from what is left over is to find in the levels of flat items; the levels around them stay.
abbrev pub FlatTakeLaw : Type 0
FlatTakeLaw = (n : ℕ) (is : List Item)
    → ((key : Key) → (take_alloc key (loose n (levels is)) ≡ taken_alloc (find_alloc key n is))
    × ((f : FoundAlloc) → find_alloc key n is ≡ Some f → beyond f.levels (levels f.rest) ≡ beyond n (levels is)))
    × ((p : Place) (u : UnitId) (v : ℕ) (args : List Word)
    → (take_read p u v args (loose n (levels is)) ≡ taken_read (find_read p u v args n is))
    × ((f : FoundRead) → find_read p u v args n is ≡ Some f
    → beyond f.levels (around (levels f.rest)) ≡ beyond n (levels is)))
    × (levels (skipped n is) ≡ beyond n (levels is))

-- a part that begins with whole items
abbrev pub FlatLevelsLaw : Type 0
FlatLevelsLaw =
    (f : Trace) (is : List Item)
    → (first (levels (flat f ++ is)) ≡ trace_then f (first (levels is)))
    × (around (levels (flat f ++ is)) ≡ around (levels is))
    × (first (levels (flat f)) ≡ f) × (around (levels (flat f)) ≡ [])
