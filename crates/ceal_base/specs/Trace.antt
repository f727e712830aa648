-- The forest of a trace, as trees, and its flat form.
use Rattle.std.specs.Prelude.{ℕ, ◌+◌, Option, Some, None, List, [], ◌∷◌, ◌++◌}
use Rattle.ceal_base.specs.declared.forest.Item.{Item}
use Rattle.ceal_base.specs.declared.forest.Item.TheVariants.{Step, Alloc, Write, Read, End}
use Rattle.ceal_base.specs.declared.forest.Key.{Key}
use Rattle.ceal_base.specs.declared.word.BlockId.{BlockId}
use Rattle.ceal_base.specs.declared.word.Place.{Place}
use Rattle.ceal_base.specs.declared.forest.UnitId.{UnitId}
use Rattle.ceal_base.specs.declared.word.Word.{Word}

-- items in time order, where a read holds the items inside it; each names what follows it
pub data Trace : Type 0 where
  Nothing : Trace
  Stepped : (rest : Trace) → Trace
  Allocated : (block : BlockId) (key : Key) (rest : Trace) → Trace
  Wrote : (place : Place) (value : Word) (rest : Trace) → Trace
  WasRead : (place : Place) (value : Word) (unit : UnitId) (var : ℕ) (args : List Word) (inside rest : Trace) → Trace

-- the items one after another, those inside a read before the `End` that closes it
abbrev pub flat : Trace → List Item
flat Nothing = []
flat (Stepped rest) = Step ∷ flat rest
flat (Allocated block key rest) = Alloc block key ∷ flat rest
flat (Wrote place value rest) = Write place value ∷ flat rest
flat (WasRead place value unit var args inside rest) =
    Read place value unit var args ∷ (flat inside ++ End ∷ flat rest)

-- how many steps there are at all depths
abbrev pub steps_of : Trace → ℕ
steps_of Nothing = 0
steps_of (Stepped rest) = 1 + steps_of rest
steps_of (Allocated block key rest) = steps_of rest
steps_of (Wrote place value rest) = steps_of rest
steps_of (WasRead place value unit var args inside rest) = steps_of inside + steps_of rest

-- the blocks of the allocations, in order, at all depths
abbrev pub blocks_of : Trace → List BlockId
blocks_of Nothing = []
blocks_of (Stepped rest) = blocks_of rest
blocks_of (Allocated block key rest) = block ∷ blocks_of rest
blocks_of (Wrote place value rest) = blocks_of rest
blocks_of (WasRead place value unit var args inside rest) = blocks_of inside ++ blocks_of rest

-- one item in front of the first of the traces
abbrev pub with_item : Item → Option (List Trace) → Option (List Trace)
with_item End None = None
with_item End (Some ts) = Some (Nothing ∷ ts)
with_item Step (Some (t ∷ ts)) = Some (Stepped t ∷ ts)
with_item (Alloc block key) (Some (t ∷ ts)) = Some (Allocated block key t ∷ ts)
with_item (Write place value) (Some (t ∷ ts)) = Some (Wrote place value t ∷ ts)
with_item (Read place value unit var args) (Some (inside ∷ rest ∷ ts)) =
    Some (WasRead place value unit var args inside rest ∷ ts)
with_item _ _ = None

-- the traces that items stand for: that of their own level, and then those around it, the inner ones first
abbrev pub traces : List Item → Option (List Trace)
traces [] = Some (Nothing ∷ [])
traces (i ∷ is) = with_item i (traces is)

-- the only trace of the list
abbrev pub only : Option (List Trace) → Option Trace
only (Some (t ∷ [])) = Some t
only _ = None

-- the trace that items stand for
abbrev pub trace_of : List Item → Option Trace
trace_of is = only (traces is)

-- the items of the one, and then those of the other
abbrev pub trace_then : Trace → Trace → Trace
trace_then Nothing t = t
trace_then (Stepped rest) t = Stepped (trace_then rest t)
trace_then (Allocated block key rest) t = Allocated block key (trace_then rest t)
trace_then (Wrote place value rest) t = Wrote place value (trace_then rest t)
trace_then (WasRead place value unit var args inside rest) t =
    WasRead place value unit var args inside (trace_then rest t)

-- how many steps are among the items
abbrev pub steps_in : List Item → ℕ
steps_in [] = 0
steps_in (Step ∷ is) = 1 + steps_in is
steps_in (_ ∷ is) = steps_in is
