-- What is taken from old items while a unit is re-executed: the earliest item with the same key.
-- What is before it is revoked, and what is after it is left over
-- (our own; the 2009 design matches by keys too).
use Rattle.std.specs.Prelude.{ℕ, ◌==◌, ◌&&◌, Bool, true, false, if◌then◌else◌, Option, Some, None, List, [], ◌∷◌}
use Rattle.ceal_base.specs.Operators.{same_place, same_word}
use Rattle.ceal_base.specs.Trace.{Trace, Nothing, Stepped, Allocated, Wrote, WasRead, trace_then}
use Rattle.ceal_base.specs.declared.forest.Key.{Key}
use Rattle.ceal_base.specs.declared.forest.Key.TheVariants.{Init, ModInt as IntKey, ModPtr as PtrKey}
use Rattle.ceal_base.specs.declared.forest.UnitId.{UnitId}
use Rattle.ceal_base.specs.declared.word.BlockId.{BlockId}
use Rattle.ceal_base.specs.declared.word.Place.{Place}
use Rattle.ceal_base.specs.declared.word.Word.{Word}

-- whether two lists of words are one
abbrev pub same_words : List Word → List Word → Bool
same_words [] [] = true
same_words (v ∷ vs) (w ∷ ws) = same_word v w && same_words vs ws
same_words _ _ = false

-- whether two keys are one
abbrev pub same_key : Key → Key → Bool
same_key (Init f vs) (Init g ws) = f == g && same_words vs ws
same_key IntKey IntKey = true
same_key (PtrKey s) (PtrKey t) = s == t
same_key _ _ = false

-- an allocation that is taken: its block, and what is left over
pub record TakenAlloc : Type 0 where
  pub block : BlockId
  pub leftover : Trace

-- a read that is taken: its value, the items inside it, and what is left over
pub record TakenRead : Type 0 where
  pub value : Word
  pub inside : Trace
  pub leftover : Trace

-- of a read that is not taken itself the rest of its items is left over, and then what follows it
abbrev pub alloc_then : Trace → Option TakenAlloc → Option TakenAlloc → Option TakenAlloc
alloc_then rest (Some t) later = Some (record t { leftover = trace_then t.leftover rest })
alloc_then rest None later = later

-- the earliest allocation with this key, at any depth
unfoldable pub take_alloc : Key → Trace → Option TakenAlloc
take_alloc key Nothing = None
take_alloc key (Stepped rest) = take_alloc key rest
take_alloc key (Allocated block k rest) =
    if same_key k key then Some (record { block = block; leftover = rest }) else take_alloc key rest
take_alloc key (Wrote place value rest) = take_alloc key rest
take_alloc key (WasRead place value unit var args inside rest) =
    alloc_then rest (take_alloc key inside) (take_alloc key rest)

-- the read that an item is, or a later one, with the rest after what it leaves over
abbrev pub read_then : Trace → Option TakenRead → Option TakenRead → Option TakenRead
read_then rest (Some t) later = Some (record t { leftover = trace_then t.leftover rest })
read_then rest None later = later

-- the earliest read of this place with this unit, variable and arguments; its value is not compared
unfoldable pub take_read : Place → UnitId → ℕ → List Word → Trace → Option TakenRead
take_read p u v args Nothing = None
take_read p u v args (Stepped rest) = take_read p u v args rest
take_read p u v args (Allocated block k rest) = take_read p u v args rest
take_read p u v args (Wrote place value rest) = take_read p u v args rest
take_read p u v args (WasRead place value unit var words inside rest) =
    if same_place place p && unit.0 == u.0 && var == v && same_words words args
    then Some (record { value = value; inside = inside; leftover = rest })
    else read_then rest (take_read p u v args inside) (take_read p u v args rest)
