-- For how many nodes an engine has room. A repair makes no more room than before, or no more than for twice the nodes
-- that it repairs and for what it re-executes. So over any list of edits and repairs the room is that of the largest
-- one of these, whatever their number is.
use Rattle.std.specs.Prelude.{◌⊎◌, ◌≤◌, ◌+◌, ◌*◌, ℕ, length}
use Rattle.ceal_engine.specs.Cost.{CostOfEdit, CostOfInput, CostOfRepair, IsCounted, nodes_of, revalued, room_of}
use Rattle.ceal_engine.specs.Engine.{EngineState}
use Rattle.ceal_engine.specs.Partial.{spent_in}
use Rattle.ceal_order.specs.Stamps.{room_beyond}

-- From one engine to another by edits, new inputs and repairs, whole or in parts, in any order. None of the repairs has
-- more than this to do: twice the nodes that it begins with, five for each step that it re-executes, and two for each
-- read that it gives another value.
pub data Within (most : ℕ) : EngineState → EngineState → Type 0 where
  none : {e : EngineState} → Within most e e
  edit : {s e n : EngineState} → Within most s e → CostOfEdit e n → Within most s n
  input : {s e n : EngineState} → Within most s e → CostOfInput e n → Within most s n
  repair : {s e n : EngineState} → Within most s e → CostOfRepair e n
      → (steps : ℕ) → n.work ≤ spent_in e.phase e.work + steps
      → 2 * length (nodes_of e.timeline) + 5 * steps + 2 * revalued e n ≤ most → Within most s n

-- However many they are, there is room for no more nodes than at first, or for no more than that and few beyond. As
-- long as touches are counted, that is up to 2^64 - 1.
abbrev pub RoomLaw : Type 0
RoomLaw = (most : ℕ) (s n : EngineState) → Within most s n → IsCounted n
    → (room_of n.timeline ≤ room_of s.timeline) ⊎ (room_of n.timeline ≤ most + room_beyond)
