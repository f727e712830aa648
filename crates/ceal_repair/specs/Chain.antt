-- What was recorded last of each place, and what the queue of stale reads has to hold: each read that is not queued
-- records what was recorded last of its place, which is its base, the last write or the value of the last read.
use Rattle.std.specs.Prelude.{◌≡◌, ◌⊎◌, ℕ, true, List, [], ◌∷◌, ⊤}
use Rattle.ceal_code.specs.Replay.{Store, stored}
use Rattle.ceal_repair.specs.Covered.{Queue}
use Rattle.ceal_trace.specs.Nodes.{Entry}
use Rattle.ceal_trace.specs.declared.node.Node.{Node}
use Rattle.ceal_trace.specs.declared.node.Node.TheVariants.{Write, Read}

-- what was recorded last of each place, after a node, and after several
abbrev pub recorded_after : Store → Node → Store
recorded_after t (Write p value) = stored t p value
recorded_after t (Read p value unit var args) = stored t p value
recorded_after t _ = t

abbrev pub recorded_last : Store → List Entry → Store
recorded_last t [] = t
recorded_last t (e ∷ es) = recorded_last (recorded_after t e.node) es

-- a read records what was recorded last of its place, or it is queued
abbrev pub IsChained : Queue → Store → ℕ → Node → Type 0
IsChained q t s (Read p value unit var args) = (t p ≡ value) ⊎ (q s ≡ true)
IsChained q t s _ = ⊤

-- so does each of these, where this was recorded last at first
abbrev pub Chained : Queue → Store → List Entry → Type 0
Chained q t [] = ⊤
Chained q t (e ∷ es) = IsChained q t e.stamp e.node × Chained q (recorded_after t e.node) es
