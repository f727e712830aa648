-- The cost of levels beside levels, which flat items are parts of.
use Rattle.std.specs.Prelude.{ℕ, ◌+◌, List, [], ◌∷◌}
use Rattle.ceal_base.specs.Trace.{Trace}
use Rattle.ceal_code.specs.Alike.{Pairs}
use Rattle.ceal_theory.specs.Cost.{cost_from}
use Rattle.ceal_theory.specs.Levels.{first, around}

-- the cost of levels beside levels, the innermost first; what is paired in one stays paired in the next
unfoldable pub along : Pairs → List Trace → List Trace → ℕ
along ps [] ms = 0
along ps (l ∷ ls) ms = (cost_from ps l (first ms)).cost + along (cost_from ps l (first ms)).pairs ls (around ms)
