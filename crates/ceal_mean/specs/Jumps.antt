-- The statements that take no step: `return`, `break` and `continue`.
use Rattle.std.specs.Prelude.{List, [], ◌∷◌}
use Rattle.ceal_base.specs.declared.typed.TypedStmt.{Return, Break, Continue}
use Rattle.ceal_mean.specs.Frame.{Item, Do, Again}

-- the items without all before the first `Again`
abbrev pub next_turn : List Item → List Item
next_turn [] = []
next_turn (Do s ∷ rest) = next_turn rest
next_turn (Again w ∷ rest) = Again w ∷ rest

-- the items that are left when all jumps are made that come first. A `return` leaves none, a `break` those after the
-- first `Again`, and a `continue` those from it on
unfoldable mutual
  pub ready : List Item → List Item
  ready [] = []
  ready (Do (Return at) ∷ rest) = []
  ready (Do (Break at) ∷ rest) = ready_after_turn rest
  ready (Do (Continue at) ∷ rest) = next_turn rest
  ready (item ∷ rest) = item ∷ rest

  -- the same of the items after the first `Again`
  pub ready_after_turn : List Item → List Item
  ready_after_turn [] = []
  ready_after_turn (Do s ∷ rest) = ready_after_turn rest
  ready_after_turn (Again w ∷ rest) = ready rest
