-- The paths that a walk of a unit's body has still to go down.
use Rattle.std.specs.Prelude.{ℕ, zero, suc, ◌+◌, ◌&&◌, Bool, true, List, [], ◌∷◌}
use Rattle.ceal_code.specs.Program.{Code}
use Rattle.ceal_code.specs.Valid.{paths_ok}
use Rattle.ceal_code.specs.declared.command.Cmd.{Cmd}
use Rattle.ceal_code.specs.declared.paths.Part.{Part}

-- the paths from each of the parts are valid
unfoldable pub parts_ok : Code → ℕ → List Cmd → List Part → Bool
parts_ok code f body [] = true
parts_ok code f body (p ∷ ps) = paths_ok code f body p.left p.index p.known.items p.stepped && parts_ok code f body ps

-- how many commands there may be on paths of at most `n`
unfoldable pub weight : ℕ → ℕ
weight zero = 1
weight (suc n) = 1 + (weight n + weight n)

-- how many commands there may be on the paths from all parts
unfoldable pub weights : List Part → ℕ
weights [] = 0
weights (p ∷ ps) = weight p.left + weights ps
