-- Whether each unit's body is a tree.
use Rattle.std.specs.Prelude.{◌&&◌, Bool, true, List, [], ◌∷◌}
use Rattle.ceal_code.specs.Program.{Unit}
use Rattle.ceal_code.specs.Valid.{is_tree}

-- whether the body of each unit is a tree
unfoldable pub are_trees : List Unit → Bool
are_trees [] = true
are_trees (unit ∷ units) = is_tree unit.body && are_trees units
