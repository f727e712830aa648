-- The branches of a body that its listing has still to write.
use Rattle.std.specs.Prelude.{ℕ, ◌+◌, if◌then◌else◌, List, [], ◌∷◌, ◌++◌, codes}
use Rattle.ceal_code.specs.Listing.{line, commands}
use Rattle.ceal_code.specs.Parts.{weight}
use Rattle.ceal_code.specs.Program.{Code}
use Rattle.ceal_code.specs.declared.branches.Branch.{Branch}
use Rattle.ceal_code.specs.declared.command.Cmd.{Cmd}

-- the lines of a branch; one that is a no part has its `else` before it and is one level deeper
abbrev pub branch_text : Code → List Cmd → Branch → List ℕ
branch_text code body b =
    if b.is_no then line b.depth (codes "else") ++ commands code body b.left b.index (b.depth + 1)
    else commands code body b.left b.index b.depth

-- the last one is written first
unfoldable pub branches_text : Code → List Cmd → List Branch → List ℕ
branches_text code body [] = []
branches_text code body (b ∷ bs) = branches_text code body bs ++ branch_text code body b

-- how many commands there may be on the paths of all branches
unfoldable pub branch_weights : List Branch → ℕ
branch_weights [] = 0
branch_weights (b ∷ bs) = weight b.left + branch_weights bs
