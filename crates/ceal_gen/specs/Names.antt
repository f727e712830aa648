-- The names in the lines of a workload.
use Rattle.std.specs.Prelude.{ℕ, List, ◌++◌, codes}
use Rattle.std.specs.Fmt.{decimal}

-- the cells of a list are `c1`, `c2` and so on, and the nodes of a tree are `n1`, `n2` and so on
abbrev pub cell_name : ℕ → List ℕ
cell_name k = codes "c" ++ decimal k

-- the name of the i-th node
abbrev pub node_name : ℕ → List ℕ
node_name i = codes "n" ++ decimal i
