-- The workload over a tree of operators: its nodes, a first run, and edits of it.
use Rattle.std.specs.Prelude.{ℕ, zero, suc, ◌+◌, ◌-◌, ◌*◌, ◌%◌, List, [], ◌++◌, codes, nat_lt, if◌then◌else◌}
use Rattle.std.specs.Fmt.{decimal}
use Rattle.ceal_gen.specs.Draws.{draw}
use Rattle.ceal_gen.specs.Names.{node_name}
use Rattle.ceal_gen.specs.Programs.{eval_program}

-- the nodes of a tree with the given number of operators; the last of them is made first
abbrev pub node_count : ℕ → ℕ
node_count size = 2 * size + 1

-- a leaf, with its value
unfoldable pub leaf_line : ℕ → ℕ → List ℕ
leaf_line i v = codes "new " ++ node_name i ++ codes " node 0 " ++ decimal v ++ codes " null null\n"

-- an operator, over the nodes with twice its number and the number after that
unfoldable pub operator_line : ℕ → ℕ → List ℕ
operator_line i op =
    codes "new " ++ node_name i ++ codes " node " ++ decimal op ++ codes " 0 " ++ node_name (2 * i) ++ codes " "
    ++ node_name (2 * i + 1) ++ codes "\n"

-- node i by its draw: the operators are the nodes up to the size
abbrev pub node_line : ℕ → ℕ → ℕ → List ℕ
node_line size i drawn = if nat_lt size i then leaf_line i (drawn % 1000) else operator_line i (1 + drawn % 3)

-- the draw of node i; the last node has the first
abbrev pub node_draw : ℕ → ℕ → ℕ → ℕ
node_draw seed size i = draw seed (node_count size + 1 - i)

-- the lines of the nodes from this one down to the first
unfoldable pub node_lines : ℕ → ℕ → ℕ → List ℕ
node_lines seed size zero = []
node_lines seed size (suc i) = node_line size (suc i) (node_draw seed size (suc i)) ++ node_lines seed size i

-- the first run, on the whole tree
unfoldable pub tree_run : List ℕ
tree_run =
    codes "mod r node n1\n"
    ++ codes "mod o int 0\n"
    ++ codes "run eval r o\n"
    ++ codes "get o\n"
    ++ codes "steps\n"
    ++ codes "blocks\n"

-- the last leaf gets another value
unfoldable pub change_leaf : ℕ → List ℕ
change_leaf last =
    codes "set " ++ node_name last ++ codes ".leaf 7\n"
    ++ codes "propagate\n"
    ++ codes "get o\n"
    ++ codes "work\n"

-- the left part of the root is replaced by a leaf
unfoldable pub replace_left : List ℕ
replace_left =
    codes "new y node 0 5 null null\n"
    ++ codes "set n1.left y\n"
    ++ codes "propagate\n"
    ++ codes "get o\n"
    ++ codes "work\n"
    ++ codes "steps\n"
    ++ codes "blocks\n"

-- the workload of a tree: program, mark and script
abbrev pub tree_text : ℕ → ℕ → List ℕ
tree_text seed size =
    eval_program
    ++ codes "%%\n"
    ++ node_lines seed size (node_count size)
    ++ tree_run
    ++ change_leaf (node_count size)
    ++ replace_left
