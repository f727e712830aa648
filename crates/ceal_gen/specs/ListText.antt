-- The workload over a list: its cells, a first run, and edits of it.
use Rattle.std.specs.Prelude.{ℕ, zero, suc, ◌+◌, ◌-◌, ◌%◌, ◌==◌, List, [], ◌++◌, codes, if◌then◌else◌}
use Rattle.std.specs.Fmt.{decimal}
use Rattle.ceal_gen.specs.Draws.{draw}
use Rattle.ceal_gen.specs.Names.{cell_name}
use Rattle.ceal_gen.specs.Programs.{map_program}

-- what cell k holds, by the draw with its number
abbrev pub head_of : ℕ → ℕ
head_of drawn = drawn % 1000

-- the head of the k-th cell
abbrev pub head : ℕ → ℕ → ℕ
head seed k = head_of (draw seed k)

-- what cell k points to: the cell before it
abbrev pub tail_text : ℕ → List ℕ
tail_text k = if k == 1 then codes "null" else cell_name (k - 1)

-- the line that makes the k-th cell with this head
unfoldable pub cell_line : ℕ → ℕ → List ℕ
cell_line k h = codes "new " ++ cell_name k ++ codes " cell " ++ decimal h ++ codes " " ++ tail_text k ++ codes "\n"

-- the lines of the first cells, as many as are given
unfoldable pub cell_lines : ℕ → ℕ → List ℕ
cell_lines seed zero = []
cell_lines seed (suc k) = cell_lines seed k ++ cell_line (suc k) (head seed (suc k))

-- the first run, on all cells
unfoldable pub list_run : ℕ → List ℕ
list_run size =
    codes "mod l cell " ++ cell_name size ++ codes "\n"
    ++ codes "mod o cell null\n"
    ++ codes "run map l o\n"
    ++ codes "steps\n"
    ++ codes "blocks\n"

-- a cell is put in front
unfoldable pub put_in_front : ℕ → ℕ → List ℕ
put_in_front size h =
    codes "new y1 cell " ++ decimal h ++ codes " " ++ cell_name size ++ codes "\n"
    ++ codes "set l y1\n"
    ++ codes "propagate\n"
    ++ codes "work\n"

-- a cell is put at the end
unfoldable pub put_at_end : ℕ → List ℕ
put_at_end h =
    codes "new y2 cell " ++ decimal h ++ codes " null\n"
    ++ codes "set c1.tail y2\n"
    ++ codes "propagate\n"
    ++ codes "work\n"

-- the cell in front is taken away
unfoldable pub take_front : ℕ → List ℕ
take_front size =
    codes "set l " ++ cell_name size ++ codes "\n"
    ++ codes "propagate\n"
    ++ codes "work\n"
    ++ codes "steps\n"
    ++ codes "blocks\n"

-- the workload of a list: program, mark and script
abbrev pub list_text : ℕ → ℕ → List ℕ
list_text seed size =
    map_program
    ++ codes "%%\n"
    ++ cell_lines seed size
    ++ list_run size
    ++ put_in_front size (head seed (size + 1))
    ++ put_at_end (head seed (size + 2))
    ++ take_front size
