-- How long a workload is, by its lines.
use Rattle.std.proofs.Common.{ℕ, zero, suc, ◌+◌, ◌-◌, ◌*◌, ◌%◌, ◌≤◌, ◌<◌, ◌^◌, length, arith, inl, inr}
use Rattle.std.specs.Prelude.{◌==◌, nat_lt}
use Rattle.std.specs.Fmt.{decimal}
use Rattle.std.proofs.lemmas.Bool.{cases_Bool}
use Rattle.std.proofs.lemmas.Fmt.{length-decimal-le}
use Rattle.std.proofs.lemmas.List.{length-append}
use Rattle.ceal_gen.specs.Draws.{draw}
use Rattle.ceal_gen.specs.ListText.{cell_line, cell_lines, head, head_of, list_run, list_text, put_at_end, put_in_front, tail_text, take_front}
use Rattle.ceal_gen.specs.Names.{cell_name, node_name}
use Rattle.ceal_gen.specs.Programs.{eval_program, map_program}
use Rattle.ceal_gen.specs.TreeText.{change_leaf, leaf_line, node_count, node_draw, node_line, node_lines, operator_line, replace_left, tree_run, tree_text}

-- Its numbers have eight digits at most.
abbrev Small : ℕ → Type 0
Small n = n < 10 ^ 8

digits : (n : ℕ) → Small n → length (decimal n) ≤ 8
digits n h = length-decimal-le 8 n (omega arith) h (omega (arith, h))

cell : (k : ℕ) → Small k → length (cell_name k) ≤ 9
cell k h = let d = digits k h in grind (arith, length-append, d)

tail : (k : ℕ) → Small k → length (tail_text k) ≤ 9
tail k h = elim (cases_Bool (k == 1)) [
  | inl e ↦ rw e (omega arith)
  | inr e ↦ rw e (cell (k - 1) (omega (arith, h)))
]

a_cell_line : (k h : ℕ) → Small k → Small h → length (cell_line k h) ≤ 40
unfolding cell_line
a_cell_line k h p q =
    let a = cell k p in
    let b = digits h q in
    let c = tail k p in grind (arith, length-append, a, b, c)

head_small : (d : ℕ) → Small (head_of d)
head_small d = omega arith

all_cell_lines : (seed size : ℕ) → Small size → length (cell_lines seed size) ≤ 40 * size
unfolding cell_lines
all_cell_lines seed zero h = omega arith
all_cell_lines seed (suc k) h =
    let a = all_cell_lines seed k (omega (arith, h)) in
    let b = a_cell_line (suc k) (head seed (suc k)) h (head_small (draw seed (suc k))) in
    let c = length-append (cell_lines seed k) (cell_line (suc k) (head seed (suc k))) in omega (arith, a, b, c)

pub list_short : (seed size : ℕ) → size ≤ 2 ^ 24 → length (list_text seed size) < 2 ^ 32
unfolding map_program list_run put_in_front put_at_end take_front
list_short seed size h =
    let a = all_cell_lines seed size (omega (arith, h)) in
    let b = cell size (omega (arith, h)) in
    let c = digits (head seed (size + 1)) (head_small (draw seed (size + 1))) in
    let d = digits (head seed (size + 2)) (head_small (draw seed (size + 2))) in grind (arith, length-append, a, b, c, d, h)

node : (i : ℕ) → Small i → length (node_name i) ≤ 9
node i h = let d = digits i h in grind (arith, length-append, d)

a_leaf_line : (i v : ℕ) → Small i → Small v → length (leaf_line i v) ≤ 60
unfolding leaf_line
a_leaf_line i v p q =
    let a = node i p in
    let b = digits v q in grind (arith, length-append, a, b)

an_operator_line : (i op : ℕ) → Small (2 * i + 1) → Small op → length (operator_line i op) ≤ 60
unfolding operator_line
an_operator_line i op p q =
    let a = node i (omega (arith, p)) in
    let b = digits op q in
    let c = node (2 * i) (omega (arith, p)) in
    let d = node (2 * i + 1) (omega (arith, p)) in grind (arith, length-append, a, b, c, d)

a_node_line : (size i drawn : ℕ) → Small (2 * i + 1) → length (node_line size i drawn) ≤ 60
a_node_line size i drawn h = elim (cases_Bool (nat_lt size i)) [
  | inl e ↦ rw e (a_leaf_line i (drawn % 1000) (omega (arith, h)) (omega arith))
  | inr e ↦ rw e (an_operator_line i (1 + drawn % 3) h (omega arith))
]

all_node_lines : (seed size i : ℕ) → Small (2 * i + 1) → length (node_lines seed size i) ≤ 60 * i
unfolding node_lines
all_node_lines seed size zero h = omega arith
all_node_lines seed size (suc i) h =
    let a = all_node_lines seed size i (omega (arith, h)) in
    let b = a_node_line size (suc i) (node_draw seed size (suc i)) h in
    let c = length-append (node_line size (suc i) (node_draw seed size (suc i))) (node_lines seed size i) in omega (arith, a, b, c)

pub tree_short : (seed size : ℕ) → size ≤ 2 ^ 24 → length (tree_text seed size) < 2 ^ 32
unfolding eval_program tree_run change_leaf replace_left
tree_short seed size h =
    let a = all_node_lines seed size (node_count size) (omega (arith, h)) in
    let b = node (node_count size) (omega (arith, h)) in grind (arith, length-append, a, b, h)
