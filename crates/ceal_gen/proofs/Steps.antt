-- The draws and the lines step by step.
use Rattle.std.proofs.Common.{◌≡◌, ◌<◌, ℕ, suc, ◌+◌, ◌-◌, List, [], ◌++◌, refl, sym, ap, ◌∙◌, append_assoc, arith}
use Rattle.ceal_gen.specs.Draws.{next_state, state_after, drawn}
use Rattle.ceal_gen.specs.ListText.{head_of, head, cell_line, cell_lines}
use Rattle.ceal_gen.specs.TreeText.{node_count, node_line, node_draw, node_lines}

pub state-none : (seed : ℕ) → state_after seed 0 ≡ seed
unfolding state_after
state-none seed = refl

pub state-more : (seed n : ℕ) → state_after seed (n + 1) ≡ next_state (state_after seed n)
unfolding state_after
state-more seed n = let e : n + 1 ≡ suc n = omega arith in rw e refl

pub cells-none : (seed : ℕ) → cell_lines seed 0 ≡ []
unfolding cell_lines
cells-none seed = refl

cells-more : (seed k : ℕ) → cell_lines seed (k + 1) ≡ cell_lines seed k ++ cell_line (k + 1) (head seed (k + 1))
unfolding cell_lines
cells-more seed k = let e : k + 1 ≡ suc k = omega arith in rw e refl

pub nodes-none : (seed size : ℕ) → node_lines seed size 0 ≡ []
unfolding node_lines
nodes-none seed size = refl

nodes-one : (seed size i : ℕ) → node_lines seed size (i + 1) ≡ node_line size (i + 1) (node_draw seed size (i + 1)) ++ node_lines seed size i
unfolding node_lines
nodes-one seed size i = let e : i + 1 ≡ suc i = omega arith in rw e refl

-- the next node of those that are left
nodes-more : (seed size behind : ℕ) → behind < node_count size
    → node_lines seed size (node_count size - behind)
    ≡ node_line size (node_count size - behind) (drawn (next_state (state_after seed behind))) ++ node_lines seed size (node_count size - (behind + 1))
nodes-more seed size behind h =
    let i : ℕ = node_count size - (behind + 1) in
    let left : node_count size - behind ≡ i + 1 = omega (arith, h) in
    let number : node_count size + 1 - (i + 1) ≡ behind + 1 = omega (arith, h) in
    let same : node_draw seed size (i + 1) ≡ drawn (next_state (state_after seed behind)) = ap drawn (ap (state_after seed) number ∙ state-more seed behind) in
    rw left (nodes-one seed size i ∙ ap (λ (d : ℕ). node_line size (i + 1) d ++ node_lines seed size i) same)

-- a cell after the others
pub cells-next : (seed k s h : ℕ) (first out new : List ℕ)
    → s ≡ state_after seed (k + 1) → h ≡ head_of (drawn s) → out ≡ first ++ cell_lines seed k → new ≡ out ++ cell_line (k + 1) h
    → new ≡ first ++ cell_lines seed (k + 1)
cells-next seed k s h first out new d e o n =
    let held : h ≡ head seed (k + 1) = e ∙ ap (λ (x : ℕ). head_of (drawn x)) d in
    n ∙ ap (λ (x : List ℕ). x ++ cell_line (k + 1) h) o ∙ append_assoc first (cell_lines seed k) (cell_line (k + 1) h)
    ∙ ap (λ (x : List ℕ). first ++ x) (ap (λ (x : ℕ). cell_lines seed k ++ cell_line (k + 1) x) held ∙ sym (cells-more seed k))

-- a node before those that are left
pub nodes-next : (seed size behind d : ℕ) (first out new : List ℕ) → behind < node_count size
    → d ≡ drawn (next_state (state_after seed behind))
    → out ++ node_lines seed size (node_count size - behind) ≡ first
    → new ≡ out ++ node_line size (node_count size - behind) d
    → new ++ node_lines seed size (node_count size - (behind + 1)) ≡ first
nodes-next seed size behind d first out new h e o n =
    let rest : List ℕ = node_lines seed size (node_count size - (behind + 1)) in
    let node : ℕ → List ℕ = node_line size (node_count size - behind) in
    ap (λ (x : List ℕ). x ++ rest) n ∙ append_assoc out (node d) rest
    ∙ ap (λ (x : List ℕ). out ++ x) (ap (λ (x : ℕ). node x ++ rest) e ∙ sym (nodes-more seed size behind h)) ∙ o
