use Rattle.std.proofs.Common.{◌≡◌, ◌++◌, ◌-◌}
use Rattle.ceal_gen.specs.Draws.{state_after}
use Rattle.ceal_gen.specs.TreeText.{node_count, node_lines}
use Rattle.ceal_gen.proofs.tree.put_nodes.Given as goal

abbrev pub invariant-loop-behind : goal.invariant-loop-behind
invariant-loop-behind l = record {
  state : l.draws ≡ state_after l.seed l.behind;
  lines : l.out ++ node_lines l.seed l.size (node_count l.size - l.behind) ≡ l.initial.out ++ node_lines l.seed l.size (node_count l.size);
}
