use Rattle.std.proofs.Common.{◌≡◌, ◌++◌}
use Rattle.ceal_gen.specs.Draws.{state_after}
use Rattle.ceal_gen.specs.ListText.{cell_lines}
use Rattle.ceal_gen.proofs.list.put_cells.Given as goal

abbrev pub invariant-loop-before : goal.invariant-loop-before
invariant-loop-before l = record {
  state : l.draws ≡ state_after l.initial.draws l.before;
  lines : l.out ≡ l.initial.out ++ cell_lines l.initial.draws l.before;
}
