use Rattle.std.proofs.Common.{◌≡◌, ◌+◌, ◌++◌, length}
use Rattle.ceal_norm.specs.Units.{core_numbers}
use Rattle.ceal_norm.proofs.units.cores.Given as goal

abbrev pub invariant-loop-function : goal.invariant-loop-function
invariant-loop-function l = record {
  count : l.at + length l.functions ≡ length l.fn.functions;
  same : l.out.items ++ core_numbers l.at l.functions ≡ core_numbers 0 l.fn.functions;
}

abbrev pub decreases-loop-function : goal.decreases-loop-function
decreases-loop-function l = length l.functions
