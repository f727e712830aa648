use Rattle.std.proofs.Common.{◌≡◌, ◌≤◌, take}
use Rattle.ceal_flow.specs.Lowering.{function_sizes}
use Rattle.ceal_flow.specs.declared.limit.TheConstants.{BLOCK_LIMIT}
use Rattle.ceal_flow.proofs.limit.count_functions.Given as goal

abbrev pub invariant-loop-function : goal.invariant-loop-function
invariant-loop-function l = record {
  counted : l.total ≡ function_sizes (take l.function-index l.functions);
  within : l.total ≤ BLOCK_LIMIT;
}
