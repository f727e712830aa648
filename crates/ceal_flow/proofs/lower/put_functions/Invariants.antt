use Rattle.std.proofs.Common.{◌≡◌, ◌≤◌, ◌+◌, ◌++◌, drop, length}
use Rattle.ceal_flow.specs.Lowering.{function_sizes, functions_from, blocks_from}
use Rattle.ceal_flow.specs.declared.limit.TheConstants.{BLOCK_LIMIT}
use Rattle.ceal_flow.proofs.lower.put_functions.Given as goal

abbrev pub invariant-loop-function : goal.invariant-loop-function
invariant-loop-function l = record {
  room : length l.blocks.items + function_sizes (drop l.function-index l.functions) ≤ BLOCK_LIMIT;
  blocks : l.blocks.items ++ blocks_from (length l.blocks.items) (drop l.function-index l.functions)
      ≡ l.initial.blocks.items ++ blocks_from (length l.initial.blocks.items) l.functions;
  functions : l.put.items ++ functions_from (length l.blocks.items) (drop l.function-index l.functions)
      ≡ functions_from (length l.initial.blocks.items) l.functions;
}
