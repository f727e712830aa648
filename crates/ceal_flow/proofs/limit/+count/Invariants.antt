use Rattle.std.proofs.Common.{◌≡◌, ◌≤◌, ◌+◌, take}
use Rattle.ceal_flow.specs.Blocks.{sizes}
use Rattle.ceal_flow.specs.declared.limit.TheConstants.{BLOCK_LIMIT}
use Rattle.ceal_flow.proofs.limit.+count.Given as goal

abbrev pub invariant-count_stmts-loop-s : goal.invariant-count_stmts-loop-s
invariant-count_stmts-loop-s l = record {
  counted : l.total ≡ l.count + sizes (take l.s-index l.stmts);
  within : l.total ≤ BLOCK_LIMIT;
}
