use Rattle.std.proofs.Common.{◌≡◌, ◌≤◌, ◌+◌, ◌++◌, drop, length}
use Rattle.ceal_flow.specs.Blocks.{sizes, all_may_continue, all_blocks}
use Rattle.ceal_flow.specs.declared.limit.TheConstants.{BLOCK_LIMIT}
use Rattle.ceal_flow.proofs.statements.+put.Given as goal

abbrev pub invariant-put_stmts-loop-i : goal.invariant-put_stmts-loop-i
invariant-put_stmts-loop-i l = record {
  room : length l.blocks.items + sizes (drop l.i l.stmts) ≤ BLOCK_LIMIT;
  blocks : l.blocks.items ++ all_blocks (drop l.i l.stmts) (length l.blocks.items) l.after l.exits
      ≡ l.initial.blocks.items ++ all_blocks l.stmts (length l.initial.blocks.items) l.after l.exits;
  on : all_may_continue (drop l.i l.stmts) ≡ all_may_continue l.stmts;
}
