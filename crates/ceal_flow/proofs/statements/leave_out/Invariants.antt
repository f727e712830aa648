use Rattle.std.proofs.Common.{◌≡◌, ◌++◌, replicate}
use Rattle.ceal_flow.specs.declared.block.GraphBlock.TheVariants.{Unreached}
use Rattle.ceal_flow.proofs.statements.leave_out.Given as goal

abbrev pub invariant-loop : goal.invariant-loop
invariant-loop l = l.blocks.items ≡ l.initial.blocks.items ++ replicate l.counter Unreached
