use Rattle.std.proofs.Common.{◌≡◌, drop, length}
use Rattle.ceal_types.specs.Statements.{block, empty_block, typed_stmts}
use Rattle.ceal_types.proofs.statements.+stmts.Given as goal

abbrev pub invariant-type_block-loop-s : goal.invariant-type_block-loop-s
invariant-type_block-loop-s l = record {
  outer : l.outer ≡ length l.fn.variables.scope;
  same : typed_stmts l.body.program.now l.body.own (drop l.s-index l.stmts) (block l.typed l.variables) ≡ typed_stmts l.body.program.now l.body.own l.stmts (empty_block l.fn.variables);
}
