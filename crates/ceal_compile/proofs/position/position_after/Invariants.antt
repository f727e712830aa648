use Rattle.std.proofs.Common.{◌≡◌, ◌≤◌, ◌+◌, take}
use Rattle.ceal_compile.specs.FaultLine.{line_after, column_after}
use Rattle.ceal_compile.proofs.position.position_after.Given as goal

-- the position after the bytes so far
abbrev pub invariant-loop-byte : goal.invariant-loop-byte
invariant-loop-byte l = record {
  line : l.position.line ≡ line_after (take l.byte-index l.before);
  column : l.position.column ≡ column_after (take l.byte-index l.before);
  few_lines : l.position.line ≤ l.byte-index + 1;
  few_columns : l.position.column ≤ l.byte-index + 1;
}
