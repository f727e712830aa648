use Rattle.std.proofs.Common.{◌-◌, ◌≤◌, length, take}
use Rattle.ceal_lex.specs.Parts.{IsBeforeLine}
use Rattle.ceal_lex.proofs.Marks.{NoneBefore}
use Rattle.ceal_lex.proofs.split.split.Given as goal

abbrev pub invariant-loop-start : goal.invariant-loop-start
invariant-loop-start l = record {
  none : NoneBefore l.start l.input;
  before : l.start ≤ length l.input → IsBeforeLine (take l.start l.input);
}

abbrev pub decreases-loop-start : goal.decreases-loop-start
decreases-loop-start l = length l.input - l.start
