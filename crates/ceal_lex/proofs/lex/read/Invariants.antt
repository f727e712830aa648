use Rattle.std.proofs.Common.{◌≤◌, ◌-◌, length, drop}
use Rattle.ceal_lex.proofs.Going.{Continues}
use Rattle.ceal_lex.proofs.lex.read.Given as goal

abbrev pub invariant-loop-at : goal.invariant-loop-at
invariant-loop-at l = record {
  within : l.at ≤ length l.source;
  so_far : Continues l.source (drop l.at l.source) l.at l.tokens;
}

abbrev pub decreases-loop-at : goal.decreases-loop-at
decreases-loop-at l = length l.source - l.at
