use Rattle.std.proofs.Common.{◌≡◌, ◌≤◌, [], drop}
use Rattle.ceal_grammar.specs.declared.state.State.TheVariants.{Top}
use Rattle.ceal_grammar.specs.Judged.{tree_or_fault}
use Rattle.ceal_grammar.specs.Machine.{nesting_of, operators_of}
use Rattle.ceal_parse.specs.Reading.{Fits}
use Rattle.ceal_parse.proofs.parse.read.Given as goal

abbrev pub invariant-loop-token : goal.invariant-loop-token
invariant-loop-token l = record {
  same : tree_or_fault l.parser.state (drop l.token-index l.tokens) ≡ tree_or_fault (Top []) l.initial.tokens;
  shallow : nesting_of l.parser.state ≤ 64;
  few : operators_of l.parser.state ≤ 255;
  room : Fits l.parser.state;
}
