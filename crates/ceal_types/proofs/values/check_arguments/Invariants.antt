use Rattle.std.proofs.Common.{◌≡◌, drop}
use Rattle.ceal_types.specs.Statements.{arguments_suit}
use Rattle.ceal_types.proofs.values.check_arguments.Given as goal

abbrev pub invariant-loop-e : goal.invariant-loop-e
invariant-loop-e l = arguments_suit l.rest (drop l.e-index l.es) ≡ arguments_suit l.kinds l.es
