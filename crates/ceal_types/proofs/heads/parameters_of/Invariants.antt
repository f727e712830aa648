use Rattle.std.proofs.Common.{◌≡◌, drop}
use Rattle.ceal_types.specs.Heads.{with_parameter, no_variables}
use Rattle.ceal_types.specs.Walk.{in_turn}
use Rattle.ceal_types.proofs.heads.parameters_of.Given as goal

abbrev pub invariant-loop-parameter : goal.invariant-loop-parameter
invariant-loop-parameter l =
    in_turn (with_parameter l.names) (drop l.parameter-index l.parameters) l.variables ≡ in_turn (with_parameter l.names) l.parameters no_variables
