use Rattle.ceal_trace.proofs.Nesting.{forest_is}
use Rattle.ceal_trace.proofs.laws.nodes_are_a_forest.Goals as goal

pub returns : goal.returns
returns c = record { law = forest_is }
