use Rattle.std.proofs.Common.{◌≡◌, map, take}
use Rattle.ceal_session.specs.Senses.{value_sense}
use Rattle.ceal_session.proofs.senses.value_senses.Given as goal

abbrev pub invariant-loop-value : goal.invariant-loop-value
invariant-loop-value l = l.senses.items ≡ map (value_sense l.state.state) (take l.value-index l.values)
