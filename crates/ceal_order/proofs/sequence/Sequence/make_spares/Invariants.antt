use Rattle.std.proofs.Common.{◌≡◌}
use Rattle.ceal_order.proofs.sequence.Sequence.make_spares.Given as goal

abbrev pub invariant-loop-made : goal.invariant-loop-made
invariant-loop-made g l = l.self ≡ l.fn.self
