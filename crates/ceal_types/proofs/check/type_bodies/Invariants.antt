use Rattle.std.proofs.Common.{◌≡◌, [], length, reverse}
use Rattle.ceal_types.specs.Checked.{with_body}
use Rattle.ceal_types.specs.Walk.{in_turn}
use Rattle.ceal_types.proofs.check.type_bodies.Given as goal

abbrev pub invariant-loop-entry : goal.invariant-loop-entry
invariant-loop-entry l = in_turn (with_body l.program) (reverse l.entries.items) l.functions ≡ in_turn (with_body l.program) l.fn.entries.items []

abbrev pub decreases-loop-entry : goal.decreases-loop-entry
decreases-loop-entry l = length l.entries.items
