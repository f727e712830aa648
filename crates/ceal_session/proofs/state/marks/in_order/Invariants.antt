use Rattle.std.proofs.Common.{◌≡◌, take}
use Rattle.std.specs.List.{filter}
use Rattle.ceal_session.specs.Marks.{is_of_input}
use Rattle.ceal_session.proofs.state.marks.in_order.Given as goal

abbrev pub invariant-loop-place : goal.invariant-loop-place
invariant-loop-place l = l.found.items ≡ filter is_of_input (take l.place-index l.places)
