use Rattle.std.proofs.Common.{◌≡◌, take}
use Rattle.ceal_session.specs.Marks.{places_of}
use Rattle.ceal_session.proofs.state.marks.handles.Given as goal

abbrev pub invariant-loop-place : goal.invariant-loop-place
invariant-loop-place l = places_of l.found.items ≡ take l.place-index l.places
