use Rattle.std.proofs.Common.{◌≡◌, ◌++◌, drop}
use Rattle.ceal_engine.proofs.MarkedEnds.{modifiables}
use Rattle.ceal_engine.proofs.engine.Engine.changed.Given as goal

abbrev pub invariant-loop-place : goal.invariant-loop-place
invariant-loop-place l = l.places.items ++ modifiables l.self (drop l.place-index l.place-items) ≡ modifiables l.self l.place-items
