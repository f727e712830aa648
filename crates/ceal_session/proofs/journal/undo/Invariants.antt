use Rattle.std.proofs.Common.{◌≡◌, length}
use Rattle.ceal_session.specs.UndoneEdits.{undone}
use Rattle.ceal_session.proofs.journal.undo.Given as goal

-- the edits to come are undone on what is there now
abbrev pub invariant-loop-edit : goal.invariant-loop-edit
invariant-loop-edit l = undone l.rest l.inputs ≡ undone l.fn.edits l.fn.inputs

abbrev pub decreases-loop-edit : goal.decreases-loop-edit
decreases-loop-edit l = length l.rest
