use Rattle.ceal_repair.proofs.Runs.InputPlaces.{Placing}
use Rattle.ceal_repair.proofs.edits.set_input.Given as goal

abbrev pub invariant-loop-field : goal.invariant-loop-field
invariant-loop-field l = Placing l.structs l.input l.shape l.words l.fn.tables l.tables l.field
