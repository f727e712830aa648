use Rattle.ceal_repair.proofs.Runs.InputPlaces.{Touching}
use Rattle.ceal_repair.proofs.edits.touch_input.Given as goal

abbrev pub invariant-loop-field : goal.invariant-loop-field
invariant-loop-field l = Touching l.structs l.input l.shape l.fn.tables l.tables l.field
