use Rattle.ceal_repair.proofs.Runs.BlockBases.{SetInputs}
use Rattle.ceal_repair.proofs.bases.set_inputs.Given as goal

abbrev pub invariant-loop-n : goal.invariant-loop-n
invariant-loop-n l = SetInputs l.structs l.inputs l.fn.tables l.tables l.n
