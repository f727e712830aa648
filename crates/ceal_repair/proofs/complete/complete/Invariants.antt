use Rattle.ceal_repair.proofs.Runs.RepeatedTurns.{Acting}
use Rattle.ceal_repair.proofs.complete.complete.Given as goal

abbrev pub invariant-loop-act : goal.invariant-loop-act
invariant-loop-act l = Acting l.fn.repair l.repair
