use Rattle.ceal_repair.proofs.Propagation.TurnAgreement.{TurningIn}
use Rattle.ceal_repair.proofs.repair.Repair.turns.Given as goal

abbrev pub invariant-loop-turn : goal.invariant-loop-turn
invariant-loop-turn l = TurningIn l.fn.self l.self l.turn l.fn.reads l.fn.fuel
