use Rattle.std.proofs.Common.{◌≡◌}
use Rattle.ceal_base.specs.Trace.{steps_in}
use Rattle.ceal_theory.specs.Repair.{own}
use Rattle.ceal_theory.specs.Moves.{BecomesBy}
use Rattle.ceal_adjust.specs.Machines.{code_of, machine_in}
use Rattle.ceal_adjust.proofs.complete.turn_to_end.Given as goal

abbrev pub invariant-loop-turn : goal.invariant-loop-turn
invariant-loop-turn l = record {
  code : code_of l.repair ≡ code_of l.fn.repair;
  leads : BecomesBy (code_of l.fn.repair) own (machine_in l.fn.repair) (machine_in l.repair) l.out.items;
  counted : l.steps ≡ steps_in l.out.items;
}
