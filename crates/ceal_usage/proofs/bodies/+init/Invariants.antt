use Rattle.std.proofs.Common.{◌≡◌, drop}
use Rattle.ceal_base.specs.Faults.{faults_of_each}
use Rattle.ceal_usage.specs.Faults.{init_faults}
use Rattle.ceal_usage.specs.Verdict.{verdict}
use Rattle.ceal_usage.proofs.bodies.+init.Given as goal

abbrev pub invariant-check_init_body-loop-s : goal.invariant-check_init_body-loop-s
invariant-check_init_body-loop-s l = verdict (faults_of_each init_faults (drop l.s-index l.stmts)) ≡ verdict (faults_of_each init_faults l.stmts)
