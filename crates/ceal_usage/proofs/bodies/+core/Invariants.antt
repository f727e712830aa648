use Rattle.std.proofs.Common.{◌≡◌, drop}
use Rattle.ceal_base.specs.Faults.{faults_of_each}
use Rattle.ceal_usage.specs.Faults.{core_faults}
use Rattle.ceal_usage.specs.Verdict.{verdict}
use Rattle.ceal_usage.proofs.bodies.+core.Given as goal

abbrev pub invariant-check_core_body-loop-s : goal.invariant-check_core_body-loop-s
invariant-check_core_body-loop-s l =
    verdict (faults_of_each (core_faults l.functions l.looped) (drop l.s-index l.stmts)) ≡ verdict (faults_of_each (core_faults l.functions l.looped) l.stmts)
