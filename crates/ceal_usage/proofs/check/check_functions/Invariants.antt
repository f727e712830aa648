use Rattle.std.proofs.Common.{◌≡◌, drop}
use Rattle.ceal_base.specs.Faults.{faults_of_each}
use Rattle.ceal_usage.specs.Faults.{function_faults}
use Rattle.ceal_usage.specs.Verdict.{verdict}
use Rattle.ceal_usage.proofs.check.check_functions.Given as goal

abbrev pub invariant-loop-function : goal.invariant-loop-function
invariant-loop-function l =
    verdict (faults_of_each (function_faults l.functions) (drop l.function-index l.functions)) ≡ verdict (faults_of_each (function_faults l.functions) l.functions)
