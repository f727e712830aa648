use Rattle.std.proofs.Common.{◌<◌, ◌≤◌, length, arith}
use Rattle.std.proofs.lemmas.Result.{err_from_is_err_and}
use Rattle.ceal_usage.specs.Faults.{function_faults}
use Rattle.ceal_usage.proofs.VerdictSteps.{each-passed, each-failed, each-over}
use Rattle.ceal_usage.proofs.check.check_functions.Goals as goal

-- the functions before this one have no fault, so its fault is the first one
pub returns-in_err-check_function : goal.returns-in_err-check_function
returns-in_err-check_function c =
    let fs = c.args.functions.now in
    let within : c.loop-function.function-index < length c.args.functions.now = omega arith in
    let p = err_from_is_err_and c.from_residual.result c.from_residual.ensures.1 in
    rw (p.1, p.2) (each-failed (function_faults fs) fs _ c.function-item.result _ _ c.function-item.is within c.loop-function.invariant c.in_err-check_function.ensures)

-- neither the functions before this one nor this one have a fault
pub loop-function-preserved : goal.loop-function-preserved
loop-function-preserved c =
    let fs = c.args.functions.now in
    let within : c.loop-function.function-index < length c.args.functions.now = omega arith in
    each-passed (function_faults fs) fs _ c.function-item.result _ _ c.function-item.is within c.loop-function.invariant c.in_ok-check_function.ensures

pub returns : goal.returns
returns c =
    let fs = c.args.functions.now in
    let over : length c.args.functions.now ≤ c.loop-function.function-index = omega arith in
    each-over (function_faults fs) fs _ _ over c.loop-function.invariant
