use Rattle.std.proofs.Common.{◌<◌, ◌≤◌, length, arith}
use Rattle.std.proofs.lemmas.Result.{err_from_is_err_and}
use Rattle.ceal_usage.specs.Faults.{core_faults}
use Rattle.ceal_usage.proofs.VerdictSteps.{each-passed, each-failed, each-over}
use Rattle.ceal_usage.proofs.bodies.+core.Goals as goal

-- the statements before this one have no fault, so its fault is the first one
pub check_core_body-returns-in_err-check_core_stmt : goal.check_core_body-returns-in_err-check_core_stmt
check_core_body-returns-in_err-check_core_stmt t c =
    let stmts = c.args.stmts.now in
    let within : c.loop-s.s-index < length c.args.stmts.now = omega arith in
    let p = err_from_is_err_and c.from_residual.result c.from_residual.ensures.1 in
    record {
      first = rw (p.1, p.2) (each-failed
          (core_faults c.args.functions.now c.args.looped) stmts _ c.s-item.result _ _ c.s-item.is within c.loop-s.invariant c.in_err-check_core_stmt.ensures.first);
    }

-- neither the statements before this one nor this one have a fault
pub check_core_body-loop-s-preserved : goal.check_core_body-loop-s-preserved
check_core_body-loop-s-preserved t c =
    let stmts = c.args.stmts.now in
    let within : c.loop-s.s-index < length c.args.stmts.now = omega arith in
    each-passed (core_faults c.args.functions.now c.args.looped) stmts _ c.s-item.result _ _ c.s-item.is within c.loop-s.invariant c.in_ok-check_core_stmt.ensures.first

pub check_core_body-returns : goal.check_core_body-returns
check_core_body-returns t c =
    let over : length c.args.stmts.now ≤ c.loop-s.s-index = omega arith in
    record { first = each-over (core_faults c.args.functions.now c.args.looped) c.args.stmts.now _ _ over c.loop-s.invariant }
