use Rattle.std.proofs.Common.{◌<◌, ◌≤◌, length, arith}
use Rattle.std.proofs.lemmas.Result.{err_from_is_err_and}
use Rattle.ceal_types.specs.Heads.{with_parameter}
use Rattle.ceal_types.proofs.Walks.WalkFromItem.{turn-passed, turn-failed, turn-over}
use Rattle.ceal_types.proofs.heads.parameters_of.Goals as goal

-- this parameter has the first fault of the list
pub returns-in_err-add_parameter : goal.returns-in_err-add_parameter
returns-in_err-add_parameter c =
    let within : c.loop-parameter.parameter-index < length c.args.parameters.now = omega arith in
    let p = err_from_is_err_and c.from_residual.result c.from_residual.ensures.1 in
    rw (p.1, p.2) (turn-failed (with_parameter c.args.names.now) c.args.parameters.now _ c.parameter-item.result _ _
    _ c.parameter-item.is within c.loop-parameter.invariant c.in_err-add_parameter.ensures)

pub loop-parameter-preserved : goal.loop-parameter-preserved
loop-parameter-preserved c =
    let within : c.loop-parameter.parameter-index < length c.args.parameters.now = omega arith in
    turn-passed (with_parameter c.args.names.now) c.args.parameters.now _ c.parameter-item.result _ _ _ c.parameter-item.is within c.loop-parameter.invariant c.in_ok-add_parameter.ensures

pub returns : goal.returns
returns c =
    let over : length c.args.parameters.now ≤ c.loop-parameter.parameter-index = omega arith in
    turn-over (with_parameter c.args.names.now) c.args.parameters.now _ _ _ over c.loop-parameter.invariant
