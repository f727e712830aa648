use Rattle.std.proofs.Common.{◌<◌, ◌≤◌, length, arith}
use Rattle.std.proofs.lemmas.Result.{err_from_is_err_and}
use Rattle.ceal_types.specs.Heads.{with_field}
use Rattle.ceal_types.proofs.Walks.WalkFromItem.{turn-passed, turn-failed, turn-over}
use Rattle.ceal_types.proofs.heads.fields_of.Goals as goal

-- this member has the first fault of the struct
pub returns-in_err-add_field : goal.returns-in_err-add_field
returns-in_err-add_field c =
    let within : c.loop-field.field-index < length c.args.fields.now = omega arith in
    let p = err_from_is_err_and c.from_residual.result c.from_residual.ensures.1 in
    rw (p.1, p.2) (turn-failed (with_field c.args.names.now) c.args.fields.now _ c.field-item.result _ _ _ c.field-item.is within c.loop-field.invariant c.in_err-add_field.ensures)

pub loop-field-preserved : goal.loop-field-preserved
loop-field-preserved c =
    let within : c.loop-field.field-index < length c.args.fields.now = omega arith in
    turn-passed (with_field c.args.names.now) c.args.fields.now _ c.field-item.result _ _ _ c.field-item.is within c.loop-field.invariant c.in_ok-add_field.ensures

pub returns : goal.returns
returns c =
    let over : length c.args.fields.now ≤ c.loop-field.field-index = omega arith in
    turn-over (with_field c.args.names.now) c.args.fields.now _ _ _ over c.loop-field.invariant
