use Rattle.std.proofs.Common.{◌≡◌, ◌<◌, ◌≤◌, Ok, length, arith, refl}
use Rattle.std.proofs.lemmas.Result.{err_from_is_err_and}
use Rattle.ceal_types.specs.Expressions.{with_expr}
use Rattle.ceal_types.specs.Walk.{at_end}
use Rattle.ceal_types.proofs.Walks.WalkFromItem.{turn-passed, turn-failed, turn-over, fails-mapped}
use Rattle.ceal_types.proofs.values.type_exprs.Goals as goal

-- this expression has the first fault of the list
pub returns-in_err-e : goal.returns-in_err-e
returns-in_err-e c =
    let es = c.args.es.now in
    let step = with_expr c.args.site.now.program.now c.args.site.now.own c.args.site.now.variables.now in
    let within : c.loop-e.e-index < length c.args.es.now = omega arith in
    let p = err_from_is_err_and c.from_residual-in_err-e.result c.from_residual-in_err-e.ensures.1 in
    let failed = fails-mapped (at_end c.loop-e.typed) _ _ c.in_err-e.ensures.value in
    record { value = rw (p.1, p.2) (turn-failed step es _ c.e-item.result _ _ _ c.e-item.is within c.loop-e.invariant failed) }

-- one expression more has no fault, and its kind is put at the end
pub loop-e-preserved : goal.loop-e-preserved
loop-e-preserved c =
    let es = c.args.es.now in
    let step = with_expr c.args.site.now.program.now c.args.site.now.own c.args.site.now.variables.now in
    let within : c.loop-e.e-index < length c.args.es.now = omega arith in
    let one : step c.e-item.result c.loop-e.typed ≡ Ok c.push.new.self = rw (c.in_ok-e.ensures.value, c.in_ok-push.ensures.ok) refl in
    turn-passed step es _ c.e-item.result _ _ _ c.e-item.is within c.loop-e.invariant one

pub returns : goal.returns
returns c =
    let step = with_expr c.args.site.now.program.now c.args.site.now.own c.args.site.now.variables.now in
    let over : length c.args.es.now ≤ c.loop-e.e-index = omega arith in
    record { value = turn-over step c.args.es.now _ _ _ over c.loop-e.invariant }
