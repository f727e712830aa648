use Rattle.std.proofs.Common.{◌≤◌, ◌+◌, arith}
use Rattle.std.proofs.lemmas.Result.{err_from_is_err_and}
use Rattle.ceal_types.proofs.Walks.ElementsOfRow.{elements-none, elements-passed, elements-failed}
use Rattle.ceal_types.proofs.heads.add_row.Goals as goal

pub loop-index-init : goal.loop-index-init
loop-index-init c = elements-none c.args.name.now c.args.kind c.args.row c.args.fields.now

-- one element could not be added, and those before it could
pub returns-in_err-add_element : goal.returns-in_err-add_element
returns-in_err-add_element c =
    let within : c.loop-index.index + 1 ≤ c.args.row = omega (arith, c.loop-index-test.true) in
    let p = err_from_is_err_and c.from_residual.result c.from_residual.ensures.1 in
    rw (p.1, p.2) (elements-failed c.args.name.now c.args.kind c.args.row c.args.fields.now c.loop-index.index c.args.row _ _ within c.loop-index.invariant c.in_err-add_element.ensures)

pub loop-index-preserved : goal.loop-index-preserved
loop-index-preserved c =
    elements-passed c.args.name.now c.args.kind c.args.row c.args.fields.now c.loop-index.index _ _ c.loop-index.invariant c.in_ok-add_element.ensures
