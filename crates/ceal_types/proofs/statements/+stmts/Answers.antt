use Rattle.std.proofs.Common.{◌≡◌, ◌<◌, ◌≤◌, Ok, length, arith, refl}
use Rattle.std.proofs.lemmas.Result.{err_from_is_err_and}
use Rattle.ceal_types.specs.Statements.{with_stmt, with_step, block, block_end}
use Rattle.ceal_types.proofs.Walks.WalkFromItem.{turn-passed, turn-failed, turn-over, fails-mapped}
use Rattle.ceal_types.proofs.statements.+stmts.Goals as goal

-- this statement has the first fault of the block
pub type_block-returns-in_err-s : goal.type_block-returns-in_err-s
type_block-returns-in_err-s t c =
    let stmts = c.args.stmts.now in
    let step = with_stmt c.args.body.now.program.now c.args.body.now.own in
    let within : c.loop-s.s-index < length c.args.stmts.now = omega arith in
    let p = err_from_is_err_and c.from_residual-in_err-s.result c.from_residual-in_err-s.ensures.1 in
    let failed = fails-mapped (with_step (block c.loop-s.typed c.loop-s.variables)) _ _ c.in_err-s.ensures.value in
    let all = turn-failed step stmts _ c.s-item.result _ _ _ c.s-item.is within c.loop-s.invariant.same failed in
    record { value = rw (p.1, p.2) (fails-mapped (block_end (length c.args.variables.now.scope)) _ _ all) }

-- one statement more has no fault, and the scope has what it declares
pub type_block-loop-s-preserved : goal.type_block-loop-s-preserved
type_block-loop-s-preserved t c =
    let stmts = c.args.stmts.now in
    let step = with_stmt c.args.body.now.program.now c.args.body.now.own in
    let within : c.loop-s.s-index < length c.args.stmts.now = omega arith in
    let one : step c.s-item.result (block c.loop-s.typed c.loop-s.variables) ≡ Ok (block c.push.new.self c.type_stmt.new.variables) =
    rw (c.in_ok-s.ensures.value, c.in_ok-push.ensures.ok) refl in
    record {
      outer = c.loop-s.invariant.outer;
      same = turn-passed step stmts _ c.s-item.result _ _ _ c.s-item.is within c.loop-s.invariant.same one;
    }

-- no statement has a fault, and what the block declared goes out of scope
pub type_block-returns : goal.type_block-returns
type_block-returns t c =
    let step = with_stmt c.args.body.now.program.now c.args.body.now.own in
    let over : length c.args.stmts.now ≤ c.loop-s.s-index = omega arith in
    let all = turn-over step c.args.stmts.now _ _ _ over c.loop-s.invariant.same in
    record { value = rw (all, c.truncate.ensures.kept, c.loop-s.invariant.outer) refl }
