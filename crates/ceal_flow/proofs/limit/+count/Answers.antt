use Rattle.std.proofs.Common.{◌≡◌, ◌+◌, ◌-◌, ◌<◌, length, take, refl, arith, rules}
use Rattle.std.proofs.lemmas.Result.{err_from_is_err_and, IfErr-weaker}
use Rattle.ceal_base.specs.declared.typed.TypedStmt.{the_lemmas}
use Rattle.ceal_flow.specs.Blocks.{size, sizes}
use Rattle.ceal_flow.specs.Lowering.{all_places}
use Rattle.ceal_flow.specs.declared.limit.TheConstants.{BLOCK_LIMIT}
use Rattle.ceal_flow.proofs.BlockSteps.{sizes-take}
use Rattle.ceal_flow.proofs.ListFacts.{get-left, get-right, get-later}
use Rattle.ceal_flow.proofs.PlaceSteps.{places-if, places-while, all-places-length, all-places-at, place-first}
use Rattle.ceal_flow.proofs.limit.+count.Goals as goal

pub count_stmt-returns-in_err-count-in-If-clause-past : goal.count_stmt-returns-in_err-count-in-If-clause-past
count_stmt-returns-in_err-count-in-If-clause-past t c =
    let p = err_from_is_err_and c.from_residual.result c.from_residual.ensures.1 in
    rw (p.1, p.2, c.in-If.is, places-if) (place-first _ _ _ _ c.in_err-count-in-If.ensures.past c.in_err-count-in-If.ensures.full)

pub count_stmt-returns-in_err-count-in-If-2-clause-past : goal.count_stmt-returns-in_err-count-in-If-2-clause-past
count_stmt-returns-in_err-count-in-If-2-clause-past t c =
    let p = err_from_is_err_and c.from_residual-in_err-count-in-If-2.result c.from_residual-in_err-count-in-If-2.ensures.1 in
    let here = rw c.items.ensures.value at c.in_err-count-in-If-2.ensures.past in
    let e : BLOCK_LIMIT - c.args.count ≡ (BLOCK_LIMIT - c.in_ok-count-in-If.count) + 1 =
    omega (arith, c.in_ok-count-in-If.ensures.more, c.in_ok-count-in-If.ensures.within) in
    rw (p.1, p.2, c.in-If.is, places-if) (get-later _ _ _ _ _ (get-left (all_places c.in-If.first) (all_places c.in-If.second) (BLOCK_LIMIT - c.in_ok-count-in-If.count) _ here) e)

pub count_stmt-returns-in_err-count-in-While-clause-past : goal.count_stmt-returns-in_err-count-in-While-clause-past
count_stmt-returns-in_err-count-in-While-clause-past t c =
    let p = err_from_is_err_and c.from_residual-in_err-count-in-While.result c.from_residual-in_err-count-in-While.ensures.1 in
    rw (p.1, p.2, c.in-While.is, places-while) (place-first _ _ _ _ c.in_err-count-in-While.ensures.past c.in_err-count-in-While.ensures.full)

pub count_stmt-returns-in_ok-count-in-If-2-clause-past : goal.count_stmt-returns-in_ok-count-in-If-2-clause-past
count_stmt-returns-in_ok-count-in-If-2-clause-past t c =
    IfErr-weaker c.count_stmts-in-If.result _ _ (λ at here.
    let second = rw c.items-in-If.ensures.value at here in
    let l : length (all_places c.in-If.first) ≡ sizes c.in-If.first = all-places-length c.in-If.first in
    let more = rw c.items.ensures.value at c.in_ok-count-in-If-2.ensures.more in
    let e : BLOCK_LIMIT - c.args.count ≡ (length (all_places c.in-If.first) + (BLOCK_LIMIT - c.in_ok-count-in-If-2.count)) + 1 =
    omega (arith, l, more, c.in_ok-count-in-If.ensures.more, c.in_ok-count-in-If-2.ensures.within) in
    rw (c.in-If.is, places-if) (get-later _ _ _ _ _ (get-right (all_places c.in-If.first) (all_places c.in-If.second) _ (BLOCK_LIMIT - c.in_ok-count-in-If-2.count) _ second refl) e))
    c.count_stmts-in-If.ensures.past

pub count_stmt-returns-in_ok-count-in-While-clause-past : goal.count_stmt-returns-in_ok-count-in-While-clause-past
count_stmt-returns-in_ok-count-in-While-clause-past t c =
    IfErr-weaker c.count_stmts-in-While.result _ _ (λ at here.
    let body = rw c.items-in-While.ensures.value at here in
    let e : BLOCK_LIMIT - c.args.count ≡ (BLOCK_LIMIT - c.in_ok-count-in-While.count) + 1 =
    omega (arith, c.in_ok-count-in-While.ensures.more, c.in_ok-count-in-While.ensures.within) in
    rw (c.in-While.is, places-while) (get-later _ (all_places c.in-While.body) _ (BLOCK_LIMIT - c.in_ok-count-in-While.count) _ body e))
    c.count_stmts-in-While.ensures.past

pub count_stmts-count_stmt-requires : goal.count_stmts-count_stmt-requires
count_stmts-count_stmt-requires t c = (search (rules, the_lemmas), c.loop-s.invariant.within)

pub count_stmts-returns-in_err-total-clause-past : goal.count_stmts-returns-in_err-total-clause-past
count_stmts-returns-in_err-total-clause-past t c =
    let p = err_from_is_err_and c.from_residual.result c.from_residual.ensures.1 in
    let within : c.loop-s.s-index < length c.args.stmts.now = omega arith in
    let e : BLOCK_LIMIT - c.args.count ≡ sizes (take c.loop-s.s-index c.args.stmts.now) + (BLOCK_LIMIT - c.loop-s.total) =
    omega (arith, c.loop-s.invariant.counted, c.loop-s.invariant.within) in
    rw (p.1, p.2)
    (all-places-at c.args.stmts.now c.loop-s.s-index c.s-item.result c.s-item.is within _ (BLOCK_LIMIT - c.loop-s.total) _ c.in_err-total.ensures.past e)

pub count_stmts-loop-s-preserved : goal.count_stmts-loop-s-preserved
count_stmts-loop-s-preserved t c =
    let stmts = c.args.stmts.now in
    let within : c.loop-s.s-index < length c.args.stmts.now = omega arith in
    let more : sizes (take (c.loop-s.s-index + 1) c.args.stmts.now) ≡ sizes (take c.loop-s.s-index c.args.stmts.now) + size c.s-item.result =
    sizes-take stmts _ c.s-item.result c.s-item.is within in
    record {
      counted = omega (arith, more, c.loop-s.invariant.counted, c.in_ok-total.ensures.more);
      within = c.in_ok-total.ensures.within;
    }
