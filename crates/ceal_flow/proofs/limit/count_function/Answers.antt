use Rattle.std.proofs.Common.{◌≡◌, ◌+◌, ◌-◌, ◌∷◌, [], Some, length, ap, sym, arith}
use Rattle.std.proofs.lemmas.Result.{err_from_is_err_and}
use Rattle.ceal_flow.specs.Blocks.{sizes}
use Rattle.ceal_flow.specs.Lowering.{all_places}
use Rattle.ceal_flow.specs.declared.limit.TheConstants.{BLOCK_LIMIT}
use Rattle.ceal_flow.proofs.ListFacts.{get-right}
use Rattle.ceal_flow.proofs.PlaceSteps.{all-places-length}
use Rattle.ceal_flow.proofs.limit.count_function.Goals as goal

pub returns-in_err-count-in-None-2-clause-past : goal.returns-in_err-count-in-None-2-clause-past
returns-in_err-count-in-None-2-clause-past c =
    let body = c.args.function.now.body in
    let p = err_from_is_err_and c.from_residual-in_err-count-in-None-2.result c.from_residual-in_err-count-in-None-2.ensures.1 in
    let l : length (all_places c.args.function.now.body) ≡ sizes c.args.function.now.body = all-places-length body in
    let more = rw c.items.ensures.value at c.in_ok-count-in-None.ensures.more in
    let e : BLOCK_LIMIT - c.args.count ≡ length (all_places c.args.function.now.body) + 0 = omega (arith, l, more, c.in_err-count-in-None-2.ensures.full) in
    rw (p.1, p.2, c.in-None.is) (get-right (all_places body) (c.args.function.now.close ∷ []) _ 0 _ (ap Some (sym c.in_err-count-in-None-2.ensures.past)) e)
