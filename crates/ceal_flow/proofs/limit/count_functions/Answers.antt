use Rattle.std.proofs.Common.{◌≡◌, ◌+◌, ◌-◌, ◌<◌, length, take, sym, arith}
use Rattle.std.proofs.lemmas.Result.{err_from_is_err_and}
use Rattle.ceal_flow.specs.Lowering.{function_size, function_sizes}
use Rattle.ceal_flow.specs.declared.limit.TheConstants.{BLOCK_LIMIT}
use Rattle.ceal_flow.proofs.FunctionSteps.{function_sizes-nil, function_sizes-take, function_places-at}
use Rattle.ceal_flow.proofs.limit.count_functions.Goals as goal

pub loop-function-init : goal.loop-function-init
loop-function-init c = record { counted = sym function_sizes-nil; within = omega arith }

pub returns-in_err-total-clause-past : goal.returns-in_err-total-clause-past
returns-in_err-total-clause-past c =
    let p = err_from_is_err_and c.from_residual.result c.from_residual.ensures.1 in
    let within : c.loop-function.function-index < length c.args.functions.now = omega arith in
    let e : BLOCK_LIMIT ≡ function_sizes (take c.loop-function.function-index c.args.functions.now) + (BLOCK_LIMIT - c.loop-function.total) =
    omega (arith, c.loop-function.invariant.counted, c.loop-function.invariant.within) in
    rw (p.1, p.2)
    (function_places-at c.args.functions.now c.loop-function.function-index c.function-item.result c.function-item.is within _ (BLOCK_LIMIT - c.loop-function.total) _
    c.in_err-total.ensures.past e)

pub loop-function-preserved : goal.loop-function-preserved
loop-function-preserved c =
    let within : c.loop-function.function-index < length c.args.functions.now = omega arith in
    let more : function_sizes (take (c.loop-function.function-index + 1) c.args.functions.now)
    ≡ function_sizes (take c.loop-function.function-index c.args.functions.now) + function_size c.function-item.result =
    function_sizes-take c.args.functions.now _ c.function-item.result c.function-item.is within in
    record {
      counted = omega (arith, more, c.loop-function.invariant.counted, c.in_ok-total.ensures.more);
      within = c.in_ok-total.ensures.within;
    }
