use Rattle.std.proofs.Common.{◌≤◌, length, refl}
use Rattle.std.proofs.lemmas.Option.{slice_get_past}
use Rattle.ceal_flow.specs.Lowering.{function_places}
use Rattle.ceal_flow.specs.declared.limit.TheConstants.{BLOCK_LIMIT}
use Rattle.ceal_flow.proofs.FunctionSteps.{function_places-length}
use Rattle.ceal_flow.proofs.lower.check_limit.Goals as goal

pub returns-in-Ok-clause-within : goal.returns-in-Ok-clause-within
returns-in-Ok-clause-within c = λ ok.
    let fs = c.args.program.now.functions in
    let sizes_are = rw c.items.ensures.value at c.in-Ok.ensures.all in
    let few : length (function_places fs) ≤ BLOCK_LIMIT = rw function_places-length (rw sizes_are at c.in-Ok.ensures.within) in
    rw (slice_get_past (function_places fs) BLOCK_LIMIT few) refl

pub returns-in-Ok-clause-few : goal.returns-in-Ok-clause-few
returns-in-Ok-clause-few c = λ ok.
    let sizes_are = rw c.items.ensures.value at c.in-Ok.ensures.all in rw sizes_are at c.in-Ok.ensures.within
