use Rattle.std.proofs.Common.{◌≤◌, length, arith}
use Rattle.ceal_types.proofs.Walks.AllArguments.{arguments-over}
use Rattle.ceal_types.proofs.values.check_arguments.Goals as goal

pub returns : goal.returns
returns c =
    let over : length c.args.es.now ≤ c.loop-e.e-index = omega arith in
    arguments-over c.loop-e.rest.now c.args.es.now _ _ over c.loop-e.invariant
