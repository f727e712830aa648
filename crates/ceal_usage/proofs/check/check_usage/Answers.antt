use Rattle.ceal_usage.proofs.NoFaults.{kept-iff}
use Rattle.ceal_usage.proofs.check.check_usage.Goals as goal

pub returns-clause-kept : goal.returns-clause-kept
returns-clause-kept c = rw c.check_functions.ensures (rw c.items.ensures.value (kept-iff c.args.program.now))
