use Rattle.std.proofs.Common.{◌+◌}
use Rattle.ceal_fold.proofs.ReplaceSteps.{until-from}
use Rattle.ceal_fold.proofs.replace.pass_on.Goals as goal

pub hand_on-requires-clause-state : goal.hand_on-requires-clause-state
hand_on-requires-clause-state c = until-from (c.args.index + 1) c.pass.new.self c.in_ok-pass.ensures.times
