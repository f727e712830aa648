use Rattle.ceal_cli.proofs.Sessions.CarriedLines.{one-carried, all-carried}
use Rattle.ceal_cli.proofs.carry.carry_out_all.Goals as goal

pub loop-line-preserved : goal.loop-line-preserved
loop-line-preserved c =
    let left = rw c.in-Some.ensures at c.loop-line.invariant in
    one-carried _ _ _ _ _ _ _ left c.in_ok-carry_out.ensures.answered.1

pub returns-clause-all : goal.returns-clause-all
returns-clause-all c =
    let left = rw c.in_default.ensures.0 at c.loop-line.invariant in
    all-carried _ _ _ left
