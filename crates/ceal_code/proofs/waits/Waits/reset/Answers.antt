use Rattle.ceal_code.proofs.Equations.FloorSteps.{waiting-none}
use Rattle.ceal_code.specs.Stacks.{waits_in}
use Rattle.ceal_code.proofs.waits.Waits.reset.Goals as goal

pub returns : goal.returns
unfolding waits_in
returns c = record { none = waiting-none _ _ c.clear.ensures.items }
