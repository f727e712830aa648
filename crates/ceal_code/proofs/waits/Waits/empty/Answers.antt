use Rattle.ceal_code.proofs.Equations.FloorSteps.{waiting-none}
use Rattle.ceal_code.specs.Stacks.{waits_in}
use Rattle.ceal_code.proofs.waits.Waits.empty.Goals as goal

pub returns : goal.returns
unfolding waits_in
returns c = record { empty = waiting-none _ _ c.new.ensures.items }
