use Rattle.ceal_traceck.proofs.WalkSteps.{waiting-none}
use Rattle.ceal_traceck.proofs.replay.are_replayed.Goals as goal

pub returns : goal.returns
returns c = record { answer = rw (c.in_ok-stack.ensures.started, c.new.ensures.items, waiting-none, c.code.ensures.value) at c.is_right.ensures }
