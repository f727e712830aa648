use Rattle.ceal_live.proofs.BeginFacts.{begun-underway}
use Rattle.ceal_live.proofs.RoundFacts.{live-sets}
use Rattle.ceal_live.proofs.live.live.Goals as goal

pub loop-sets-init : goal.loop-sets-init
loop-sets-init c = begun-underway c.blocks-blocks.result.now c.in_ok-sets.sets.items c.in_ok-sets.ensures.begun

-- a round that changed no set is the last one: the sets are closed, and no smaller ones are
pub returns : goal.returns
returns c = record {
  exact = rw (c.new.ensures.value, ← c.blocks-blocks.ensures.value)
      (live-sets c.blocks-blocks.result.now c.go_round.new.sets.items c.in_ok-go_round.ensures.underway (c.in_ok-go_round.ensures.closed c.if-branch.false));
}
