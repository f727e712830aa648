use Rattle.ceal_live.proofs.RoundFacts.{turn-same, turn-closed, turn-more}
use Rattle.ceal_live.proofs.round.go_round.Goals as goal

-- the set of this block is updated, and the round has changed something if this or an earlier one did
pub loop-at-preserved : goal.loop-at-preserved
loop-at-preserved c =
    let first = c.args.sets.now.items in
    let cur = c.loop-at.sets.items in
    let new = c.update.new.sets.items in
    let inv = c.loop-at.invariant in
    let one = c.in_ok-more.ensures in
    record {
      underway = one.underway;
      same = turn-same c.loop-at.changed c.in_ok-more.more first cur new inv.same one.same;
      closed = turn-closed c.args.blocks.now c.loop-at.changed c.in_ok-more.more cur new c.loop-at.at inv.closed one.same one.closed;
      more = turn-more c.loop-at.changed c.in_ok-more.more first cur new inv.same inv.more one.same one.more;
    }
