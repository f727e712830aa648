use Rattle.ceal_show.proofs.Finding.{start_search, more_search, there_search, end_reached, end_closed}
use Rattle.ceal_show.proofs.reach.reach.Goals as goal

pub loop-at-init : goal.loop-at-init
loop-at-init g c =
    rw (c.in_ok-met.ensures.value, c.new.ensures.value)
    (start_search (g.V.View.declared c.args.view.now) (g.V.View.memory c.args.view.now) c.requires.whole c.args.root c.requires.there)

-- only blocks of the memory are met
pub with_targets-requires-clause-there : goal.with_targets-requires-clause-there
with_targets-requires-clause-there g c =
    there_search (g.V.View.declared c.args.view.now)
    (g.V.View.memory c.args.view.now) c.requires.whole c.args.root c.loop-at.at c.loop-at.met c.block-block.result c.loop-at.invariant c.block-block.ensures.value

-- with the targets of this block the search has gone one block further
pub loop-at-preserved : goal.loop-at-preserved
loop-at-preserved g c =
    rw c.in_ok-met-2.ensures
    (more_search (g.V.View.declared c.args.view.now)
    (g.V.View.memory c.args.view.now) c.requires.whole c.args.root c.loop-at.at c.loop-at.met c.block-block.result c.loop-at.invariant c.block-block.ensures.value)

pub returns-clause-reached : goal.returns-clause-reached
returns-clause-reached g c =
    let over = rw c.len.ensures.value at c.loop-at-test.false in
    end_reached (g.V.View.memory c.args.view.now) c.args.root c.loop-at.at c.loop-at.met c.loop-at.invariant over

pub returns-clause-closed : goal.returns-clause-closed
returns-clause-closed g c =
    let over = rw c.len.ensures.value at c.loop-at-test.false in
    end_closed (g.V.View.memory c.args.view.now) c.args.root c.loop-at.at c.loop-at.met c.loop-at.invariant over
