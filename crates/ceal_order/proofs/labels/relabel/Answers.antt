use Rattle.std.proofs.Common.{arith}
use Rattle.ceal_order.specs.Links.{stamps_of}
use Rattle.ceal_order.proofs.Places.{place_below}
use Rattle.ceal_order.proofs.Neighbours.{link_in}
use Rattle.ceal_order.proofs.Spreading.{new_rising, new_room, new_between}
use Rattle.ceal_order.proofs.labels.relabel.Goals as goal

pub spread-requires-clause-there : goal.spread-requires-clause-there
spread-requires-clause-there c =
    let run = c.sparse_run-run.ensures.run.is_run in
    let end = place_below c.sparse_run-run.result.last (stamps_of c.args.links.now) run.last_in in
    omega (arith, run.counted, end)

pub label_at-requires : goal.label_at-requires
label_at-requires c =
    rw c.spread.ensures.same.long (link_in c.args.links.now (stamps_of c.args.links.now) c.requires.line c.args.at c.requires.here)

pub overflow_add-result : goal.overflow_add-result
overflow_add-result c =
    let run = c.sparse_run-run.ensures.run in
    let room = new_room _ _ _ _ _ _ _ _ _ c.requires.line c.spread.ensures run.is_run run.before run.after c.gap_in-gap.ensures.wide c.gap_in-gap.ensures.fits run.within in
    omega (arith, room, c.label_at.ensures)

pub returns-clause-rising : goal.returns-clause-rising
returns-clause-rising c =
    let run = c.sparse_run-run.ensures.run in
    new_rising _ _ _ _ _ _ _ _ _ c.requires.line c.spread.ensures run.is_run run.before run.after c.gap_in-gap.ensures.wide c.gap_in-gap.ensures.fits run.within

pub returns-clause-between : goal.returns-clause-between
returns-clause-between c =
    let run = c.sparse_run-run.ensures.run in
    let wide = c.gap_in-gap.ensures.wide in
    rw c.label_at.ensures
    (new_between _ _ _ _ _ _ _ _ _ c.requires.line c.spread.ensures run.is_run run.before run.after wide c.gap_in-gap.ensures.fits run.within
    c.share_of.result c.share_of.ensures.some c.share_of.ensures.less)
