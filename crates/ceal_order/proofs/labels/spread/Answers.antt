use Rattle.std.proofs.Common.{◌≡◌, ◌≢◌, arith, ◌∙◌}
use Rattle.ceal_order.specs.Links.{stamps_of, next_of, no_link}
use Rattle.ceal_order.proofs.Neighbours.{link_in, after_is, after_none}
use Rattle.ceal_order.proofs.Spreading.{spread_one}
use Rattle.ceal_order.proofs.labels.spread.Goals as goal

pub set_label-requires : goal.set_label-requires
set_label-requires c =
    let here = c.loop-place.invariant.here c.loop-place-test.true in
    rw c.loop-place.invariant.done.same.long (link_in c.args.links.now (stamps_of c.args.links.now) c.requires.line c.loop-place.at here.0)

pub next_at-at-requires : goal.next_at-at-requires
next_at-at-requires c =
    let here = c.loop-place.invariant.here c.loop-place-test.true in
    rw (c.set_label.ensures.same.long, c.loop-place.invariant.done.same.long) (link_in c.args.links.now (stamps_of c.args.links.now) c.requires.line c.loop-place.at here.0)

pub loop-place-preserved : goal.loop-place-preserved
loop-place-preserved c =
    let old = c.args.links.now in
    let S = stamps_of old in
    let here = c.loop-place.invariant.here c.loop-place-test.true in
    let done = spread_one old c.loop-place.links c.set_label.new.links c.args.first c.loop-place.place c.args.low c.args.gap c.loop-place.at
    c.loop-place.invariant.done (rw c.from.ensures at c.set_label.ensures) here.0 here.1 in
    let next : c.next_at-at.result ≡ next_of old c.loop-place.at = c.next_at-at.ensures ∙ done.same.next c.loop-place.at in
    record {
      done = done;
      here = λ more.
          let inside : next_of old c.loop-place.at ≢ no_link = λ e.
          let end = after_none old S c.requires.line c.loop-place.at here.0 e in
          absurd (omega (arith, end, here.1, more, c.requires.there)) in
          let after = after_is old S c.requires.line c.loop-place.at here.0 inside in
          (rw next after.0, rw next (omega (arith, after.1, here.1)));
    }
