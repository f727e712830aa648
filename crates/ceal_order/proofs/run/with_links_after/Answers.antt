use Rattle.std.proofs.Common.{arith}
use Rattle.ceal_order.specs.Links.{stamps_of}
use Rattle.ceal_order.proofs.Places.{place_below}
use Rattle.ceal_order.proofs.run.with_links_after.Goals as goal

pub overflow_add-count : goal.overflow_add-count
overflow_add-count c =
    let run = c.loop-after.invariant in
    let end = place_below c.in-Some.after (stamps_of c.args.links.now) c.in-Some.ensures.some_in in
    omega (arith, end, run.counted, c.in-Some.ensures.some, c.requires.line.all, c.requires.line.few)

pub loop-after-smaller : goal.loop-after-smaller
loop-after-smaller c =
    let end = place_below c.in-Some.after (stamps_of c.args.links.now) c.in-Some.ensures.some_in in
    omega (arith, end, c.in-Some.ensures.some)
