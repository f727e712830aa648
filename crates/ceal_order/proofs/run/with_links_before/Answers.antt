use Rattle.std.proofs.Common.{arith}
use Rattle.ceal_order.specs.Links.{stamps_of}
use Rattle.ceal_order.proofs.Places.{place_below}
use Rattle.ceal_order.proofs.run.with_links_before.Goals as goal

pub overflow_add-count : goal.overflow_add-count
overflow_add-count c =
    let run = c.loop-before.invariant in
    let end = place_below c.args.run.last (stamps_of c.args.links.now) run.last_in in
    omega (arith, end, run.counted, c.in-Some.ensures.some, c.requires.line.all, c.requires.line.few)
