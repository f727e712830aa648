use Rattle.ceal_order.specs.Links.{stamps_of}
use Rattle.ceal_order.proofs.Neighbours.{link_in, label_in}
use Rattle.ceal_order.proofs.run.widened.Goals as goal

pub label_at-requires : goal.label_at-requires
label_at-requires c = link_in c.args.links.now (stamps_of c.args.links.now) c.requires.line c.args.at c.requires.run.here

pub range_start-low-requires-clause-label : goal.range_start-low-requires-clause-label
range_start-low-requires-clause-label c =
    rw c.label_at.ensures (label_in c.args.links.now (stamps_of c.args.links.now) c.requires.line c.args.at c.requires.run.here)
