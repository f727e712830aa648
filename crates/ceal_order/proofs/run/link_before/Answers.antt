use Rattle.ceal_order.specs.Links.{stamps_of}
use Rattle.ceal_order.proofs.Neighbours.{before_is, link_in, low_before}
use Rattle.ceal_order.proofs.run.link_before.Goals as goal

pub prev_at-before-requires : goal.prev_at-before-requires
prev_at-before-requires c = link_in c.args.links.now (stamps_of c.args.links.now) c.requires.line c.args.at c.requires.here

pub label_at-requires : goal.label_at-requires
label_at-requires c =
    let before = before_is c.args.links.now (stamps_of c.args.links.now) c.requires.line c.args.at c.requires.here c.if-at-eq-FIRST.false in
    rw c.prev_at-before.ensures (link_in c.args.links.now (stamps_of c.args.links.now) c.requires.line _ before.0)

pub returns-then-label_at-low-clause-none : goal.returns-then-label_at-low-clause-none
returns-then-label_at-low-clause-none c =
    let before = rw (← c.prev_at-before.ensures) at (before_is c.args.links.now (stamps_of c.args.links.now) c.requires.line c.args.at c.requires.here c.if-at-eq-FIRST.false) in
    low_before c.args.links.now (stamps_of c.args.links.now) c.requires.line c.args.at c.prev_at-before.result c.args.low before.0 before.1 (rw (← c.label_at.ensures) c.if-label_at-low.true)

pub returns-clause-some_in : goal.returns-clause-some_in
returns-clause-some_in c = rw c.prev_at-before.ensures (before_is c.args.links.now (stamps_of c.args.links.now) c.requires.line c.args.at c.requires.here c.if-at-eq-FIRST.false).0

pub returns-clause-some : goal.returns-clause-some
returns-clause-some c = rw c.prev_at-before.ensures (before_is c.args.links.now (stamps_of c.args.links.now) c.requires.line c.args.at c.requires.here c.if-at-eq-FIRST.false).1
