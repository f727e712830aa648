use Rattle.std.proofs.Common.{◌≢◌, sym, arith, ◌∙◌}
use Rattle.ceal_order.specs.Links.{stamps_of, next_of, no_link}
use Rattle.ceal_order.proofs.Places.{place_below}
use Rattle.ceal_order.proofs.Neighbours.{after_is, after_none, link_in, high_after}
use Rattle.ceal_order.proofs.run.link_after.Goals as goal

pub next_at-after-requires : goal.next_at-after-requires
next_at-after-requires c = link_in c.args.links.now (stamps_of c.args.links.now) c.requires.line c.args.at c.requires.here

pub returns-then-after-clause-none : goal.returns-then-after-clause-none
returns-then-after-clause-none c =
    let end = after_none c.args.links.now (stamps_of c.args.links.now) c.requires.line c.args.at c.requires.here (sym c.next_at-after.ensures ∙ c.if-after.true) in
    λ s s_in later. let below = place_below s (stamps_of c.args.links.now) s_in in absurd (omega (arith, end, below, later))

pub label_at-requires : goal.label_at-requires
label_at-requires c =
    let inside : next_of c.args.links.now c.args.at ≢ no_link = λ e. c.if-after.false (c.next_at-after.ensures ∙ e) in
    rw c.next_at-after.ensures (link_in c.args.links.now (stamps_of c.args.links.now) c.requires.line _
    (after_is c.args.links.now (stamps_of c.args.links.now) c.requires.line c.args.at c.requires.here inside).0)

pub returns-then-label_at-high-clause-none : goal.returns-then-label_at-high-clause-none
returns-then-label_at-high-clause-none c =
    let inside : next_of c.args.links.now c.args.at ≢ no_link = λ e. c.if-after.false (c.next_at-after.ensures ∙ e) in
    let after = rw (← c.next_at-after.ensures) at (after_is c.args.links.now (stamps_of c.args.links.now) c.requires.line c.args.at c.requires.here inside) in
    high_after c.args.links.now (stamps_of c.args.links.now) c.requires.line c.args.at c.next_at-after.result c.args.high after.0 after.1 (rw (← c.label_at.ensures) c.if-label_at-high.true)

pub returns-clause-some_in : goal.returns-clause-some_in
returns-clause-some_in c =
    let inside : next_of c.args.links.now c.args.at ≢ no_link = λ e. c.if-after.false (c.next_at-after.ensures ∙ e) in
    rw c.next_at-after.ensures (after_is c.args.links.now (stamps_of c.args.links.now) c.requires.line c.args.at c.requires.here inside).0

pub returns-clause-some : goal.returns-clause-some
returns-clause-some c =
    let inside : next_of c.args.links.now c.args.at ≢ no_link = λ e. c.if-after.false (c.next_at-after.ensures ∙ e) in
    rw c.next_at-after.ensures (after_is c.args.links.now (stamps_of c.args.links.now) c.requires.line c.args.at c.requires.here inside).1
