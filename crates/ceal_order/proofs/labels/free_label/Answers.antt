use Rattle.std.proofs.Common.{◌≢◌, ◌<◌, ◌^◌, arith, ◌∙◌}
use Rattle.ceal_order.specs.Links.{stamps_of, label_of, next_of, no_link}
use Rattle.ceal_order.proofs.Neighbours.{link_in, label_in, after_is, rises}
use Rattle.ceal_order.proofs.labels.free_label.Goals as goal

pub label_at-low-requires : goal.label_at-low-requires
label_at-low-requires c = link_in c.args.links.now (stamps_of c.args.links.now) c.requires.line c.args.at c.requires.here

pub next_at-next-requires : goal.next_at-next-requires
next_at-next-requires c = link_in c.args.links.now (stamps_of c.args.links.now) c.requires.line c.args.at c.requires.here

pub overflow_sub-low : goal.overflow_sub-low
overflow_sub-low c =
    let low : label_of c.args.links.now c.args.at < 2 ^ 62 = label_in c.args.links.now (stamps_of c.args.links.now) c.requires.line c.args.at c.requires.here in
    omega (arith, c.label_at-low.ensures, low)

pub label_at-high-requires : goal.label_at-high-requires
label_at-high-requires c =
    let inside : next_of c.args.links.now c.args.at ≢ no_link = λ e. c.if-next.false (c.next_at-next.ensures ∙ e) in
    rw c.next_at-next.ensures (link_in c.args.links.now (stamps_of c.args.links.now) c.requires.line _
    (after_is c.args.links.now (stamps_of c.args.links.now) c.requires.line c.args.at c.requires.here inside).0)

pub overflow_sub-room : goal.overflow_sub-room
overflow_sub-room c =
    let links = c.args.links.now in
    let inside : next_of links c.args.at ≢ no_link = λ e. c.if-next.false (c.next_at-next.ensures ∙ e) in
    let after = rw (← c.next_at-next.ensures) at (after_is links (stamps_of links) c.requires.line c.args.at c.requires.here inside) in
    let less : label_of links c.args.at < label_of links c.next_at-next.result =
    rises links (stamps_of links) c.requires.line c.args.at c.next_at-next.result c.requires.here after.0 (omega (arith, after.1)) in
    omega (arith, c.label_at-low.ensures, c.label_at-high.ensures, less)
