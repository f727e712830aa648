use Rattle.std.proofs.Common.{◌≡◌, ◌+◌, ◌-◌, length, insert, sym, ap, ◌∙◌, arith, length-append}
use Rattle.ceal_order.specs.Tree.{items_of}
use Rattle.ceal_order.proofs.TreeLemmas.{insert-back}
use Rattle.ceal_order.proofs.sequence.Sequence.insert_in_room.Goals as goal

pub returns-clause-ok : goal.returns-clause-ok
returns-clause-ok g c =
    let long = length-append (items_of c.self.inside.front) c.self.inside.last.items in
    let at : c.args.index ≡ length (items_of c.self.inside.front) + (c.args.index - c.count-before.result) = omega
    (arith, c.count-before.ensures, c.self.invariant.few, long, c.if-index-before.false) in
    c.in_ok-put_last.ensures.ok ∙ (sym (insert-back _ _ _ _ c.args.item at) ∙ ap (λ l. insert l c.args.index c.args.item) c.self.view_is)
