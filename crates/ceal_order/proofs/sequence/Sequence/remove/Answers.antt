use Rattle.std.proofs.Common.{◌≡◌, ◌+◌, ◌-◌, length, remove, sym, ap, ◌∙◌, arith, length-append}
use Rattle.ceal_order.specs.Tree.{items_of}
use Rattle.ceal_order.proofs.TreeLemmas.{remove-back}
use Rattle.ceal_order.proofs.sequence.Sequence.remove.Goals as goal

pub returns-else-index-before : goal.returns-else-index-before
returns-else-index-before g c =
    let long = length-append (items_of c.self.inside.front) c.self.inside.last.items in
    let at : c.args.index ≡ length (items_of c.self.inside.front) + (c.args.index - c.count-before.result) = omega
    (arith, c.count-before.ensures, c.self.invariant.few, long, c.if-index-before.false) in
    rw c.remove.ensures.items (sym (remove-back _ _ _ _ at) ∙ ap (λ l. remove l c.args.index) c.self.view_is)
