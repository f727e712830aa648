use Rattle.std.proofs.Common.{◌≡◌, ◌+◌, ◌-◌, length, sym, arith}
use Rattle.ceal_order.proofs.TreeLemmas.{insert-back}
use Rattle.ceal_order.proofs.chunks.put_in_one.Goals as goal

pub returns-clause-ok : goal.returns-clause-ok
returns-clause-ok g c =
    let at : c.args.index ≡ length c.args.first.now.items + (c.args.index - c.len-here.result) = omega (arith, c.len-here.ensures, c.if-index-here.false, c.args.first.now.ok.0) in
    rw c.in_ok-put-2.ensures.ok (sym (insert-back c.args.first.now.items c.args.second.now.items _ _ c.args.item at))
