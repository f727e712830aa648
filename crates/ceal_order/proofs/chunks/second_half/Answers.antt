use Rattle.std.proofs.lemmas.List.{take-append-drop, take_rest}
use Rattle.ceal_order.proofs.chunks.second_half.Goals as goal

pub returns-in-Ok-clause-ok : goal.returns-in-Ok-clause-ok
returns-in-Ok-clause-ok g c =
    rw (c.truncate.ensures.items, c.in-Ok.ensures.items, c.deref_mut.ensures.value, c.in_ok-second.ensures.items, c.deref.ensures.value, take_rest c.args.items.now.items 32)
    (take-append-drop 32 c.args.items.now.items)
