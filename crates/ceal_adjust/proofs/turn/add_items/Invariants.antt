use Rattle.std.proofs.Common.{◌≡◌, ◌++◌, take}
use Rattle.ceal_adjust.proofs.turn.add_items.Given as goal

abbrev pub invariant-loop-item : goal.invariant-loop-item
invariant-loop-item l = l.out.items ≡ l.fn.out.items ++ take l.item-index l.items
