use Rattle.std.proofs.Common.{◌≡◌, ◌++◌, length}
use Rattle.ceal_dump.specs.DumpText.{item_lines, SmallItems}
use Rattle.ceal_dump.proofs.text.put_items.Given as goal

-- with the text of what is left it is the text of all, and all is in range where what is left is
abbrev pub invariant-loop-item : goal.invariant-loop-item
invariant-loop-item l = record {
  text : l.out ++ item_lines l.items ≡ l.fn.out ++ item_lines l.fn.items;
  range : SmallItems l.items → SmallItems l.fn.items;
}

abbrev pub decreases-loop-item : goal.decreases-loop-item
decreases-loop-item l = length l.items
