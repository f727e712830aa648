use Rattle.std.proofs.Common.{◌≡◌, ◌++◌}
use Rattle.ceal_dump.specs.Reading.{items_from}
use Rattle.ceal_dump.proofs.items.items.Given as goal

-- what is read from here on belongs after what was read so far
abbrev pub invariant-loop-left : goal.invariant-loop-left
invariant-loop-left l = record {
  same : l.items.items ++ (items_from l.left l.reader).0 ≡ (items_from l.count l.fn.reader).0;
  rest : (items_from l.left l.reader).1 ≡ (items_from l.count l.fn.reader).1;
}

abbrev pub decreases-loop-left : goal.decreases-loop-left
decreases-loop-left l = l.left
