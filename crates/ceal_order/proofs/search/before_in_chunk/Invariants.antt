use Rattle.std.proofs.Common.{◌≤◌, ◌-◌, length}
use Rattle.ceal_order.specs.Rising.{numbers, count_before}
use Rattle.ceal_order.proofs.search.before_in_chunk.Given as goal

abbrev pub invariant-loop-low : goal.invariant-loop-low
invariant-loop-low l = record {
  front : l.low ≤ count_before l.order.stamps l.stamp.0 (numbers l.stamps);
  back : count_before l.order.stamps l.stamp.0 (numbers l.stamps) ≤ l.high;
  within : l.high ≤ length l.stamps;
}

abbrev pub decreases-loop-low : goal.decreases-loop-low
decreases-loop-low l = l.high - l.low
