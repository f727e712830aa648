use Rattle.std.proofs.Common.{length}
use Rattle.ceal_record.proofs.Places.{SoFar}
use Rattle.ceal_record.proofs.numbers.Numbers.new.Given as goal

abbrev pub invariant-loop-item : goal.invariant-loop-item
invariant-loop-item l = SoFar l.numbers l.items l.fn.items

abbrev pub decreases-loop-item : goal.decreases-loop-item
decreases-loop-item l = length l.items
