use Rattle.std.proofs.Common.{◌-◌, length}
use Rattle.ceal_order.specs.Stamps.{place}
use Rattle.ceal_memo.proofs.Walking.{Passed}
use Rattle.ceal_memo.proofs.sought.first_with_key.Given as goal

-- those up to the one that was passed last have another key
abbrev pub invariant-loop-next : goal.invariant-loop-next
invariant-loop-next g l = Passed l.order.stamps l.list (g.S.Sought.is l.sought) l.fn.after.0 l.passed.0

abbrev pub decreases-loop-next : goal.decreases-loop-next
decreases-loop-next g l = length l.order.stamps - place l.passed.0 l.order.stamps
