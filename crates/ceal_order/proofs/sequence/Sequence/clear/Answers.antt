use Rattle.std.proofs.Common.{◌<◌, ◌-◌, length, arith}
use Rattle.std.proofs.lemmas.List.{nil_from_length}
use Rattle.std.proofs.lemmas.List.Edits.{length-remove}
use Rattle.ceal_order.proofs.sequence.Sequence.clear.Goals as goal

pub loop-left-preserved : goal.loop-left-preserved
loop-left-preserved g c =
    let long = c.loop-left.invariant in
    let within : c.loop-left.left - 1 < length c.loop-left.self = omega (arith, long, c.loop-left-test.true) in
    rw c.remove.ensures (omega (arith, long, length-remove c.loop-left.self (c.loop-left.left - 1) within))

pub returns : goal.returns
returns g c =
    let long = c.loop-left.invariant in
    nil_from_length c.loop-left.self (omega (arith, long, c.loop-left-test.false))
