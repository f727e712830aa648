use Rattle.std.proofs.Common.{◌<◌, ◌*◌, ◌/◌, ◌^◌, arith}
use Rattle.std.proofs.Math.Nat.{mod-eq_of_lt}
use Rattle.ceal_order.proofs.Powers.{aligned}
use Rattle.ceal_order.proofs.run.range_start.Goals as goal

pub returns : goal.returns
returns c =
    let whole = aligned c.args.label c.args.bits c.requires.bits c.requires.label in
    let small : c.args.label / 2 ^ c.args.bits * 2 ^ c.args.bits < 2 ^ 64 = omega (arith, whole) in
    rw (mod-eq_of_lt small) whole
