use Rattle.std.proofs.Common.{◌<◌, ◌^◌, ◌/◌, arith}
use Rattle.std.proofs.Math.Nat.{div-lt_self}
use Rattle.std.proofs.Math.Pow.{pow-lt}
use Rattle.ceal_order.proofs.labels.free_step.Goals as goal

pub returns : goal.returns
returns c =
    let some : 0 < c.args.room = omega (arith, c.if-room-lt2.false) in
    let more : 1 < 2 ^ c.args.bits = pow-lt {i = 0} {j = c.args.bits} c.requires.some in
    let less : c.args.room / 2 ^ c.args.bits < c.args.room = div-lt_self some more in
    (omega (arith, c.max.ensures), omega (arith, c.max.ensures, less, c.if-room-lt2.false))
