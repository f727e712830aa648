use Rattle.std.proofs.Common.{◌≡◌, ◌*◌, ◌<◌, ◌^◌, arith}
use Rattle.std.proofs.Math.Nat.{mod-eq_of_lt}
use Rattle.ceal_order.proofs.Powers.{wide_gap, gaps_fit, two_fits}
use Rattle.ceal_order.proofs.labels.gap_in.Goals as goal

pub returns-clause-wide : goal.returns-clause-wide
returns-clause-wide c =
    let one : 1 * 2 ^ c.args.bits ≡ 2 ^ c.args.bits = omega arith in
    let small : 2 ^ c.args.bits < 2 ^ 64 = omega (arith, two_fits c.args.bits c.requires.most) in
    rw (c.from.ensures, one, mod-eq_of_lt small) (wide_gap c.args.count c.args.bits c.requires.fewest c.requires.some c.requires.sparse)

pub returns-clause-fits : goal.returns-clause-fits
returns-clause-fits c =
    let one : 1 * 2 ^ c.args.bits ≡ 2 ^ c.args.bits = omega arith in
    let small : 2 ^ c.args.bits < 2 ^ 64 = omega (arith, two_fits c.args.bits c.requires.most) in
    rw (c.from.ensures, one, mod-eq_of_lt small) (gaps_fit c.args.count (2 ^ c.args.bits))
