use Rattle.std.proofs.Common.{◌^◌, ◌≤◌, ⊎_elim, arith}
use Rattle.std.proofs.lemmas.Nat.{leading_length}
use Rattle.std.proofs.lemmas.Bool.{cases_lt}
use Rattle.std.proofs.Math.Nat.{pow-le-pow_right}
use Rattle.ceal_order.proofs.labels.bits_of.Goals as goal

pub returns-clause-few : goal.returns-clause-few
returns-clause-few c =
    let found = leading_length 64 c.args.count (omega (arith, c.requires.few)) in
    ⊎_elim (λ few. omega (arith, few, found.1))
    (λ many. let large : 2 ^ 33 ≤ 2 ^ found.0 = pow-le-pow_right (omega arith) many in absurd (omega (arith, large, found.3, c.requires.few)))
    (cases_lt found.0 33)
