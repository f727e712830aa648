use Rattle.std.proofs.Common.{ℕ, ◌-◌, ◌^◌, ◌≤◌, subst, ⊎_elim, arith}
use Rattle.std.proofs.lemmas.Nat.{leading_length}
use Rattle.std.proofs.lemmas.Bool.{cases_lt}
use Rattle.std.proofs.Math.Nat.{pow-le-pow_right}
use Rattle.ceal_words.specs.Lengths.{RoundsTo}
use Rattle.ceal_words.proofs.lengths.size_class.Goals as goal

pub returns-clause-small : goal.returns-clause-small
returns-clause-small c =
    let found = leading_length 32 (c.args.len - 1) (omega (arith, c.requires)) in
    ⊎_elim (λ few. omega (arith, few, found.1))
    (λ many. let large : 2 ^ 17 ≤ 2 ^ found.0 = pow-le-pow_right (omega arith) many in absurd (omega (arith, large, found.3, c.requires)))
    (cases_lt found.0 17)

pub returns-clause-rounds : goal.returns-clause-rounds
returns-clause-rounds c =
    let found = leading_length 32 (c.args.len - 1) (omega (arith, c.requires)) in
    subst (λ (k : ℕ). RoundsTo c.args.len (2 ^ k)) {x = found.0} (omega (arith, found.1))
    (record { fits = omega (arith, found.2, c.requires); least = omega (arith, found.3, c.requires) })
