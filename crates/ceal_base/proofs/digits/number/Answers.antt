use Rattle.std.proofs.Common.{◌≡◌, ◌<◌, ◌+◌, ◌-◌, ◌*◌, ℕ, get_or, drop, arith, rules, ap, ◌∙◌}
use Rattle.ceal_base.specs.Digits.{number_with_digits}
use Rattle.ceal_base.proofs.DigitLemmas.{value_all, value_large, value_more}
use Rattle.ceal_base.proofs.digits.number.Goals as goal

pub returns-in_err-number : goal.returns-in_err-number
returns-in_err-number c =
    let h : c.args.most < 10 * c.loop-byte.number + (get_or c.args.digits.now c.loop-byte.byte-index 0 - 48) =
    omega (arith, c.in_err-number.ensures, c.from-digit.ensures, c.saturating_sub.ensures) in
    let l = value_large c.loop-byte.number c.loop-byte.byte-index c.args.digits.now c.loop-byte.invariant.same c.args.most (omega arith) h in
    record { value = search (l, rules) }

pub loop-byte-preserved : goal.loop-byte-preserved
loop-byte-preserved c =
    let e : c.in_ok-number.number ≡ 10 * c.loop-byte.number + (get_or c.args.digits.now c.loop-byte.byte-index 0 - 48) =
    omega (arith, c.in_ok-number.ensures.0, c.from-digit.ensures, c.saturating_sub.ensures) in
    record {
      small = c.in_ok-number.ensures.1;
      same = ap (λ (v : ℕ). number_with_digits v (drop (c.loop-byte.byte-index + 1) c.args.digits.now)) e
          ∙ value_more c.loop-byte.number c.loop-byte.byte-index c.args.digits.now c.loop-byte.invariant.same (omega arith);
    }

pub returns : goal.returns
returns c = record {
  value = (value_all c.loop-byte.number c.loop-byte.byte-index c.args.digits.now c.loop-byte.invariant.same (omega arith), c.loop-byte.invariant.small);
}
