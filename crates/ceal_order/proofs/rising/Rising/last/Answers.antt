use Rattle.std.proofs.Common.{◌≡◌, ◌-◌, Some, get_or, length, ap, sym, subst, ◌∙◌, arith}
use Rattle.ceal_order.specs.declared.stamp.Stamp.{Stamp}
use Rattle.ceal_order.specs.Rising.{numbers, last_stamp}
use Rattle.ceal_order.proofs.LastStamps.{last-at, take-all}
use Rattle.ceal_order.proofs.Searching.{blank, numbers-at, length-numbers}
use Rattle.ceal_order.proofs.rising.Rising.last.Goals as goal

pub returns-clause-some : goal.returns-clause-some
returns-clause-some c =
    let ss = c.self.inside.stamps in
    let n = c.len-count.result in
    let is : length (numbers ss) ≡ n = omega (arith, length-numbers ss, c.len-count.ensures) in
    let found = last-at 0 n (numbers ss) (omega (arith, c.if-count-eq0.false)) (omega (arith, is)) in
    let here = numbers-at ss (n - 1) blank (omega (arith, c.if-count-eq0.false, c.len-count.ensures)) ∙ ap (λ (s : Stamp). s.0) (c.get.ensures blank) in
    rw (← c.self.view_is) (sym (ap last_stamp (rw is at (take-all (numbers ss)))) ∙ found ∙ ap Some here)
