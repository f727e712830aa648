use Rattle.std.proofs.Common.{◌≡◌, ◌-◌, Some, get_or, length, ap, ◌∙◌, arith}
use Rattle.ceal_order.specs.declared.stamp.Stamp.{Stamp}
use Rattle.ceal_order.specs.Rising.{numbers}
use Rattle.ceal_order.proofs.LastStamps.{last-at}
use Rattle.ceal_order.proofs.Searching.{blank, numbers-at, length-numbers}
use Rattle.ceal_order.proofs.rising.Rising.last_before.Goals as goal

pub returns-clause-some : goal.returns-clause-some
returns-clause-some c =
    let ss = c.self.inside.stamps in
    let n = c.searched-count.result in
    let within = c.searched-count.ensures.within in
    let found = last-at 0 n (numbers ss) (omega (arith, c.if-count-eq0.false)) (omega (arith, within, length-numbers ss)) in
    let here = numbers-at ss (n - 1) blank (omega (arith, c.if-count-eq0.false, within)) ∙ ap (λ (s : Stamp). s.0) (c.get.ensures blank) in
    rw (← c.self.view_is, ← c.searched-count.ensures.count) (found ∙ ap Some here)
