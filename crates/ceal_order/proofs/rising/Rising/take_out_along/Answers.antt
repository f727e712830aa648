use Rattle.std.proofs.Common.{◌<◌, length, sym, ap, ◌∙◌, arith}
use Rattle.std.proofs.lemmas.Bool.{eqb-true, eqb-false}
use Rattle.ceal_order.specs.declared.stamp.Stamp.{Stamp}
use Rattle.ceal_order.specs.Rising.{numbers}
use Rattle.ceal_order.proofs.Searching.{blank, numbers-at, length-numbers, count_past, count_here}
use Rattle.ceal_order.proofs.Editing.{numbers-remove, without_absent}
use Rattle.ceal_order.proofs.StampLists.{rising_once, without_where}
use Rattle.ceal_order.proofs.rising.Rising.take_out_along.Goals as goal

pub returns-then-at-len : goal.returns-then-at-len
returns-then-at-len c =
    let rising = rw (← c.self.view_is) at c.requires.rising in
    rw (← c.self.view_is) (sym (without_absent _ _ (count_past c.args.order.now.stamps c.args.stamp.0 (numbers c.self.inside.stamps) rising
    (λ less. absurd (omega (arith, less, c.searched-at.ensures.count, c.if-at-len.true, c.len.ensures, length-numbers c.self.inside.stamps))))))

pub returns-then-eq : goal.returns-then-eq
returns-then-eq c =
    let rising = rw (← c.self.view_is) at c.requires.rising in
    let within : c.searched-at.result < length c.self.inside.stamps = omega (arith, c.searched-at.ensures.within, c.if-at-len.false, c.len.ensures) in
    let here = numbers-at c.self.inside.stamps c.searched-at.result blank within ∙ (ap (λ (s : Stamp). s.0) (c.get.ensures blank) ∙ eqb-true _ _ (sym c.eq.ensures ∙ c.if-eq.true)) in
    rw (c.remove.ensures, numbers-remove, ← c.self.view_is)
    (without_where c.args.stamp.0 _ _ (rising_once c.args.order.now.stamps _ rising) (omega (arith, within, length-numbers c.self.inside.stamps)) here)

pub returns-else-eq : goal.returns-else-eq
returns-else-eq c =
    let rising = rw (← c.self.view_is) at c.requires.rising in
    let within : c.searched-at.result < length c.self.inside.stamps = omega (arith, c.searched-at.ensures.within, c.if-at-len.false, c.len.ensures) in
    rw (← c.self.view_is) (sym (without_absent _ _ (count_here c.args.order.now.stamps c.args.stamp.0 (numbers c.self.inside.stamps) c.searched-at.result rising c.searched-at.ensures.count
    (λ here. eqb-false _ _ (sym c.eq.ensures ∙ c.if-eq.false)
    (sym (numbers-at c.self.inside.stamps c.searched-at.result blank within ∙ ap (λ (s : Stamp). s.0) (c.get.ensures blank)) ∙ here)))))
