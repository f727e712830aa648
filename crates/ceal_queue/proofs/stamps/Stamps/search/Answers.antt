use Rattle.std.proofs.Common.{◌≡◌, ◌<◌, true, get_or, length, sym, ap, subst, ◌∙◌, arith}
use Rattle.std.proofs.lemmas.Bool.{eqb-true, eqb-false}
use Rattle.ceal_order.specs.declared.stamp.Stamp.{Stamp}
use Rattle.ceal_order.specs.Stamps.{is_in}
use Rattle.ceal_order.specs.Rising.{numbers}
use Rattle.ceal_order.proofs.Searching.{blank, numbers-at, length-numbers, in_at, count_past, count_here}
use Rattle.ceal_order.proofs.Editing.{count_of_member}
use Rattle.ceal_queue.proofs.QueueLemmas.{absent_everywhere}
use Rattle.ceal_queue.proofs.stamps.Stamps.search.Goals as goal

pub returns-then-at-len-clause-absent : goal.returns-then-at-len-clause-absent
returns-then-at-len-clause-absent c =
    absent_everywhere _ _ (count_past c.args.order.now.stamps c.args.stamp.0 (numbers c.args.self.now.items) c.requires.rising
    (λ less. absurd (omega (arith, less, c.count_before-at.ensures.count, c.if-at-len.true, c.len.ensures, length-numbers c.args.self.now.items))))

pub returns-then-eq-clause-there : goal.returns-then-eq-clause-there
returns-then-eq-clause-there c =
    let within : c.count_before-at.result < length c.args.self.now.items = omega (arith, c.count_before-at.ensures.within, c.if-at-len.false, c.len.ensures) in
    let here : get_or (numbers c.args.self.now.items) c.count_before-at.result 0 ≡ c.args.stamp.0
    = numbers-at c.args.self.now.items c.count_before-at.result blank within ∙ (ap (λ (s : Stamp). s.0) (c.get.ensures blank) ∙ eqb-true _ _ (sym c.eq.ensures ∙ c.if-eq.true)) in
    subst (λ k. is_in k (numbers c.args.self.now.items) ≡ true) here (in_at (numbers c.args.self.now.items) c.count_before-at.result (omega (arith, within, length-numbers c.args.self.now.items)))

pub returns-then-eq-clause-place : goal.returns-then-eq-clause-place
returns-then-eq-clause-place c =
    c.count_before-at.ensures.count ∙ count_of_member _ _ _ c.requires.rising (returns-then-eq-clause-there c)

pub returns-else-eq-clause-absent : goal.returns-else-eq-clause-absent
returns-else-eq-clause-absent c =
    let within : c.count_before-at.result < length c.args.self.now.items = omega (arith, c.count_before-at.ensures.within, c.if-at-len.false, c.len.ensures) in
    absent_everywhere _ _ (count_here c.args.order.now.stamps c.args.stamp.0 (numbers c.args.self.now.items) c.count_before-at.result c.requires.rising c.count_before-at.ensures.count
    (λ here. eqb-false _ _ (sym c.eq.ensures ∙ c.if-eq.false)
    (sym (numbers-at c.args.self.now.items c.count_before-at.result blank within ∙ ap (λ (s : Stamp). s.0) (c.get.ensures blank)) ∙ here)))
