use Rattle.std.proofs.Common.{below_more, arith, sym, ap, ◌∙◌}
use Rattle.std.proofs.lemmas.Bool.{eqb-true, eqb-false}
use Rattle.ceal_order.specs.declared.stamp.Stamp.{Stamp}
use Rattle.ceal_order.proofs.Searching.{blank, numbers-at, length-numbers}
use Rattle.ceal_order.proofs.Editing.{without_absent, without_at}
use Rattle.ceal_order.proofs.rising.index_of.Goals as goal

pub returns-then-eq-clause-some : goal.returns-then-eq-clause-some
returns-then-eq-clause-some c =
    let within = rw c.len-at-end.ensures at c.loop-at-test.true in
    let here = numbers-at c.args.stamps.now c.loop-at.at blank within ∙ (ap (λ (s : Stamp). s.0) (c.get.ensures blank) ∙ eqb-true _ _ (sym c.eq.ensures ∙ c.if-eq.true)) in
    (within, without_at _ _ _ (omega (arith, within, length-numbers c.args.stamps.now)) here c.loop-at.invariant)

pub loop-at-preserved : goal.loop-at-preserved
loop-at-preserved c =
    let within = rw c.len-at-end.ensures at c.loop-at-test.true in
    below_more _ _ c.loop-at.invariant
    (λ here. eqb-false _ _ (sym c.eq.ensures ∙ c.if-eq.false)
    (sym (numbers-at c.args.stamps.now c.loop-at.at blank within ∙ ap (λ (s : Stamp). s.0) (c.get.ensures blank)) ∙ here))

pub returns-clause-none : goal.returns-clause-none
returns-clause-none c =
    without_absent _ _ (λ k less. c.loop-at.invariant k (omega (arith, less, c.loop-at-test.false, c.len-at-end.ensures, length-numbers c.args.stamps.now)))
