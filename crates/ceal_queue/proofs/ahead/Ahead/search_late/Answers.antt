use Rattle.std.proofs.Common.{◌≡◌, ◌≢◌, ◌∙◌, suc, ◌∷◌, refl, arith}
use Rattle.std.proofs.lemmas.Bool.{eq-eqb, false≢true}
use Rattle.ceal_order.specs.Rising.{numbers, count_before}
use Rattle.ceal_queue.proofs.QueueLemmas.{first_counts}
use Rattle.ceal_queue.proofs.ahead.Ahead.search_late.Goals as goal

pub returns-in-Err-clause-before : goal.returns-in-Err-clause-before
returns-in-Err-clause-before c =
    let order = c.args.order.now.stamps in
    let first = c.in-Some.first.0 in
    let rest = numbers c.self.inside.rest.items in
    let rising = rw (← c.self.view_is, c.in-Some.is) at c.requires.rising in
    let late = rw (← c.self.view_is, c.in-Some.is) at c.requires.late in
    let other : first ≢ c.args.stamp.0 = λ e. false≢true (c.if-eq.ensures ∙ eq-eqb first c.args.stamp.0 e) in
    let one : suc (count_before order c.args.stamp.0 rest) ≡ count_before order c.args.stamp.0 (first ∷ rest) =
    first_counts order c.args.stamp.0 first rest rising c.requires.here other (late first refl) in
    rw (← c.self.view_is, c.in-Some.is) (omega (arith, c.in-Err.ensures.before, one))
