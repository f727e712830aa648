use Rattle.std.proofs.Common.{◌≡◌, ◌<◌, ◌∙◌, ℕ, Some, subst, sym}
use Rattle.std.proofs.lemmas.Bool.{false≢true}
use Rattle.ceal_order.specs.Stamps.{place}
use Rattle.ceal_queue.proofs.QueueLemmas.{headed, absent_ahead, none_ahead}
use Rattle.ceal_queue.proofs.ahead.Ahead.search.Goals as goal

pub returns-then-before-clause-absent : goal.returns-then-before-clause-absent
returns-then-before-clause-absent c =
    let first = headed c.args.self.now.items c.in-Some.first.0 c.in-Some.ensures.first in
    let rising = rw (← first) at c.requires.rising in
    rw (← first) (absent_ahead _ _ _ _ rising (c.before-in-Some.ensures.before.0 c.if-before.true))

pub returns-then-before-clause-before : goal.returns-then-before-clause-before
returns-then-before-clause-before c =
    let first = headed c.args.self.now.items c.in-Some.first.0 c.in-Some.ensures.first in
    let rising = rw (← first) at c.requires.rising in
    rw (← first) (none_ahead _ _ _ _ rising (c.before-in-Some.ensures.before.0 c.if-before.true))

pub search_late-requires-clause-late : goal.search_late-requires-clause-late
search_late-requires-clause-late c = λ first is less.
    let one : Some c.in-Some.first.0 ≡ Some first = c.in-Some.ensures.first ∙ is in
    let same : c.in-Some.first.0 ≡ first = cc in
    let yes = c.before-in-Some.ensures.before.1 (subst (λ (k : ℕ). place c.args.stamp.0 c.args.order.now.stamps < place k c.args.order.now.stamps) (sym same) less) in
    false≢true (sym c.if-before.false ∙ yes)
