use Rattle.std.proofs.Common.{sym, ◌∙◌}
use Rattle.std.proofs.lemmas.Bool.{false≢true}
use Rattle.ceal_memo.proofs.Walking.{fewer_left, passed_none, passed_all, passed_found, passed_until, passed_more}
use Rattle.ceal_memo.proofs.sought.first_with_key.Goals as goal

pub loop-next-init : goal.loop-next-init
loop-next-init g c = passed_none c.args.order.now.stamps c.args.list.now (g.S.Sought.is c.args.sought.now) c.args.after.0 c.requires.after

pub first_after-requires-clause-here : goal.first_after-requires-clause-here
first_after-requires-clause-here g c = c.loop-next.invariant.here

pub returns-clause-none : goal.returns-clause-none
returns-clause-none g c =
    passed_all c.args.order.now.stamps c.args.list.now (g.S.Sought.is c.args.sought.now) c.args.after.0 c.loop-next.passed.0 c.loop-next.invariant
    c.in_default.ensures.none c.args.until.0

pub returns-then-not-before-clause-none : goal.returns-then-not-before-clause-none
returns-then-not-before-clause-none g c =
    passed_until c.args.order.now.stamps c.args.list.now (g.S.Sought.is c.args.sought.now) c.args.after.0 c.loop-next.passed.0 c.loop-next.invariant
    c.in-Some.next.0 c.in-Some.ensures.some c.args.until.0
    (λ less. false≢true (sym c.if-not-before.true ∙ c.before-in-Some.ensures.before.1 less))

pub returns-then-has_key-clause-first : goal.returns-then-has_key-clause-first
returns-then-has_key-clause-first g c =
    passed_found c.args.order.now.stamps c.args.list.now (g.S.Sought.is c.args.sought.now) c.args.after.0 c.loop-next.passed.0 c.loop-next.invariant
    c.in-Some.next.0 c.in-Some.ensures.some (c.has_key.ensures.0 c.if-has_key.true)

pub loop-next-preserved : goal.loop-next-preserved
loop-next-preserved g c =
    passed_more c.args.order.now.stamps c.args.list.now (g.S.Sought.is c.args.sought.now) c.args.after.0 c.loop-next.passed.0 c.loop-next.invariant
    c.in-Some.next.0 c.in-Some.ensures.some c.requires.rising (λ so. false≢true (sym c.if-has_key.false ∙ c.has_key.ensures.1 so))

pub loop-next-smaller : goal.loop-next-smaller
loop-next-smaller g c =
    fewer_left c.args.order.now.stamps c.args.list.now (g.S.Sought.is c.args.sought.now) c.args.after.0 c.loop-next.passed.0 c.loop-next.invariant
    c.in-Some.next.0 c.in-Some.ensures.some c.requires.rising
