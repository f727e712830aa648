use Rattle.std.proofs.Common.{◌≡◌, IfOk, refl, sym, subst}
use Rattle.std.specs.Prelude.{IfSome}
use Rattle.ceal_session.proofs.Engine.CostOfFirstTraces.{cost-is, few-items}
use Rattle.ceal_session.proofs.Replies.TextOfReply.{if-ok}
use Rattle.ceal_session.specs.SessionState.{IsRunOn, call_cost}
use Rattle.ceal_session.specs.UndoneEdits.{undone}
use Rattle.ceal_theory.specs.Computed.{first_of}
use Rattle.ceal_session.proofs.bound.cost_since.Goals as goal

pub returns-in-None : goal.returns-in-None
returns-in-None c = rw c.in-None.ensures.value refl

-- the call fits the old inputs, on which it ran
pub first_items-requires : goal.first_items-requires
first_items-requires c =
    let e = c.args.engine.now in
    let old = undone c.args.edits.now e.inputs in
    let runs = subst (λ o. IfSome o (λ call. IsRunOn e old call × IsRunOn e e.inputs call)) c.in-Some.ensures.value c.requires.measured.1 in
    record { fits = rw (c.undo.ensures, c.in_ok-before.ensures.value) runs.0.fits }

-- the call fits the new inputs, too
pub first_items-requires-in-Some : goal.first_items-requires-in-Some
first_items-requires-in-Some c =
    let e = c.args.engine.now in
    let old = undone c.args.edits.now e.inputs in
    let runs = subst (λ o. IfSome o (λ call. IsRunOn e old call × IsRunOn e e.inputs call)) c.in-Some.ensures.value c.requires.measured.1 in
    record { fits = rw c.input_blocks.ensures.value runs.1.fits }

pub cost-requires-clause-old : goal.cost-requires-clause-old
cost-requires-clause-old c = few-items c.args.engine.now.fuel c.phase-phase.ensures.whole.fuel.1 _ c.in_ok-old-in-Some.old c.in_ok-old-in-Some.ensures.first

pub cost-requires-clause-new : goal.cost-requires-clause-new
cost-requires-clause-new c = few-items c.args.engine.now.fuel c.phase-phase.ensures.whole.fuel.1 _ c.in_ok-new-in-Some.new c.in_ok-new-in-Some.ensures.first

-- the bound is the cost of the two runs from scratch, aligned
pub returns : goal.returns
returns c =
    let e = c.args.engine.now in
    let old = undone c.args.edits.now e.inputs in
    subst (λ o. IfOk c.cost.result (λ n. n ≡ call_cost e.code e.fuel old e.inputs o)) (sym c.in-Some.ensures.value)
    (if-ok c.cost.result
    (λ n k. cost-is e.fuel (first_of e.code old e.fuel c.in-Some.function c.in-Some.args.now)
    (first_of e.code e.inputs e.fuel c.in-Some.function c.in-Some.args.now) c.in_ok-old-in-Some.old c.in_ok-new-in-Some.new n
    (rw (c.undo.ensures, c.in_ok-before.ensures.value) at c.in_ok-old-in-Some.ensures.first) (rw c.input_blocks.ensures.value at c.in_ok-new-in-Some.ensures.first) k)
    c.cost.ensures)
