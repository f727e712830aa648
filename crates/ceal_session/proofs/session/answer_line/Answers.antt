use Rattle.std.proofs.Common.{◌∙◌, sym, subst}
use Rattle.ceal_engine.specs.Cost.{CostOfCall}
use Rattle.ceal_session.proofs.Replies.KeptBound.{answers-kept, bounds-kept, left-kept, repairs-kept}
use Rattle.ceal_session.proofs.Replies.TextOfReply.{answers, long-quiet, if-both-ok, if-ok, on-err, on-ok}
use Rattle.ceal_session.specs.Marks.{KeepsMarks}
use Rattle.ceal_session.specs.SessionState.{situation}
use Rattle.ceal_session.specs.State.{numbers_in}
use Rattle.ceal_theory.specs.Pasts.{goes}
use Rattle.ceal_session.proofs.session.answer_line.Goals as goal

-- a blank line or a comment has no reply, and any other has that of its command
pub returns-clause-reply : goal.returns-clause-reply
returns-clause-reply c =
    let mid = c.reply_of.new.state in
    if-ok c.answer_of.result
    (λ text h. answers-kept c.args.state.now mid c.answer_of.new.state c.answer_of.ensures.kept c.args.line.now text (numbers_in (situation c.args.state.now))
    (answers c.args.state.now mid (goes (situation mid).past) c.args.line.now c.in_ok-reply.reply text c.in_ok-reply.ensures.quiet c.in_ok-reply.ensures.reply h))
    c.answer_of.ensures.ok

pub returns-clause-long : goal.returns-clause-long
returns-clause-long c =
    let mid = c.reply_of.new.state in
    if-both-ok c.answer_of.result
    (λ text h same l. same l ∙ c.in_ok-reply.ensures.quiet (long-quiet mid.state (numbers_in (situation mid)) c.in_ok-reply.reply text h l))
    c.answer_of.ensures.ok c.answer_of.ensures.long

pub returns-clause-trace : goal.returns-clause-trace
returns-clause-trace c =
    on-ok c.answer_of.result (repairs-kept c.args.state.now c.reply_of.new.state c.answer_of.new.state c.answer_of.ensures.kept c.args.line.now c.in_ok-reply.ensures.trace)

pub returns-clause-bounded : goal.returns-clause-bounded
returns-clause-bounded c =
    on-ok c.answer_of.result (bounds-kept c.args.state.now c.reply_of.new.state c.answer_of.new.state c.answer_of.ensures.kept c.args.line.now c.in_ok-reply.ensures.bounded)

pub returns-clause-left : goal.returns-clause-left
returns-clause-left c =
    on-err c.answer_of.result
    (λ h. left-kept c.args.state.now c.reply_of.new.state c.answer_of.new.state c.answer_of.ensures.kept c.args.line.now (c.in_ok-reply.ensures.quiet h)) c.answer_of.ensures.err

-- a text of the reply leaves the engine as it is
pub returns-clause-cost : goal.returns-clause-cost
returns-clause-cost c =
    on-ok c.answer_of.result (subst (λ e. CostOfCall c.args.state.now.engine e) (sym c.answer_of.ensures.engine) c.in_ok-reply.ensures.cost)

pub returns-clause-marks : goal.returns-clause-marks
returns-clause-marks c = subst (λ e. KeepsMarks c.args.state.now.engine e) (sym c.answer_of.ensures.engine) c.reply_of.ensures.marks
