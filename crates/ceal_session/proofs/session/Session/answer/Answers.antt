use Rattle.std.proofs.Common.{IfOk, List, ℕ, subst}
use Rattle.ceal_session.proofs.Replies.StandsAfter.{after-answer, answers-in}
use Rattle.ceal_session.specs.Consistency.{IsIn}
use Rattle.ceal_session.specs.Laws.{AnswersIn}
use Rattle.ceal_session.specs.SessionState.{Held, situation}
use Rattle.ceal_session.specs.State.{Situation}
use Rattle.ceal_session.proofs.session.Session.answer.Goals as goal

pub invariant_of-self : goal.invariant_of-self
invariant_of-self c =
    let o = c.answer_line in
    after-answer c.kept_line.ensures.law c.some_reply.ensures.dropped c.self.inside.state o.new.state c.self.invariant c.args.line.now o.result o.ensures.reply o.ensures.trace o.ensures.left

-- the law of lines, applied to this one
pub returns-clause-answers : goal.returns-clause-answers
returns-clause-answers c =
    let o = c.answer_line in
    subst (λ (k : Held). IfOk o.result (λ text. (m : Situation) → IsIn (situation k) m → AnswersIn m c.args.line.now text (situation o.new.state))) c.self.view_is
    (answers-in c.kept_line.ensures.law c.self.inside.state o.new.state c.args.line.now o.result o.ensures.reply o.ensures.trace)
