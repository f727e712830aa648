use Rattle.ceal_many.specs.Lines.{For, Unreadable}
use Rattle.ceal_many.proofs.Replying.{blank-said, other-said, blank-replied, unreadable-replied, unreadable-lost, named-replied, named-lost}
use Rattle.ceal_many.proofs.many.Many.command.Goals as goal

-- a blank line is for no session and has no reply
pub returns-then-is_blank-clause-reply : goal.returns-then-is_blank-clause-reply
returns-then-is_blank-clause-reply g c =
    blank-replied g.M.Made.Answerer.stands g.M.Made.Answerer.answers (g.M.Made.Answerer.opening (g.M.Maker.beginning c.args.self.now.maker)) g.M.Made.Answerer.leaves
    c.args.self.now.sessions c.args.line.now c.empty.result
    (blank-said c.args.line.now c.is_blank.result c.is_blank.ensures c.if-is_blank.true) c.empty.ensures.value

-- the line names a session, whose reply it is
pub returns-in-Some-clause-reply : goal.returns-in-Some-clause-reply
returns-in-Some-clause-reply g c =
    rw (← c.self.view_is)
    (named-replied g.M.Made.Answerer.stands g.M.Made.Answerer.answers (g.M.Made.Answerer.opening (g.M.Maker.beginning c.self.inside.maker)) g.M.Made.Answerer.leaves
    c.self.inside.sessions.items c.args.line.now c.in-Some.name.now c.in-Some.line.now
    (other-said c.args.line.now c.is_blank.result (For c.in-Some.name.now c.in-Some.line.now) c.is_blank.ensures c.if-is_blank.false c.in-Some.ensures)
    c.answer_for.new.sessions.items c.answer_for.result c.answer_for.ensures.reply)

-- the line names a session, and there was no memory for its reply
pub returns-in-Some-clause-left : goal.returns-in-Some-clause-left
returns-in-Some-clause-left g c =
    rw (← c.self.view_is)
    (named-lost g.M.Made.Answerer.stands g.M.Made.Answerer.answers (g.M.Made.Answerer.opening (g.M.Maker.beginning c.self.inside.maker)) g.M.Made.Answerer.leaves
    c.self.inside.sessions.items c.args.line.now c.in-Some.name.now c.in-Some.line.now
    (other-said c.args.line.now c.is_blank.result (For c.in-Some.name.now c.in-Some.line.now) c.is_blank.ensures c.if-is_blank.false c.in-Some.ensures)
    c.answer_for.new.sessions.items c.answer_for.result c.answer_for.ensures.left)

-- the line is not blank and names no session, so it is unreadable
pub returns-in-None-clause-reply : goal.returns-in-None-clause-reply
returns-in-None-clause-reply g c =
    unreadable-replied g.M.Made.Answerer.stands g.M.Made.Answerer.answers (g.M.Made.Answerer.opening (g.M.Maker.beginning c.args.self.now.maker)) g.M.Made.Answerer.leaves
    c.args.self.now.sessions c.args.line.now
    (other-said c.args.line.now c.is_blank.result Unreadable c.is_blank.ensures c.if-is_blank.false c.in-None.ensures) c.from_slice.result c.from_slice.ensures.equal

-- the same, where there was no memory for saying so
pub returns-in-None-clause-left : goal.returns-in-None-clause-left
returns-in-None-clause-left g c =
    unreadable-lost g.M.Made.Answerer.stands g.M.Made.Answerer.answers (g.M.Made.Answerer.opening (g.M.Maker.beginning c.args.self.now.maker)) g.M.Made.Answerer.leaves
    c.args.self.now.sessions c.args.line.now
    (other-said c.args.line.now c.is_blank.result Unreadable c.is_blank.ensures c.if-is_blank.false c.in-None.ensures) c.from_slice.result
