use Rattle.ceal_session.proofs.Replies.ReplyAfterRun.{again-ok, again-goes, again-left}
use Rattle.ceal_session.proofs.Replies.TextOfReply.{on-ok}
use Rattle.ceal_session.specs.SessionState.{situation}
use Rattle.ceal_session.proofs.state.State.propagate.Goals as goal

pub returns-clause-ok : goal.returns-clause-ok
returns-clause-ok c =
    again-ok (situation c.args.self.now) (situation c.advance-outcome.new.self) c.advance-outcome.result c.requires.called
    c.reply_to.result c.args.reads c.advance-outcome.ensures.outcome c.reply_to.ensures

pub returns-clause-trace : goal.returns-clause-trace
returns-clause-trace c =
    again-goes (situation c.args.self.now) (situation c.advance-outcome.new.self) c.advance-outcome.result c.requires.called
    c.reply_to.result c.args.reads c.advance-outcome.ensures.outcome c.reply_to.ensures

pub returns-clause-err : goal.returns-clause-err
returns-clause-err c =
    again-left (situation c.args.self.now) (situation c.advance-outcome.new.self) c.advance-outcome.result c.requires.called
    c.reply_to.result c.args.reads c.advance-outcome.ensures.outcome c.reply_to.ensures

pub returns-clause-cost : goal.returns-clause-cost
returns-clause-cost c = on-ok c.reply_to.result c.advance-outcome.ensures.cost
