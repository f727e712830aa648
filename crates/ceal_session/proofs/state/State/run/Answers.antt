use Rattle.std.proofs.Common.{None}
use Rattle.ceal_session.proofs.Replies.ReplyAfterRun.{run-ok, run-goes, run-left}
use Rattle.ceal_session.proofs.Replies.TextOfReply.{on-ok}
use Rattle.ceal_session.specs.SessionState.{situation}
use Rattle.ceal_session.proofs.state.State.run.Goals as goal

pub returns-clause-ok : goal.returns-clause-ok
returns-clause-ok c =
    run-ok (situation c.args.self.now) (situation c.start-outcome.new.self) c.args.call.now None c.start-outcome.result c.start-outcome.ensures.outcome c.reply_to.result c.reply_to.ensures

pub returns-clause-trace : goal.returns-clause-trace
returns-clause-trace c =
    run-goes (situation c.args.self.now) (situation c.start-outcome.new.self) c.args.call.now None c.start-outcome.result c.start-outcome.ensures.outcome c.reply_to.result c.reply_to.ensures

pub returns-clause-err : goal.returns-clause-err
returns-clause-err c =
    run-left (situation c.args.self.now) (situation c.start-outcome.new.self) c.args.call.now None c.start-outcome.result c.start-outcome.ensures.outcome c.reply_to.result c.reply_to.ensures

pub returns-clause-cost : goal.returns-clause-cost
returns-clause-cost c = on-ok c.reply_to.result c.start-outcome.ensures.cost
